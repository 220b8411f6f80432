use Rattle.std.proofs.lemmas.Result.{IfOk-weaker}
use Rattle.segment_join.proofs.Showing.{tells_page}
use Rattle.segment_join.proofs.sameness.has_same_page.Goals as goal

pub returns : goal.returns
returns c =
    IfOk-weaker c.is_same_page.result _ _ (λ same tells.
    tells_page c.args.one.now c.args.point c.args.other.now c.args.other_point c.args.page same c.opens_form.ensures.form
    c.opens_form-2.ensures.form tells)
    c.is_same_page.ensures

use Rattle.std.proofs.Common.{map}
use Rattle.segment_core.proofs.Reading.{shown_where}
use Rattle.segment_core.proofs.segment.Segment.page_at.Goals as goal

pub returns : goal.returns
returns c =
    shown_where (λ v. map (λ x. x.now) v.items) c.args.self.now c.args.page c.args.point c.page_with.result c.records_at.result
    c.records_at.ensures.form.book c.records_at.ensures.form.held c.records_at.ensures.anew c.page_with.ensures

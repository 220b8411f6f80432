use Rattle.std.proofs.Common.{ℕ, List, ◌++◌, sym, ◌∙◌, subst}
use Rattle.std.proofs.lemmas.Bool.{false≢true}
use Rattle.std.specs.List.{All, Contains}
use Rattle.std.proofs.lemmas.List.Elements.{Contains-append_left, Contains-append_right}
use Rattle.redo_core.specs.Data.{RecordData}
use Rattle.segment_theorems.specs.State.{StoredImage}
use Rattle.segment_join.specs.Sameness.{ShowOne}
use Rattle.std.proofs.lemmas.Result.{IfOk-weaker}
use Rattle.segment_join.proofs.Showing.{all_pages, stored_of_both}
use Rattle.segment_join.proofs.sameness.has_same_pages.Goals as goal

pub returns-then-not-branch : goal.returns-then-not-branch
returns-then-not-branch c = (λ h. absurd (false≢true h), λ all. sym c.if-not-branch.true ∙ c.in_ok-has_same_written.ensures.1 (λ r h. all r.page))

pub returns-then-not-branch-2 : goal.returns-then-not-branch-2
returns-then-not-branch-2 c = (λ h. absurd (false≢true h), λ all. sym c.if-not-branch-2.true ∙ c.in_ok-has_same_images.ensures.1 (λ i d lt none. all _))

pub returns : goal.returns
returns c =
    IfOk-weaker c.has_same_images-2.result _ _ (λ same tells.
    let s = c.args.one.now in let t = c.args.other.now in
    let Shown : ℕ → Type 0 = ShowOne s c.args.point t c.args.other_point in
    let Stored : List StoredImage → Type 0 = All (λ (i : StoredImage). Shown i.page) in
    let written : (r : RecordData) → Contains (s.held ++ t.held) r → Shown r.page = c.in_ok-has_same_written.ensures.0 c.if-not-branch.false in (
      λ h. all_pages s c.args.point t c.args.other_point c.opens_form.ensures.form c.opens_form-2.ensures.form
          (record {
            images = subst Stored c.pages.ensures.value
                (stored_of_both s t Shown c.pages.result.now (c.in_ok-has_same_images.ensures.0 c.if-not-branch-2.false) written);
            written = λ r has. written r (Contains-append_left s.held t.held r has);
          })
          (record {
            images = subst Stored c.pages-2.ensures.value (stored_of_both s t Shown c.pages-2.result.now (tells.0 h) written);
            written = λ r has. written r (Contains-append_right s.held t.held r has);
          }),
      λ all. tells.1 (λ i d lt none. all _),
    ))
    c.has_same_images-2.ensures

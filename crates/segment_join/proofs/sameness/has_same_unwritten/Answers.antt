use Rattle.std.proofs.Common.{refl}
use Rattle.std.proofs.lemmas.Result.{IfOk-weaker}
use Rattle.segment_join.proofs.sameness.has_same_unwritten.Goals as goal

pub returns-then-is_written : goal.returns-then-is_written
returns-then-is_written c = (λ h none. absurd (c.if-is_written.ensures.written refl none), λ all. refl)

pub returns : goal.returns
returns c =
    IfOk-weaker c.has_same_page.result _ _ (λ same tells. (
      λ h none. tells.0 h,
      λ all. tells.1 (all (c.is_written.ensures.unwritten c.if-is_written.false)),
    ))
    c.has_same_page.ensures

use Rattle.std.proofs.Common.{◌≤◌, refl, arith}
use Rattle.std.proofs.lemmas.Bool.{false≢true}
use Rattle.std.proofs.lemmas.List.Elements.{AllZip-get_or, length_all_zip}
use Rattle.segment_core.proofs.Scanning.{zip_at_most}
use Rattle.segment_join.proofs.covering.are_at_most.Goals as goal

pub returns : goal.returns
returns c = (λ h. zip_at_most c.args.lower.now c.args.upper.now (omega arith) (λ i lt. c.loop-place.invariant i (omega arith)), λ h. refl)

pub returns-then-lower-upper : goal.returns-then-lower-upper
returns-then-lower-upper c = (
  λ h. absurd (false≢true h),
  λ all. absurd (let e = length_all_zip (λ p q. p ≤ q) c.args.lower.now c.args.upper.now all in omega (arith, e, c.if-lower-upper.true)),
)

pub returns-then-upper-place : goal.returns-then-upper-place
returns-then-upper-place c = (
  λ h. absurd (false≢true h),
  λ all. absurd (
      let at = AllZip-get_or (λ p q. p ≤ q) c.args.lower.now c.args.upper.now c.loop-place.place 0 0 all (omega arith) in omega (arith, at, c.if-upper-place.true)),
)

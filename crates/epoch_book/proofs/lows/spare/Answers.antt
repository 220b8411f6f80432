use Rattle.std.proofs.Common.{◌≤◌, ◌<◌, ◌≡◌, arith, refl}
use Rattle.std.proofs.lemmas.Bool.{leb-true, le-leb}
use Rattle.std.proofs.lemmas.List.Elements.{All-contains}
use Rattle.redo_core.proofs.Members.{all_members}
use Rattle.epoch_book.proofs.lows.spare.Goals as goal

pub returns-in-Some : goal.returns-in-Some
returns-in-Some c =
    let lows = c.args.lows.now in let epoch = c.args.epoch in let number = c.args.number in (
      λ h. all_members (λ x. epoch < x.epoch → number ≤ x.lo) lows
          (λ x has above. let a : number ≤ c.in-Some.low = leb-true number c.in-Some.low h in let b : c.in-Some.low ≤ x.lo = c.in-Some.ensures.1 x has above in
          omega arith),
      λ all.
          let w = c.in-Some.ensures.0 in let at : w.0.lo ≡ c.in-Some.low = w.3 in
          let a : number ≤ w.0.lo = All-contains (λ x. epoch < x.epoch → number ≤ x.lo) lows w.0 all w.1 w.2 in
          le-leb number c.in-Some.low (omega arith),
    )

pub returns-in-None : goal.returns-in-None
returns-in-None c = (
  λ h. all_members (λ x. c.args.epoch < x.epoch → c.args.number ≤ x.lo) c.args.lows.now (λ x has above. absurd (c.in-None.ensures x has above)),
  λ all. refl,
)

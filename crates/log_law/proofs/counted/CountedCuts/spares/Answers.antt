use Rattle.std.proofs.lemmas.Grind.{common_steps}
use Rattle.std.proofs.Common.{◌≡◌, ◌∙◌, ap, arith, ◌≤◌, get_or}
use Rattle.std.proofs.lemmas.Bool.{leb-true, le-leb}
use Rattle.redo_core.specs.Roster.{IsReader}
use Rattle.log_law.proofs.FirstCuts.{law5_at}
use Rattle.log_law.proofs.counted.CountedCuts.spares.Goals as goal

pub returns-then-reader-self-clause-law : goal.returns-then-reader-self-clause-law
returns-then-reader-self-clause-law c roster log d g = grind (arith, common_steps)

pub returns-then-epoch-self-clause-law : goal.returns-then-epoch-self-clause-law
returns-then-epoch-self-clause-law c roster log d g = (
  λ h. absurd (cc),
  λ law. absurd (let v : c.epoch.result ≡ c.args.advance.epoch = c.epoch.ensures.value in
      let m : c.args.advance.epoch ≤ c.args.self.now.complete = (d.complete c.args.advance.epoch).0 law.1 in
      omega (arith, v, c.if-epoch-self.true)),
)

pub returns-clause-law : goal.returns-clause-law
returns-clause-law c roster log d g =
    let a = c.args.advance in
    let v : c.epoch.result ≡ c.args.advance.epoch = c.epoch.ensures.value in
    let same : c.later_lo.result ≡ get_or c.args.self.now.least_later_lo.items c.args.advance.epoch 281474976710655 =
    c.later_lo.ensures ∙ ap (λ i. get_or c.args.self.now.least_later_lo.items i 281474976710655) c.epoch-2.ensures.value in
    let point = c.point.ensures.value in
    let mine : IsReader roster c.args.advance.reader =
    (omega (arith, c.reader.ensures.value, c.reader.ensures.positive), omega (arith, c.reader.ensures.value, c.if-reader-self.false, g.readers)) in
    let law = law5_at roster log a (get_or c.args.self.now.least_later_lo.items a.epoch 281474976710655) (g.least_later_lo a.epoch)
    (omega (arith, c.point.ensures.bound, c.point.ensures.value)) mine ((d.complete a.epoch).1 (omega (arith, v, c.if-epoch-self.false))) in (
      λ t. law.0 (let l : c.point.result ≤ c.later_lo.result = leb-true _ _ t in omega (arith, point, same)),
      λ h. le-leb _ _ (let l : c.args.advance.point ≤ get_or c.args.self.now.least_later_lo.items c.args.advance.epoch 281474976710655 = law.1 h in
          omega (arith, point, same)),
    )

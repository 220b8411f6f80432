use Rattle.std.proofs.Common.{◌<◌, ◌∙◌, sym, arith}
use Rattle.log_law.proofs.FirstCuts.{law2_not}
use Rattle.log_law.proofs.counted.CountedCuts.admits.Goals as goal

pub returns-then-epoch-self : goal.returns-then-epoch-self
returns-then-epoch-self c log r d e n = (λ h. absurd (cc), λ law. absurd (law2_not log r c.args.self.now.complete d.complete (omega arith) law))

pub returns : goal.returns
returns c log r d e n = (
  λ t. (
    (d.complete r.epoch).1 (omega arith),
    λ cut h s. let l : cut.hi < c.args.number = (c.is_above_hi.ensures log d).0 t cut h (s ∙ e) in omega arith,
  ),
  λ law. (c.is_above_hi.ensures log d).1 (λ cut h s. let l : cut.hi < r.number = law.1 cut h (s ∙ sym e) in omega arith),
)

use Rattle.std.proofs.Common.{rules, sym, inl, inr}
use Rattle.named_log.specs.Soundness.Sound.{at_no_size}
use Rattle.named_log.proofs.drill.DrillLogName.fact.Goals as goal
use Rattle.named_log.proofs.drill.DrillLogName.fact.Goals.{then-this-lt2-via-then-this-lt2, then-this-lt2-via-else-this-lt2+then-this-gt1048576}

pub returns-then-this-lt2 : goal.returns-then-this-lt2
returns-then-this-lt2 g c = sym (at_no_size _ c.args.place
    (elim c.then-this-lt2.branch [
      | then-this-lt2-via-then-this-lt2 w ↦ inl (search rules)
      | then-this-lt2-via-else-this-lt2+then-this-gt1048576 w ↦ inr
          (search rules)
    ]))

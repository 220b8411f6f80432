use Rattle.std.proofs.Common.{List, Contains, OnOk, inl, inr, sym, subst}
use Rattle.redo_core.specs.Data.{RecordData}
use Rattle.hot_log.specs.Putting.{Puts}
use Rattle.hot_log.specs.declared.log.Put.{Put}
use Rattle.hot_log.specs.declared.log.Put.TheVariants.{New, Known}
use Rattle.segment_core.specs.Restoring.{Gains}
use Rattle.segment_core.proofs.restoring.hold.Goals as goal
use Rattle.segment_core.proofs.restoring.hold.Goals.{in-Ok, in-Err}

gains : (old new : List RecordData) (r : RecordData) (how : Put) → Puts old r new how → Gains old r new
gains old new r New puts = record { members = puts.1 }
gains old new r Known puts = record {
  members = λ x. (
    (λ m. inl (subst (λ (l : List RecordData). Contains l x) puts.1 m)),
    (λ one. elim one [
      | inl m ↦ subst (λ (l : List RecordData). Contains l x) (sym puts.1) m
      | inr same ↦ subst (λ (l : List RecordData). Contains l x) (sym puts.1) (subst (λ (y : RecordData). Contains old y) (sym same) puts.0)
    ]),
  );
}

pub returns : goal.returns
returns c =
    elim c.match-put.branch [
      | in-Ok w ↦
          subst (λ result. OnOk result (Gains c.args.hot.now c.args.redo c.put.new.self)) (sym w.result-is)
          (gains c.args.hot.now c.put.new.self c.args.redo w.in-Ok.field-0 w.in-Ok.ensures.put)
      | in-Err w ↦ subst (λ result. OnOk result (Gains c.args.hot.now c.args.redo c.put.new.self)) (sym w.result-is) tt
    ]

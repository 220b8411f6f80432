-- A record that there is no memory to copy is answered as the segment's own take of it would, where it finds none.
use Rattle.std.proofs.Common.{◌≡◌, ◌≢◌, refl, subst, Some, None, Ok, Err}
use Rattle.redo_core.specs.Data.{RecordData}
use Rattle.redo_core.specs.Keys.{key_of}
use Rattle.redo_core.specs.declared.facts.Fact.TheVariants.{Record}
use Rattle.hot_log.specs.Held.{IsHeld, IsRecordAt}
use Rattle.hot_log.specs.declared.log.Put.TheVariants as put
use Rattle.hot_log.specs.declared.log.PutFault.TheVariants as fault
use Rattle.segment_theorems.specs.State.{State}
use Rattle.segment_theorems.proofs.Learnt.{takes_record}
use Rattle.segment_theorems.proofs.Knowing.{takes_known}
use Rattle.segment_core.specs.Refusing.{IsDeadOrSettled}
use Rattle.segment_core.specs.declared.answers.Taken.TheVariants as taken
use Rattle.segment_core.specs.declared.answers.Refusal.TheVariants as refusal
use Rattle.segment_core.proofs.Taking.{settled_exact, put_exact}
use Rattle.fleet_core.specs.declared.replies.Reply.TheVariants.{Unchanged, Refused, Memory}
use Rattle.fleet_core.specs.Calls.{Takes}

-- one that is not compared is known
pub takes_settled : (s : State) (r : RecordData) → IsDeadOrSettled s r → Takes s (Record r) Unchanged s
takes_settled s r settled = (Ok taken.Unchanged, settled_exact takes_known s r settled, refl)

-- it is stored itself
pub takes_held : (s : State) (r found : RecordData) → IsHeld s.held → (IsDeadOrSettled s r → ⊥) → IsRecordAt s.held (key_of r) (Some found)
    → found ≡ r → Takes s (Record r) Unchanged s
takes_held s r found held compared at same = (
  Ok taken.Unchanged,
  put_exact takes_record takes_known s.book s.held s.held s.base s.store r (Ok put.Known) (Ok taken.Unchanged) held compared
      ((subst (λ x. IsRecordAt s.held (key_of r) (Some x)) same at).0, refl) tt tt refl,
  refl,
)

-- another one is stored under its key
pub refuses_other : (s : State) (r found : RecordData) → IsHeld s.held → (IsDeadOrSettled s r → ⊥) → IsRecordAt s.held (key_of r) (Some found)
    → found ≢ r → Takes s (Record r) (Refused refusal.OtherRecord) s
refuses_other s r found held compared at other = (
  Err (record { value = Record r; fault = refusal.OtherRecord }),
  put_exact takes_record takes_known s.book s.held s.held s.base s.store r (Err (record { value = r; fault = fault.OtherRecord }))
      (Err (record { value = Record r; fault = refusal.OtherRecord })) held compared tt (refl, (found, at.0, at.1, other)) refl refl,
  refl,
)

-- none is
pub lacks_memory : (s : State) (r : RecordData) → IsHeld s.held → (IsDeadOrSettled s r → ⊥) → IsRecordAt s.held (key_of r) None
    → Takes s (Record r) Memory s
lacks_memory s r held compared none = (
  Err (record { value = Record r; fault = refusal.Memory }),
  put_exact takes_record takes_known s.book s.held s.held s.base s.store r (Err (record { value = r; fault = fault.Memory }))
      (Err (record { value = Record r; fault = refusal.Memory })) held compared tt (refl, none) refl refl,
  refl,
)

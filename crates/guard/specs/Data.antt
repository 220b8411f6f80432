-- What a guard has.
use Rattle.std.specs.Prelude.{ℕ, Bool, true, false, Option, Some, None}
use Rattle.redo_core.specs.Data.{CutData}
use Rattle.replica.specs.Parts.{ReplicaData}
use Rattle.guard.specs.declared.requests.AcceptedCut.{AcceptedCut}
use Rattle.guard.specs.declared.requests.Admission.{Admission}

-- the replica, with the generation of its node, the truncation that it has accepted last, whether it is a member, and its birth
pub record GuardData : Type 0 where
  pub replica : ReplicaData
  pub generation : ℕ
  pub accepted : Option AcceptedCut
  pub is_member : Bool
  pub birth : ℕ

abbrev pub guard_of : ReplicaData → ℕ → Option AcceptedCut → Bool → ℕ → GuardData
guard_of replica generation accepted is_member birth =
    record { replica = replica; generation = generation; accepted = accepted; is_member = is_member; birth = birth }

-- a guard that no engine has admitted
abbrev pub fresh_guard : ReplicaData → ℕ → GuardData
fresh_guard replica birth = guard_of replica 0 None false birth

-- the guard with another generation
abbrev pub fenced_to : GuardData → ℕ → GuardData
fenced_to g generation = guard_of g.replica generation g.accepted g.is_member g.birth

-- the guard with another accepted truncation
abbrev pub accepting : GuardData → ℕ → CutData → GuardData
accepting g generation cut = guard_of g.replica g.generation (Some (record { generation = generation; cut = cut })) g.is_member g.birth

-- the guard as a member
abbrev pub admitted_by : GuardData → Admission → GuardData
admitted_by g asked = guard_of g.replica asked.generation asked.accepted true g.birth

-- the guard round another replica
abbrev pub around : GuardData → ReplicaData → GuardData
around g replica = guard_of replica g.generation g.accepted g.is_member g.birth

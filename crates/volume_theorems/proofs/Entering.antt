-- How a member came to be one in its birth.
use Rattle.std.proofs.Common.{◌≡◌, ℕ, zero, suc, ◌<◌, ◌⊎◌, ⊎_elim, inl, inr, refl, sym, ◌∙◌, subst, ap, arith, IsTrue}
use Rattle.volume_theorems.specs.Nodes.{VolumeNode}
use Rattle.volume_theorems.specs.Runs.{VolumeRun, Move, MakesMove, IsOneBirth}
use Rattle.volume_theorems.specs.Runs.Move.{Rests, ComesFresh, Learns, IsReplaced, IsCreated, IsFenced, Accepts, IsAdmitted}
use Rattle.volume_theorems.specs.Protocol.{FollowsProtocol, IsReborn, Moves}
use Rattle.volume_theorems.proofs.Births.{goes_on, next_birth}

-- by the move a node becomes a member
abbrev pub Enters : Move → Type 0
Enters IsCreated = Unit {0}
Enters (IsAdmitted e) = Unit {0}
Enters m = ⊥

-- the node became a member before the moment t, in the birth that it is in then
pub record HasEntered (run : VolumeRun) (i t : ℕ) : Type 0 where
  pub moment : ℕ
  pub before : moment < t
  pub makes : MakesMove run moment i (run.moves moment)
  pub enters : Enters (run.moves moment)
  pub same : IsOneBirth run i moment (suc moment)
  pub since : IsOneBirth run i (suc moment) t

member_as : (old new other : VolumeNode) (m : Move) → new ≡ other → other.is_member ≡ old.is_member → IsTrue new.is_member
    → IsTrue old.is_member ⊎ Enters m
member_as old new other m is same member = inl (sym same ∙ sym (ap (λ (n : VolumeNode). n.is_member) is) ∙ member)

member_before : (run : VolumeRun) (t i : ℕ) (m : Move) (old new : VolumeNode) → Moves run t i m old new → IsTrue new.is_member
    → IsTrue old.is_member ⊎ Enters m
member_before run t i Rests old new says member = member_as old new old Rests says refl member
member_before run t i ComesFresh old new says member = absurd (says.nothing.member member)
member_before run t i Learns old new says member = member_as old new _ Learns says.same refl member
member_before run t i IsReplaced old new says member = member_as old new _ IsReplaced says.same refl member
member_before run t i IsCreated old new says member = inr tt
member_before run t i (IsFenced e) old new says member = inl says.member
member_before run t i (Accepts e k) old new says member = inl says.under.0
member_before run t i (IsAdmitted e) old new says member = inr tt

entered_earlier : (run : VolumeRun) (i t : ℕ) → IsOneBirth run i t (suc t) → HasEntered run i t → HasEntered run i (suc t)
entered_earlier run i t same had = record {
  moment = had.moment;
  before = let earlier : had.moment < t = had.before in omega arith;
  makes = had.makes;
  enters = had.enters;
  same = had.same;
  since = had.since ∙ same;
}

entered_step : (run : VolumeRun) (i t : ℕ) → FollowsProtocol run → (IsTrue (run.nodes t i).is_member → HasEntered run i t)
    → IsTrue (run.nodes (suc t) i).is_member → IsOneBirth run i t (suc t) → HasEntered run i (suc t)
entered_step run i t is before member same = ⊎_elim
    (λ (rests : run.nodes (suc t) i ≡ run.nodes t i).
    entered_earlier run i t same (before (subst (λ (n : VolumeNode). IsTrue n.is_member) rests member)))
    (λ says. ⊎_elim
    (λ (was : IsTrue (run.nodes t i).is_member). entered_earlier run i t same (before was))
    (λ (enters : Enters (run.moves t)).
    let now : HasEntered run i (suc t) =
    record { moment = t; before = omega arith; makes = says.0; enters = enters; same = same; since = refl } in now)
    (member_before run t i (run.moves t) (run.nodes t i) (run.nodes (suc t) i) says.1 member))
    (goes_on run t i is)

pub has_entered : (run : VolumeRun) (i t : ℕ) → FollowsProtocol run → IsTrue (run.nodes t i).is_member → HasEntered run i t
has_entered run i zero is member = absurd ((is.begins i).member member)
has_entered run i (suc t) is member = ⊎_elim
    (λ (same : IsOneBirth run i t (suc t)). entered_step run i t is (λ was. has_entered run i t is was) member same)
    (λ (reborn : IsReborn run t i (run.nodes (suc t) i)). absurd (reborn.nothing.member member))
    (next_birth run t i is)

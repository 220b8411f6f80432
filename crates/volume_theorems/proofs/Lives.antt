-- What a node keeps while it is in one birth.
use Rattle.std.proofs.Common.{◌≡◌, ℕ, zero, suc, ◌<◌, ◌≤◌, ⊎_elim, Option, Some, None, refl, sym, ◌∙◌, subst, arith, true}
use Rattle.std.proofs.lemmas.Grind.{common_steps}
use Rattle.redo_core.specs.Data.{CutData}
use Rattle.volume_theorems.specs.Nodes.{Vote, VolumeNode, VoteUpTo, volume_node, with_content, with_generation, with_vote}
use Rattle.volume_theorems.specs.Runs.{VolumeRun, Move, IsOneBirth}
use Rattle.volume_theorems.specs.Runs.Move.{Rests, ComesFresh, Learns, IsReplaced, IsCreated, IsFenced, Accepts, IsAdmitted}
use Rattle.volume_theorems.specs.Protocol.{FollowsProtocol, IsLaterVote, Moves}
use Rattle.volume_theorems.specs.Lives.{IsLaterNode, OneBirth}
use Rattle.volume_theorems.proofs.Orders.{last_or_earlier, IsVoteWithin, vote_itself, vote_then, none_upto, grows_itself, grows_then}
use Rattle.volume_theorems.proofs.Births.{goes_on, no_return}
use Rattle.volume_theorems.proofs.Guards.{IsGuarded, guarded}

pub later_itself : (n : VolumeNode) → IsLaterNode n n
later_itself n = record {
  member = λ m. m;
  generation = λ m. omega arith;
  accepted = vote_itself n.accepted;
  content = λ m. grows_itself n.content;
}

pub later_then : (a b c : VolumeNode) → IsLaterNode a b → IsLaterNode b c → IsLaterNode a c
later_then a b c one two = record {
  member = λ m. two.member (one.member m);
  generation = λ m. omega (arith, one.generation m, two.generation (one.member m));
  accepted = vote_then a.accepted b.accepted c.accepted one.accepted two.accepted;
  content = λ m. grows_then a.content b.content c.content (one.content m) (two.content (one.member m));
}

later_same : (old new : VolumeNode) → new ≡ old → IsLaterNode old new
later_same old new same = subst (λ (n : VolumeNode). IsLaterNode old n) (sym same) (later_itself old)

-- a proposal that is accepted
upto_proposed : (v : Option Vote) (generation : ℕ) (cut : CutData) → IsVoteWithin v generation → ¬ (IsLaterVote v generation cut.epoch)
    → VoteUpTo v (Some (record { generation = generation; cut = cut }))
upto_proposed None generation cut within none = tt
upto_proposed (Some v) generation cut within none = grind (arith, common_steps)

-- where the birth is the same, the node is a later one
kept_after : (run : VolumeRun) (t i : ℕ) (m : Move) (new : VolumeNode) → IsGuarded (run.nodes t i) → Moves run t i m (run.nodes t i) new
    → (run.nodes t i).birth ≡ new.birth → IsLaterNode (run.nodes t i) new
kept_after run t i Rests new had says same = later_same (run.nodes t i) new says
kept_after run t i ComesFresh new had says same = absurd (says.birth t (omega arith) same)
kept_after run t i Learns new had says same =
    let left : IsLaterNode (run.nodes t i) (with_content (run.nodes t i) new.content) = record {
      member = λ m. m;
      generation = λ m. omega arith;
      accepted = vote_itself (run.nodes t i).accepted;
      content = λ m. says.grows;
    } in
    subst (λ (n : VolumeNode). IsLaterNode (run.nodes t i) n) (sym says.same) left
kept_after run t i IsReplaced new had says same =
    let left : IsLaterNode (run.nodes t i) (with_content (run.nodes t i) new.content) = record {
      member = λ m. m;
      generation = λ m. omega arith;
      accepted = vote_itself (run.nodes t i).accepted;
      content = λ m. absurd (says.out m);
    } in
    subst (λ (n : VolumeNode). IsLaterNode (run.nodes t i) n) (sym says.same) left
kept_after run t i IsCreated new had says same =
    let left : IsLaterNode (run.nodes t i) (volume_node (run.nodes t i).birth true 1 None (run.nodes t i).content) = record {
      member = λ m. refl;
      generation = λ m. absurd (says.out m);
      accepted = none_upto (run.nodes t i).accepted None (had.outside says.out);
      content = λ m. grows_itself (run.nodes t i).content;
    } in
    subst (λ (n : VolumeNode). IsLaterNode (run.nodes t i) n) (sym says.new_is) left
kept_after run t i (IsFenced e) new had says same =
    let above : (run.nodes t i).generation < (run.engines e).generation = says.above in
    let left : IsLaterNode (run.nodes t i) (with_generation (run.nodes t i) (run.engines e).generation) = record {
      member = λ m. m;
      generation = λ m. omega arith;
      accepted = vote_itself (run.nodes t i).accepted;
      content = λ m. grows_itself (run.nodes t i).content;
    } in
    subst (λ (n : VolumeNode). IsLaterNode (run.nodes t i) n) (sym says.new_is) left
kept_after run t i (Accepts e k) new had says same =
    let cut : CutData = (run.engines e).cuts k in
    let within : IsVoteWithin (run.nodes t i).accepted (run.engines e).generation =
    subst (λ (g : ℕ). IsVoteWithin (run.nodes t i).accepted g) says.under.1 had.within in
    let latest : ¬ (IsLaterVote (run.nodes t i).accepted (run.engines e).generation cut.epoch) =
    subst (λ (x : ℕ). ¬ (IsLaterVote (run.nodes t i).accepted (run.engines e).generation x)) (sym says.proposed.of_epoch) says.latest in
    let left : IsLaterNode (run.nodes t i) (with_vote (run.nodes t i) (run.engines e).generation cut) = record {
      member = λ m. m;
      generation = λ m. omega arith;
      accepted = upto_proposed (run.nodes t i).accepted (run.engines e).generation cut within latest;
      content = λ m. grows_itself (run.nodes t i).content;
    } in
    subst (λ (n : VolumeNode). IsLaterNode (run.nodes t i) n) (sym says.new_is) left
kept_after run t i (IsAdmitted e) new had says same =
    let left : IsLaterNode (run.nodes t i) (volume_node (run.nodes t i).birth true (run.engines e).generation says.vote (run.nodes t i).content) = record {
      member = λ m. refl;
      generation = λ m. absurd (says.out m);
      accepted = none_upto (run.nodes t i).accepted says.vote (had.outside says.out);
      content = λ m. grows_itself (run.nodes t i).content;
    } in
    subst (λ (n : VolumeNode). IsLaterNode (run.nodes t i) n) (sym says.new_is) left

pub next_later : (run : VolumeRun) (t i : ℕ) → FollowsProtocol run → IsOneBirth run i t (suc t)
    → IsLaterNode (run.nodes t i) (run.nodes (suc t) i)
next_later run t i is same = ⊎_elim
    (λ (rests : run.nodes (suc t) i ≡ run.nodes t i). later_same (run.nodes t i) (run.nodes (suc t) i) rests)
    (λ says. kept_after run t i (run.moves t) (run.nodes (suc t) i) (guarded run t i is) says.1 same)
    (goes_on run t i is)

-- What each move in one birth keeps is kept from one moment to a later one.
pub kept_in_birth : (run : VolumeRun) (i s : ℕ) (P : ℕ → Type 0) → FollowsProtocol run → P s
    → ((t : ℕ) → s ≤ t → IsOneBirth run i t (suc t) → P t → P (suc t)) → (t : ℕ) → s ≤ t → IsOneBirth run i s t → P t
kept_in_birth run i s P is begins keeps zero upto same = let here : s ≡ zero = omega arith in subst P here begins
kept_in_birth run i s P is begins keeps (suc t) upto same = ⊎_elim
    (λ (here : s ≡ suc t). subst P here begins)
    (λ (earlier : s ≤ t).
    let one : IsOneBirth run i s t = no_return run i s t (suc t) is earlier (omega arith) same in
    keeps t earlier (sym one ∙ same) (kept_in_birth run i s P is begins keeps t earlier one))
    (last_or_earlier s t upto)

pub one_birth : OneBirth
one_birth run i s t is upto same =
    kept_in_birth run i s (λ (x : ℕ). IsLaterNode (run.nodes s i) (run.nodes x i)) is (later_itself (run.nodes s i))
    (λ (x : ℕ) after kept had. later_then (run.nodes s i) (run.nodes x i) (run.nodes (suc x) i) had (next_later run x i is kept)) t upto same

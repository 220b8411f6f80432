-- What a pending truncation keeps, the union of the engine that finds it has.
use Rattle.std.proofs.Common.{◌≡◌, ℕ, suc, ◌<◌, ◌≤◌, Option, Some, refl, sym, ◌∙◌, subst, arith}
use Rattle.std.specs.List.{Contains}
use Rattle.redo_core.specs.Data.{CutData}
use Rattle.volume_theorems.specs.Nodes.{Content, Vote, VolumeNode, IsOfGeneration, VoteUpTo, GrowsTo}
use Rattle.volume_theorems.specs.Runs.{VolumeRun, Many}
use Rattle.volume_theorems.specs.Runs.Move.{IsFenced, IsAdmitted}
use Rattle.volume_theorems.specs.Opening.{IsInQuorum, HasGathered, HasShown, HasAsked, IsUnion, IsBest}
use Rattle.volume_theorems.specs.Proposing.{MayPropose}
use Rattle.volume_theorems.specs.Protocol.{FollowsProtocol, IsEntering}
use Rattle.volume_theorems.specs.Stopping.{FollowsUntil, stopped}
use Rattle.volume_theorems.proofs.Orders.{IsVoteWithin}
use Rattle.volume_theorems.proofs.Births.{made}
use Rattle.volume_theorems.proofs.Guards.{asked_by_union, answers_count, fenced_before, raised, guarded}
use Rattle.volume_theorems.proofs.Lives.{next_later}
use Rattle.volume_theorems.proofs.Seeing.{IsHandedOn, HadUnder, quorums_see, fenced_in_union}
use Rattle.volume_theorems.proofs.Proposing.{WasProposed, IsFromProposal, votes_proposed}
use Rattle.volume_theorems.proofs.Stopping.{makes_is, of_node, sent_is, stopped_follows}

-- the content has come to the epoch; and where it is of just that epoch, it has the point
abbrev pub HasCome : ℕ → ℕ → Content → Type 0
HasCome epoch point content = (epoch ≤ content.epoch) × (content.epoch ≡ epoch → Contains content.points point)

comes_on : (epoch point : ℕ) (old new : Content) → GrowsTo old new → HasCome epoch point old → HasCome epoch point new
comes_on epoch point old new grows had =
    let first : epoch ≤ old.epoch = had.0 in
    let more : old.epoch ≤ new.epoch = grows.epoch in (
      omega arith,
      λ at.
          let still : old.epoch ≡ epoch = omega arith in
          grows.points point (had.1 still) (λ c inside above within.
          let over : old.epoch < c.epoch = above in let under : c.epoch ≤ new.epoch = within in absurd (omega arith)),
    )

module _ (run : VolumeRun) (epoch point : ℕ) (is : FollowsProtocol run) where
  in_union : (t f j : ℕ) (u : Content) → IsUnion run f t u → IsInQuorum run f j → HasCome epoch point (run.nodes ((run.engines f).fenced j) j).content
      → HasCome epoch point u
  in_union t f j u union among had =
      let of = fenced_in_union run f t j u is union among in
      comes_on epoch point (run.nodes of.0 j).content u of.2
      (comes_on epoch point (run.nodes ((run.engines f).fenced j) j).content (run.nodes of.0 j).content of.3 had)

  entered : (t i f j : ℕ) → IsInQuorum run f j → HasCome epoch point (run.nodes ((run.engines f).fenced j) j).content
      → IsEntering run t f i (run.nodes t i) (run.nodes (suc t) i) → HasCome epoch point (run.nodes (suc t) i).content
  entered t i f j among had says =
      let union : HasCome epoch point says.admits.union = in_union t f j says.admits.union says.admits.unites among had in
      let far : (run.nodes t i).content.epoch ≡ says.admits.union.epoch = says.admits.epoch in
      let come : epoch ≤ says.admits.union.epoch = union.0 in
      let here : HasCome epoch point (run.nodes t i).content = (
        omega arith,
        λ at. says.admits.points point (union.1 (sym far ∙ at)),
      ) in
      subst (λ (n : VolumeNode). HasCome epoch point n.content) (sym says.new_is) here

  handed : IsHandedOn run (λ s i. HasCome epoch point (run.nodes s i).content)
  handed = record {
    keeps = λ t i same member had.
        comes_on epoch point (run.nodes t i).content (run.nodes (suc t) i).content ((next_later run t i is same).content member) had;
    passes = λ t i f j makes among had. entered t i f j among had (made run t i (IsAdmitted f) is makes);
  }

  -- each engine of a higher generation finds it in its union
  pub found_in_union : (f e t : ℕ) (u : Content) → Many run (HadUnder run f (λ s i. HasCome epoch point (run.nodes s i).content)) → IsUnion run e t u
      → (run.engines f).generation < (run.engines e).generation → HasCome epoch point u
  found_in_union f e t u many union higher =
      let found = quorums_see run f (λ s i. HasCome epoch point (run.nodes s i).content) is handed e t many (asked_by_union run e t u union) higher in
      in_union t e found.0 u union found.1 found.2

pending_in : (run : VolumeRun) (e t : ℕ) (u : Content) (v : Vote) → FollowsProtocol run → IsUnion run e t u → IsBest run e (Some v)
    → v.cut.epoch ≡ suc u.epoch → Contains u.points v.cut.lo
pending_in run e t u v is union best next =
    let one = best.of_one in
    let y : ℕ = (run.engines e).fenced one.0 in
    let w : WasProposed run y v =
    subst (λ (o : Option Vote). IsFromProposal run y o) (sym one.2) (votes_proposed run y one.0 is) in
    let within : v.generation ≤ (run.nodes y one.0).generation =
    subst (λ (o : Option Vote). IsVoteWithin o (run.nodes y one.0).generation) (sym one.2) (guarded run y one.0 is).within in
    let above : (run.nodes y one.0).generation < (run.engines e).generation = (raised run e one.0 is union.gathered one.1).above in
    let from : (run.engines w.engine).generation ≡ v.generation = w.generation in
    let p : MayPropose run w.engine v.cut.epoch w.moment = w.proposed in
    let after : v.cut.epoch ≡ suc p.union.epoch = p.next in
    let same : p.union.epoch ≡ u.epoch = omega arith in
    let many : Many run (HadUnder run w.engine (λ s i. HasCome u.epoch v.cut.lo (run.nodes s i).content)) = (
      p.known.0,
      p.known.1,
      λ i among.
          let x = p.known.2 i among in
          let at : (run.nodes x.0 i).content.epoch ≡ p.union.epoch = x.3 in
          let has : Contains (run.nodes x.0 i).content.points v.cut.lo =
          subst (λ (c : CutData). Contains (run.nodes x.0 i).content.points c.lo) w.cut x.4 in
          (x.0, answers_count run w.engine x.0 i x.2, (omega arith, λ own. has)),
    ) in
    let come : HasCome u.epoch v.cut.lo u = found_in_union run u.epoch v.cut.lo is w.engine e t u many union (omega arith) in
    come.1 refl

-- ---- the same by a moment
module _ (run : VolumeRun) (e t : ℕ) (asked : HasAsked run e t) where
  node_birth : (s i : ℕ) → s ≤ t → ((stopped run t).nodes s i).birth ≡ (run.nodes s i).birth
  node_birth s i upto = of_node run t (λ (n : VolumeNode). n.birth ≡ (run.nodes s i).birth) s i upto refl

  gathered_until : HasGathered (stopped run t) e
  gathered_until = record {
    many = asked.gathered.many;
    before = asked.gathered.before;
    fenced = λ i among. makes_is run t ((run.engines e).fenced i) i (IsFenced e) (fenced_before run e t i asked among) (asked.gathered.fenced i among);
  }

  shown_until : (i p : ℕ) → IsInQuorum run e i → p < t → HasShown run e i p → HasShown (stopped run t) e i p
  shown_until i p among before shown =
      let early : (run.engines e).fenced i < t = fenced_before run e t i asked among in
      record {
        after = shown.after;
        under = of_node run t (λ (n : VolumeNode). IsOfGeneration n (run.engines e).generation) p i (omega arith) shown.under;
        birth = node_birth ((run.engines e).fenced i) i (omega arith) ∙ (shown.birth ∙ sym (node_birth p i (omega arith)));
      }

  union_until : (u : Content) → IsUnion run e t u → IsUnion (stopped run t) e t u
  union_until u union = record {
    gathered = gathered_until;
    of_all = λ i among.
        let of = union.of_all i among in
        let before : of.0 < t = of.1 in (
          of.0,
          before,
          shown_until i of.0 among before of.2,
          of_node run t (λ (n : VolumeNode). GrowsTo n.content u) of.0 i (omega arith) of.3,
        );
    sent = λ c inside. sent_is run t t c (omega arith) (union.sent c inside);
  }

  best_until : (best : Option Vote) → IsBest run e best → IsBest (stopped run t) e best
  best_until best greatest =
      let one = greatest.of_one in
      let early : (run.engines e).fenced one.0 < t = fenced_before run e t one.0 asked one.1 in
      record {
        of_one = (
          one.0,
          one.1,
          of_node run t (λ (n : VolumeNode). best ≡ n.accepted) ((run.engines e).fenced one.0) one.0 (omega arith) one.2,
        );
        above = λ i among.
            let before : (run.engines e).fenced i < t = fenced_before run e t i asked among in
            of_node run t (λ (n : VolumeNode). VoteUpTo n.accepted best) ((run.engines e).fenced i) i (omega arith) (greatest.above i among);
      }

pub pending_known : (run : VolumeRun) (e t : ℕ) (u : Content) (v : Vote) → FollowsUntil run t → IsUnion run e t u → IsBest run e (Some v)
    → v.cut.epoch ≡ suc u.epoch → Contains u.points v.cut.lo
pending_known run e t u v follows union best next =
    let asked : HasAsked run e t = asked_by_union run e t u union in
    pending_in (stopped run t) e t u v (stopped_follows run t follows) (union_until run e t asked u union) (best_until run e t asked (Some v) best) next

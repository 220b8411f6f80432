-- The names of the snapshots that nodes keep, and of those whose pieces they stage.
use Rattle.std.proofs.Common.{◌≡◌, ◌≢◌, ℕ, ⊎_elim, List, [], ◌∷◌, ◌++◌, refl, sym, ap, ◌∙◌, subst, Option, Some, None, rules, arith}
use Rattle.std.proofs.lemmas.Grind.{common_steps}
use Rattle.std.specs.List.{Contains}
use Rattle.std.proofs.lemmas.Option.{same_Some}
use Rattle.redo_core.specs.declared.facts.Fact.{Fact}
use Rattle.redo_core.proofs.Members.{none_in, which}
use Rattle.messages.specs.Pieces.{PieceData}
use Rattle.snapshot.specs.Snapshots.{SnapshotData}
use Rattle.snapshot.specs.Stagings.{StagingData, staging_of}
use Rattle.replica.specs.declared.requests.Request.{Request}
use Rattle.replica.specs.declared.requests.Request.TheVariants as request
use Rattle.replica.specs.declared.replies.Reply.{Reply}
use Rattle.replica.specs.declared.replies.Reply.TheVariants as reply
use Rattle.replica.specs.Parts.{ReplicaData, empty_replica}
use Rattle.replica.specs.Hydrating.{Pieces}
use Rattle.replica.specs.Machine.{IsReply}
use Rattle.replica.specs.Meaning.{Turn}
use Rattle.cluster_theorems.specs.Turns.{facts_at, frozen_after, frozen_at, staged_after, staged_at, WasReplied}
use Rattle.cluster_theorems.specs.Naming.{IsNameOf, ComesTold, NamesSuffice}
use Rattle.cluster_theorems.proofs.Beside.{SnapshotStays, IsFrozen, snapshot_goes, StagingStays, IsGone, IsBegun, HasMore, staging_goes}
use Rattle.cluster_theorems.proofs.Made.{own_piece}
use Rattle.cluster_theorems.proofs.Reached.{IsKept, reach}
use Rattle.cluster_theorems.proofs.Standing.{piece_told}
use Rattle.cluster_theorems.proofs.Turned.{own_frozen, other_frozen, own_staged, other_staged, replied_last, none_there}

-- the snapshot that is kept, if there is one, was made of the facts under its name
abbrev KeepsNamed : List (ℕ × Turn) → List Fact → Option SnapshotData → Type 0
KeepsNamed turns frozen kept = (d : SnapshotData) → kept ≡ Some d → IsNameOf turns d.name frozen

-- the staged facts all go by one name, which is that of the staging if there is one
pub record StagesNamed (turns : List (ℕ × Turn)) (staged : List (List Fact)) (kept : Option StagingData) : Type 0 where
  pub name : ℕ
  pub named : (facts : List Fact) → Contains staged facts → IsNameOf turns name facts
  pub own : (st : StagingData) → kept ≡ Some st → st.name ≡ name

pub record IsNamed (turns : List (ℕ × Turn)) (node : ℕ) (r : ReplicaData) : Type 0 where
  pub snapshot : KeepsNamed turns (frozen_at turns node) r.snapshot
  pub staging : StagesNamed turns (staged_at turns node) r.staging

-- each piece that was replied is of a snapshot that was made under the piece's name
abbrev TellNamed : List (ℕ × Turn) → Type 0
TellNamed turns = (index : ℕ) (p : PieceData) (facts : List Fact) → WasReplied frozen_at turns (request.Piece index) (reply.Piece p) facts
    → IsNameOf turns p.name facts

abbrev Comes : List (ℕ × Turn) → ℕ → Turn → Type 0
Comes turns node t = ComesTold turns t.asked t.brought

named_before : (turns more : List (ℕ × Turn)) (name : ℕ) (facts : List Fact) → IsNameOf turns name facts → IsNameOf (turns ++ more) name facts
named_before turns more name facts named = grind (arith, common_steps)

-- ---- the node of the turn
module _ (turns : List (ℕ × Turn)) (node : ℕ) (t : Turn) (old new : ReplicaData) (told : TellNamed turns) (had : IsNamed turns node old)
    (comes : ComesTold turns t.asked t.brought) (says : IsReply old t.asked t.told new) where
  named_now : (name pieces : ℕ) → t.asked ≡ request.Freeze name → t.told ≡ reply.Frozen pieces → IsNameOf (turns ++ (node, t) ∷ []) name (facts_at turns node)
  named_now name pieces asked replied =
      (pieces, record { before = turns; turn = (node, t); after = []; all = refl; asked_is = asked; told_is = replied; facts_are = refl })

  own_snapshot : KeepsNamed (turns ++ (node, t) ∷ []) (frozen_after (facts_at turns node) (frozen_at turns node) t.asked t.told) new.snapshot
  own_snapshot = ⊎_elim
      (λ (stays : SnapshotStays old.snapshot new.snapshot t.asked t.told). λ d is.
      subst (IsNameOf (turns ++ (node, t) ∷ []) d.name) (sym (stays.1 (facts_at turns node) (frozen_at turns node)))
      (named_before turns ((node, t) ∷ []) d.name (frozen_at turns node) (had.snapshot d (sym stays.0 ∙ is))))
      (λ (made : IsFrozen old.cached.segment new.snapshot t.asked t.told). λ d is.
      let keeps = made.2 in
      let now = named_now made.0 keeps.snapshot.total made.1 keeps.is in
      let name : made.0 ≡ d.name = sym keeps.name_is ∙ ap (λ (x : SnapshotData). x.name) (same_Some keeps.snapshot d (sym keeps.kept ∙ is)) in
      subst (λ n. IsNameOf (turns ++ (node, t) ∷ []) n (frozen_after (facts_at turns node) (frozen_at turns node) t.asked t.told)) name
      (subst (λ a. IsNameOf (turns ++ (node, t) ∷ []) made.0 (frozen_after (facts_at turns node) (frozen_at turns node) a t.told)) (sym made.1)
      (subst (λ r. IsNameOf (turns ++ (node, t) ∷ []) made.0 (frozen_after (facts_at turns node) (frozen_at turns node) (request.Freeze made.0) r))
      (sym keeps.is) now)))
      (snapshot_goes t.asked t.told old new says)

  staged_before : (facts : List Fact) → Contains (staged_at turns node) facts → IsNameOf (turns ++ (node, t) ∷ []) had.staging.name facts
  staged_before facts in_it = named_before turns ((node, t) ∷ []) had.staging.name facts (had.staging.named facts in_it)

  as_before : staged_after (staged_at turns node) t.brought t.asked t.told ≡ staged_at turns node
      → ((st : StagingData) → new.staging ≡ Some st → st.name ≡ had.staging.name)
      → StagesNamed (turns ++ (node, t) ∷ []) (staged_after (staged_at turns node) t.brought t.asked t.told) new.staging
  as_before same own = search (rules, staged_before)

  with_more : HasMore old.staging new.staging t.asked t.told
      → StagesNamed (turns ++ (node, t) ∷ []) (t.brought ∷ staged_at turns node) new.staging
  with_more added =
      let own : added.st.name ≡ had.staging.name = had.staging.own added.st added.had in
      let its : added.piece.name ≡ added.later.name = (own_piece added.later added.piece (added.form added.piece.index added.piece added.adds.there).1).0 in
      let carried = subst (λ a. ComesTold turns a t.brought) added.asked_is comes in
      let piece : IsNameOf (turns ++ (node, t) ∷ []) had.staging.name t.brought =
      subst (λ n. IsNameOf (turns ++ (node, t) ∷ []) n t.brought) (its ∙ added.adds.name ∙ own)
      (named_before turns ((node, t) ∷ []) added.piece.name t.brought (told carried.0 added.piece t.brought carried.1)) in
      record {
        name = had.staging.name;
        named = λ facts in_it. ⊎_elim
            (λ (e : t.brought ≡ facts). subst (IsNameOf (turns ++ (node, t) ∷ []) had.staging.name) e piece)
            (λ (before : Contains (staged_at turns node) facts). staged_before facts before)
            (which t.brought (staged_at turns node) facts in_it);
        own = λ st is. ap (λ (x : StagingData). x.name) (same_Some st added.later (sym is ∙ added.has)) ∙ added.adds.name ∙ own;
      }

  own_staging : StagesNamed (turns ++ (node, t) ∷ []) (staged_after (staged_at turns node) t.brought t.asked t.told) new.staging
  own_staging =
      let Goal : List (List Fact) → Type 0 = λ staged. StagesNamed (turns ++ (node, t) ∷ []) staged new.staging in
      ⊎_elim
      (λ (stays : StagingStays old.staging new.staging t.asked t.told).
      as_before (stays.staged (staged_at turns node) t.brought) (λ st is. had.staging.own st (sym stays.same ∙ is)))
      (λ s. ⊎_elim
      (λ (gone : IsGone new.staging t.asked t.told).
      let empty : Goal [] = record {
        name = had.staging.name;
        named = λ facts in_it. absurd (none_in facts in_it);
        own = λ st is. absurd (let none : new.staging ≡ None = gone.none in cc);
      } in
      subst Goal (sym (gone.staged (staged_at turns node) t.brought)) empty)
      (λ u. ⊎_elim
      (λ (begun : IsBegun new.staging t.asked t.told).
      let empty : Goal [] = record {
        name = begun.0;
        named = λ facts in_it. absurd (none_in facts in_it);
        own = λ st is. ap (λ (x : StagingData). x.name) (same_Some st (staging_of begun.0 begun.1 []) (sym is ∙ begun.3));
      } in
      subst (λ a. Goal (staged_after (staged_at turns node) t.brought a t.told)) (sym begun.2) empty)
      (λ (added : HasMore old.staging new.staging t.asked t.told).
      subst (λ a. Goal (staged_after (staged_at turns node) t.brought a t.told)) (sym added.asked_is)
      (subst (λ r. Goal (staged_after (staged_at turns node) t.brought (request.Add added.piece) r)) (sym added.told_is) (with_more added)))
      u)
      s)
      (staging_goes t.asked t.told old new says)

own_named : (turns : List (ℕ × Turn)) (node : ℕ) (t : Turn) (old new : ReplicaData) → TellNamed turns → IsNamed turns node old → Comes turns node t
    → IsReply old t.asked t.told new → IsNamed (turns ++ (node, t) ∷ []) node new
own_named turns node t old new told had comes says = record {
  snapshot = subst (λ facts. KeepsNamed (turns ++ (node, t) ∷ []) facts new.snapshot) (sym (own_frozen turns node t))
      (own_snapshot turns node t old new told had comes says);
  staging = subst (λ staged. StagesNamed (turns ++ (node, t) ∷ []) staged new.staging) (sym (own_staged turns node t))
      (own_staging turns node t old new told had comes says);
}

-- ---- the other nodes, and what was replied
other_named : (turns : List (ℕ × Turn)) (node other : ℕ) (t : Turn) (r : ReplicaData) → node ≢ other → IsNamed turns other r
    → IsNamed (turns ++ (node, t) ∷ []) other r
other_named turns node other t r apart had = record {
  snapshot = subst (λ facts. KeepsNamed (turns ++ (node, t) ∷ []) facts r.snapshot) (sym (other_frozen turns node other t apart))
      (λ d is. named_before turns ((node, t) ∷ []) d.name (frozen_at turns other) (had.snapshot d is));
  staging = subst (λ staged. StagesNamed (turns ++ (node, t) ∷ []) staged r.staging) (sym (other_staged turns node other t apart))
      (let named : StagesNamed (turns ++ (node, t) ∷ []) (staged_at turns other) r.staging = record {
        name = had.staging.name;
        named = λ facts in_it. named_before turns ((node, t) ∷ []) had.staging.name facts (had.staging.named facts in_it);
        own = had.staging.own;
      } in named);
}

told_named : (turns : List (ℕ × Turn)) (node : ℕ) (t : Turn) (old new : ReplicaData) → TellNamed turns → IsNamed turns node old
    → IsReply old t.asked t.told new → TellNamed (turns ++ (node, t) ∷ [])
told_named turns node t old new told had says index p facts w = named_before turns ((node, t) ∷ []) p.name facts (⊎_elim
    (λ (earlier : WasReplied frozen_at turns (request.Piece index) (reply.Piece p) facts). told index p facts earlier)
    (λ (now : (t.asked ≡ request.Piece index) × (t.told ≡ reply.Piece p) × (facts ≡ frozen_at turns node)).
    let does : Pieces old.snapshot index (reply.Piece p) =
    subst (λ (r : Reply). Pieces old.snapshot index r) now.1 (subst (λ (a : Request). IsReply old a t.told new) now.0 says).0 in
    let of = piece_told old.snapshot index p does in
    subst (IsNameOf turns p.name) (sym now.2)
    (subst (λ n. IsNameOf turns n (frozen_at turns node)) (sym of.2.name) (had.snapshot of.0 of.1)))
    (replied_last frozen_at turns node t (request.Piece index) (reply.Piece p) facts w))

named_kept : IsKept IsNamed TellNamed Comes
named_kept = record { own = own_named; others = other_named; all = told_named }

begun_named : (roster : ℕ) (pages : ℕ → ℕ) (node : ℕ) → IsNamed [] node (empty_replica roster (pages node))
begun_named roster pages node = search rules

pub names_suffice : NamesSuffice
names_suffice roster pages turns nodes runs come differ before after node facts others all one other =
    let at = reach IsNamed TellNamed Comes named_kept nodes turns before after all come
    (λ index p given w. absurd (none_there w.before w.turn w.after w.all), λ node. (empty_replica roster (pages node), runs node, begun_named roster pages node)) in
    let named = (at.1 node).2.staging in
    let known : (given : List Fact) → Contains (staged_at before node) given → IsNameOf turns named.name given = λ given in_it.
    subst (λ ts. IsNameOf ts named.name given) (sym all) (named_before before after named.name given (named.named given in_it)) in
    differ named.name facts others (known facts one) (known others other)

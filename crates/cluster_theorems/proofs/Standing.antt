-- What holds of all nodes after some turns of a run, and after one more.
use Rattle.std.proofs.Common.{◌≡◌, ◌≢◌, ℕ, inl, inr, ⊎_elim, ltb, Bool, true, false, cond, List, [], ◌∷◌, ◌++◌, refl, sym, ◌∙◌, subst, Option, Some, None, Result, Ok, Err, IfOk, rules}
use Rattle.redo_core.specs.Sound.{IsSound}
use Rattle.redo_core.specs.declared.facts.Fact.{Fact}
use Rattle.messages.specs.Deltas.{DeltaData}
use Rattle.messages.specs.Pieces.{PieceData}
use Rattle.messages.specs.Summaries.{SummaryData}
use Rattle.segment_theorems.specs.State.{State}
use Rattle.segment_theorems.specs.Means.{Means}
use Rattle.segment_theorems.proofs.Bare.{empty_means}
use Rattle.segment_core.specs.declared.answers.ReadFault.{ReadFault}
use Rattle.gossip_core.specs.Replying.{FillsSummary}
use Rattle.read_cache.specs.Cached.{Cached}
use Rattle.snapshot.specs.Snapshots.{SnapshotData, IsPieceOf}
use Rattle.snapshot.specs.Stagings.{StagingData, IsStaging}
use Rattle.snapshot.specs.Hydrating.{Hydrates, MeansFrozen}
use Rattle.snapshot.specs.declared.finishing.FinishFault.{FinishFault}
use Rattle.replica.specs.declared.requests.Request.{Request}
use Rattle.replica.specs.declared.requests.Request.TheVariants as request
use Rattle.replica.specs.declared.replies.Reply.{Reply}
use Rattle.replica.specs.declared.replies.Reply.TheVariants as reply
use Rattle.replica.specs.Parts.{ReplicaData, empty_replica}
use Rattle.replica.specs.Replying.{delta_reply, fault_reply, unfinished_reply}
use Rattle.gossip_core.specs.Sizes.{delta_len}
use Rattle.replica.specs.Gossiping.{TellsDelta, RepliesWithin, limited_reply}
use Rattle.replica.specs.Hydrating.{Pieces, MakesSegment, Finishes, StandsFor, EndsInUnion, UnitesMade}
use Rattle.replica.specs.Machine.{IsReply}
use Rattle.replica.specs.Meaning.{Turn, facts_after, BringsDelta, BringsStaging, ReplicaMeans}
use Rattle.replica.proofs.Means.{step_means, united_made}
use Rattle.cluster_theorems.specs.Turns.{facts_at, frozen_at, staged_at, begun_at, WasReplied}
use Rattle.cluster_theorems.specs.Carrying.{IsCarried, WasAnswered, StagesFacts}
use Rattle.cluster_theorems.specs.Following.{AreTurnsOf}
use Rattle.cluster_theorems.proofs.Turned.{own_facts, other_facts, own_frozen, other_frozen, own_staged, other_staged, own_begun, other_begun, replied_last, none_there}
use Rattle.cluster_theorems.proofs.Made.{IsTold, KeepsMade, KeepsStaged, IsOfFacts, brings_facts, whole_is_sound}
use Rattle.cluster_theorems.proofs.Reached.{IsKept, Hold}
use Rattle.cluster_theorems.proofs.Staged.{AddsTold, FillsAs, snapshot_made, staging_kept, still_filled}

-- a node's replica means the facts that have reached it, its snapshot is of those that had when it was made, and its staging has the pieces
-- that it has taken, of the facts that these brought
pub record Stands (roster : ℕ) (log : List Fact) (turns : List (ℕ × Turn)) (node : ℕ) (r : ReplicaData) : Type 0 where
  pub means : ReplicaMeans roster log (facts_at turns node) r
  pub snapshot : KeepsMade roster log (frozen_at turns node) r.snapshot
  pub staging : KeepsStaged roster log (staged_at turns node) r.staging
  pub filled : FillsAs (begun_at turns node) r.staging

-- each delta has what the facts of the node that replied it have beyond the summary, and each piece is of a snapshot of the facts that its
-- node had when it made that
pub record HaveTold (roster : ℕ) (log : List Fact) (turns : List (ℕ × Turn)) : Type 0 where
  pub deltas : (summary : SummaryData) (delta : DeltaData) (facts : List Fact)
      → WasAnswered turns summary delta facts → BringsDelta roster log summary delta facts
  pub pieces : (index : ℕ) (p : PieceData) (facts : List Fact) → WasReplied frozen_at turns (request.Piece index) (reply.Piece p) facts
      → IsTold roster log facts p

-- ---- what is replied
not_delta : (delta : DeltaData) (why : ReadFault) → reply.Delta delta ≡ fault_reply why → ⊥
not_delta delta why e = search rules

one_delta : (d e : DeltaData) → reply.Delta d ≡ reply.Delta e → e ≡ d
one_delta d e h = cc

by_test : (large : Bool) (d delta : DeltaData) → reply.Delta delta ≡ cond large reply.Large (reply.Delta d) → reply.Delta d ≡ reply.Delta delta
by_test true d delta e = absurd (cc)
by_test false d delta e = sym e

-- a delta that is replied under a limit is the one that would be without it
within_delta : (most : ℕ) (whole : Reply) (delta : DeltaData) → reply.Delta delta ≡ limited_reply most whole → whole ≡ reply.Delta delta
within_delta most (reply.Delta d) delta e = by_test (ltb most (delta_len d)) d delta e
within_delta most whole delta e = sym e

-- a piece that is replied is of the snapshot that is kept
pub piece_told : (kept : Option SnapshotData) (index : ℕ) (p : PieceData) → Pieces kept index (reply.Piece p)
    → (d : SnapshotData) × (kept ≡ Some d) × IsPieceOf d p
piece_told kept index p says = search rules

module _ (roster : ℕ) (log : List Fact) (sound : IsSound roster log) where
  delta_by : (facts : List Fact) (s : State) (summary : SummaryData) (delta : DeltaData) (answer : Result DeltaData ReadFault) → Means roster log facts s
      → IfOk answer (FillsSummary s summary) → reply.Delta delta ≡ delta_reply answer → BringsDelta roster log summary delta facts
  delta_by facts s summary delta (Ok d) means fills is =
      subst (λ (x : DeltaData). BringsDelta roster log summary x facts) (one_delta delta d is)
      (means.0, means.1.part, means.1.position, fills roster log facts means.0 sound means.1)
  delta_by facts s summary delta (Err why) means fills is = absurd (not_delta delta why is)

  answered_more : (turns : List (ℕ × Turn)) (node : ℕ) (t : Turn) (old new : ReplicaData) (summary : SummaryData) (delta : DeltaData) (facts : List Fact)
      → HaveTold roster log turns → Stands roster log turns node old → IsReply old t.asked t.told new
      → WasReplied facts_at (turns ++ (node, t) ∷ []) (request.Answer summary) (reply.Delta delta) facts → BringsDelta roster log summary delta facts
  answered_more turns node t old new summary delta facts told stands says w = ⊎_elim
      (λ (earlier : WasReplied facts_at turns (request.Answer summary) (reply.Delta delta) facts). told.deltas summary delta facts (inl earlier))
      (λ (now : (t.asked ≡ request.Answer summary) × (t.told ≡ reply.Delta delta) × (facts ≡ facts_at turns node)).
      let does : TellsDelta old.cached.segment summary (reply.Delta delta) =
      subst (λ (r : Reply). TellsDelta old.cached.segment summary r) now.1 (subst (λ (a : Request). IsReply old a t.told new) now.0 says).0 in
      subst (λ fs. BringsDelta roster log summary delta fs) (sym now.2)
      (delta_by (facts_at turns node) old.cached.segment summary delta does.answer stands.means does.replies.fills does.is))
      (replied_last facts_at turns node t (request.Answer summary) (reply.Delta delta) facts w)

  limited_more : (turns : List (ℕ × Turn)) (node : ℕ) (t : Turn) (old new : ReplicaData) (most : ℕ) (summary : SummaryData) (delta : DeltaData)
      (facts : List Fact) → HaveTold roster log turns → Stands roster log turns node old → IsReply old t.asked t.told new
      → WasReplied facts_at (turns ++ (node, t) ∷ []) (request.AnswerWithin summary most) (reply.Delta delta) facts → BringsDelta roster log summary delta facts
  limited_more turns node t old new most summary delta facts told stands says w = ⊎_elim
      (λ (earlier : WasReplied facts_at turns (request.AnswerWithin summary most) (reply.Delta delta) facts). told.deltas summary delta facts (inr (most, earlier)))
      (λ (now : (t.asked ≡ request.AnswerWithin summary most) × (t.told ≡ reply.Delta delta) × (facts ≡ facts_at turns node)).
      let does : RepliesWithin old.cached.segment summary most (reply.Delta delta) =
      subst (λ (r : Reply). RepliesWithin old.cached.segment summary most r) now.1 (subst (λ (a : Request). IsReply old a t.told new) now.0 says).0 in
      let whole : does.whole ≡ reply.Delta delta = within_delta most does.whole delta does.is in
      subst (λ fs. BringsDelta roster log summary delta fs) (sym now.2)
      (delta_by (facts_at turns node) old.cached.segment summary delta does.replies.answer stands.means does.replies.replies.fills (sym whole ∙ does.replies.is)))
      (replied_last facts_at turns node t (request.AnswerWithin summary most) (reply.Delta delta) facts w)

  told_more : (turns : List (ℕ × Turn)) (node : ℕ) (t : Turn) (old new : ReplicaData) → HaveTold roster log turns → Stands roster log turns node old
      → IsReply old t.asked t.told new → HaveTold roster log (turns ++ (node, t) ∷ [])
  told_more turns node t old new told stands says = record {
    deltas = λ summary delta facts w. ⊎_elim
        (λ (free : WasReplied facts_at (turns ++ (node, t) ∷ []) (request.Answer summary) (reply.Delta delta) facts).
        answered_more turns node t old new summary delta facts told stands says free)
        (λ (limited : (most : ℕ) × WasReplied facts_at (turns ++ (node, t) ∷ []) (request.AnswerWithin summary most) (reply.Delta delta) facts).
        limited_more turns node t old new limited.0 summary delta facts told stands says limited.1)
        w;
    pieces = λ index p facts w. ⊎_elim
        (λ (earlier : WasReplied frozen_at turns (request.Piece index) (reply.Piece p) facts). told.pieces index p facts earlier)
        (λ (now : (t.asked ≡ request.Piece index) × (t.told ≡ reply.Piece p) × (facts ≡ frozen_at turns node)).
        let does : Pieces old.snapshot index (reply.Piece p) =
        subst (λ (r : Reply). Pieces old.snapshot index r) now.1 (subst (λ (a : Request). IsReply old a t.told new) now.0 says).0 in
        let of = piece_told old.snapshot index p does in
        subst (λ fs. IsTold roster log fs p) (sym now.2) (of.0, stands.snapshot of.0 of.1, of.2))
        (replied_last frozen_at turns node t (request.Piece index) (reply.Piece p) facts w);
  }

  -- ---- the node of the turn
  not_finished : (facts brought : List Fact) (s : State) (why : FinishFault) → Means roster log facts s
      → Means roster log (facts_after facts brought request.Finish (unfinished_reply why)) s
  not_finished facts brought s why means = search rules

  finished_by : (facts brought : List Fact) (old new : Cached) (st : StagingData) (staging : Option StagingData) (told : Reply)
      (answer : Result State FinishFault) → Means roster log facts old.segment
      → ((made : State) → Hydrates st made → BringsStaging roster log (Some st) brought) → IfOk answer (MeansFrozen st) → IfOk answer (Hydrates st)
      → StandsFor old st answer told new staging → Means roster log (facts_after facts brought request.Finish told) new.segment
  finished_by facts brought old new st staging told (Ok s) means brings frozen hydrates stands =
      let b = brings s hydrates in
      subst (λ (r : Reply). Means roster log (facts_after facts brought request.Finish r) new.segment) (sym stands.0)
      (subst (λ (c : Cached). Means roster log brought c.segment) (sym stands.1) (frozen b.0 b.1 b.2 roster log brought sound b.3))
  finished_by facts brought old new st staging told (Err why) means brings frozen hydrates stands =
      subst (λ (r : Reply). Means roster log (facts_after facts brought request.Finish r) new.segment) (sym stands.0)
      (subst (λ (c : Cached). Means roster log (facts_after facts brought request.Finish (unfinished_reply why)) c.segment) (sym stands.1)
      (not_finished facts brought old.segment why means))

  finished : (turns : List (ℕ × Turn)) (node : ℕ) (brought : List Fact) (old new : Cached) (before after : Option StagingData) (told : Reply)
      → Means roster log (facts_at turns node) old.segment → KeepsStaged roster log (staged_at turns node) before
      → IsCarried roster log turns node request.Finish brought → Finishes old before told new after
      → Means roster log (facts_after (facts_at turns node) brought request.Finish told) new.segment
  finished turns node brought old new None after told means had carried says =
      subst (λ (r : Reply). Means roster log (facts_after (facts_at turns node) brought request.Finish r) new.segment) (sym says.0)
      (subst (λ (c : Cached). Means roster log (facts_at turns node) c.segment) (sym says.1) means)
  finished turns node brought old new (Some st) after told means had carried says =
      finished_by (facts_at turns node) brought old new st after told says.answer means
      (brings_facts roster log (staged_at turns node) st brought sound says.makes.form (had st refl) carried)
      says.makes.means says.makes.hydrates says.stands

  -- what is known of the staging of a node, where all its pieces are of some facts
  pub of_facts : (turns : List (ℕ × Turn)) (node : ℕ) (brought : List Fact) (r : ReplicaData) → Stands roster log turns node r
      → StagesFacts turns node brought → (st : StagingData) → r.staging ≡ Some st → IsStaging st → IsOfFacts roster log brought st
  of_facts turns node brought r stands same st is form = record {
    brings = brings_facts roster log (staged_at turns node) st brought sound form (stands.staging st is) same;
    whole = whole_is_sound roster log (staged_at turns node) st brought sound form (stands.staging st is) same;
  }

  not_united : (facts brought : List Fact) (s : State) (why : FinishFault) → Means roster log facts s
      → Means roster log (facts_after facts brought request.Unite (unfinished_reply why)) s
  not_united facts brought s why means = search rules

  united_by : (facts brought : List Fact) (old new : ReplicaData) (st : StagingData) (told : Reply) (answer : Result State FinishFault)
      → ReplicaMeans roster log facts old → ((made : State) → Hydrates st made → BringsStaging roster log (Some st) brought)
      → MakesSegment st answer → UnitesMade old.cached st answer told new.cached new.staging
      → ReplicaMeans roster log (facts_after facts brought request.Unite told) new
  united_by facts brought old new st told (Ok made) means brings makes unites =
      united_made roster log facts brought old.cached new.cached st new.staging told (Ok made) (record { sound = sound; means = means })
      (brings made makes.hydrates) makes.means unites
  united_by facts brought old new st told (Err why) means brings makes unites =
      subst (λ (r : Reply). ReplicaMeans roster log (facts_after facts brought request.Unite r) new) (sym unites.0)
      (subst (λ (c : Cached). Means roster log (facts_after facts brought request.Unite (unfinished_reply why)) c.segment) (sym unites.1)
      (not_united facts brought old.cached.segment why means))

  unites_staged : (facts brought : List Fact) (old new : ReplicaData) (before : Option StagingData) (told : Reply) → ReplicaMeans roster log facts old
      → ((st : StagingData) → before ≡ Some st → IsStaging st → (made : State) → Hydrates st made → BringsStaging roster log (Some st) brought)
      → EndsInUnion old.cached before told new.cached new.staging → ReplicaMeans roster log (facts_after facts brought request.Unite told) new
  unites_staged facts brought old new None told means brings says =
      subst (λ (r : Reply). ReplicaMeans roster log (facts_after facts brought request.Unite r) new) (sym says.0)
      (subst (λ (c : Cached). Means roster log facts c.segment) (sym says.1) means)
  unites_staged facts brought old new (Some st) told means brings says =
      united_by facts brought old new st told says.answer means (brings st refl says.makes.form) says.makes says.unites

  united : (turns : List (ℕ × Turn)) (node : ℕ) (brought : List Fact) (old new : ReplicaData) (told : Reply) → Stands roster log turns node old
      → StagesFacts turns node brought → IsReply old request.Unite told new
      → ReplicaMeans roster log (facts_after (facts_at turns node) brought request.Unite told) new
  united turns node brought old new told stands same says =
      unites_staged (facts_at turns node) brought old new old.staging told stands.means
      (λ st is form. (of_facts turns node brought old stands same st is form).brings) says.0

  means_after : (turns : List (ℕ × Turn)) (node : ℕ) (asked : Request) (told : Reply) (brought : List Fact) (old new : ReplicaData)
      → HaveTold roster log turns → Stands roster log turns node old → IsCarried roster log turns node asked brought → IsReply old asked told new
      → ReplicaMeans roster log (facts_after (facts_at turns node) brought asked told) new
  means_after turns node (request.Absorb summary delta) told brought old new have stands carried says =
      step_means roster log (facts_at turns node) brought old (request.Absorb summary delta) told new sound (have.deltas summary delta brought carried) says
      stands.means
  means_after turns node request.Finish told brought old new have stands carried says =
      finished turns node brought old.cached new.cached old.staging new.staging told stands.means stands.staging carried says.0
  means_after turns node request.Unite told brought old new have stands carried says =
      united turns node brought old new told stands carried says
  means_after turns node (request.Add piece) told brought old new have stands carried says =
      step_means roster log (facts_at turns node) brought old (request.Add piece) told new sound tt says stands.means
  means_after turns node asked told brought old new have stands carried says =
      step_means roster log (facts_at turns node) brought old asked told new sound carried says stands.means

  adds_told : (turns : List (ℕ × Turn)) (node : ℕ) (asked : Request) (brought : List Fact) → HaveTold roster log turns
      → IsCarried roster log turns node asked brought → AddsTold roster log brought asked
  adds_told turns node (request.Add piece) brought have carried = have.pieces carried.0 piece brought carried.1
  adds_told turns node asked brought have carried = tt

  own_stands : (turns : List (ℕ × Turn)) (node : ℕ) (t : Turn) (old new : ReplicaData) → HaveTold roster log turns → Stands roster log turns node old
      → IsCarried roster log turns node t.asked t.brought → IsReply old t.asked t.told new → Stands roster log (turns ++ (node, t) ∷ []) node new
  own_stands turns node t old new have stands carried says = record {
    means = subst (λ facts. ReplicaMeans roster log facts new) (sym (own_facts turns node t))
        (means_after turns node t.asked t.told t.brought old new have stands carried says);
    snapshot = subst (λ facts. KeepsMade roster log facts new.snapshot) (sym (own_frozen turns node t))
        (snapshot_made roster log (facts_at turns node) (frozen_at turns node) t.asked t.told old new stands.means stands.snapshot says);
    staging = subst (λ staged. KeepsStaged roster log staged new.staging) (sym (own_staged turns node t))
        (staging_kept roster log t.brought (staged_at turns node) t.asked t.told old new (adds_told turns node t.asked t.brought have carried) stands.staging says);
    filled = subst (λ begun. FillsAs begun new.staging) (sym (own_begun turns node t))
        (still_filled (begun_at turns node) t.asked t.told old new stands.filled says);
  }

  -- ---- the other nodes
  other_stands : (turns : List (ℕ × Turn)) (node other : ℕ) (t : Turn) (r : ReplicaData) → node ≢ other → Stands roster log turns other r
      → Stands roster log (turns ++ (node, t) ∷ []) other r
  other_stands turns node other t r apart stands = search (rules, other_facts, other_frozen, other_staged, other_begun)

  -- ---- all
  abbrev pub Comes : List (ℕ × Turn) → ℕ → Turn → Type 0
  Comes turns node t = IsCarried roster log turns node t.asked t.brought

  pub stands_kept : IsKept (Stands roster log) (HaveTold roster log) Comes
  stands_kept = record { own = own_stands; others = other_stands; all = told_more }

  pub begin : (pages : ℕ → ℕ) (turns : List (ℕ × Turn)) (nodes : ℕ → ReplicaData) → AreTurnsOf roster pages turns nodes
      → Hold (Stands roster log) (HaveTold roster log) Comes stands_kept nodes [] turns
  begin pages turns nodes runs =
      let told : HaveTold roster log [] = record {
        deltas = λ summary delta facts w. ⊎_elim
            (λ (free : WasReplied facts_at [] (request.Answer summary) (reply.Delta delta) facts). absurd (none_there free.before free.turn free.after free.all))
            (λ (limited : (most : ℕ) × WasReplied facts_at [] (request.AnswerWithin summary most) (reply.Delta delta) facts).
            absurd (none_there limited.1.before limited.1.turn limited.1.after limited.1.all))
            w;
        pieces = λ index p facts w. absurd (none_there w.before w.turn w.after w.all);
      } in
      let stands : (node : ℕ) → Stands roster log [] node (empty_replica roster (pages node)) = λ node. record {
        means = empty_means roster log;
        snapshot = λ d is. absurd (cc);
        staging = λ st is. absurd (cc);
        filled = tt;
      } in
      (told, λ node. (empty_replica roster (pages node), runs node, stands node))

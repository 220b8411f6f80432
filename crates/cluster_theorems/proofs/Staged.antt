-- A node's snapshot and staging after a turn, where they were of snapshots of some facts.
use Rattle.std.proofs.Common.{◌≡◌, ◌≢◌, ℕ, zero, suc, ◌⊎◌, ◌↔◌, inl, inr, ⊎_elim, List, [], ◌∷◌, refl, sym, ◌∙◌, subst, ◌<◌, ◌≤◌, arith, Option, Some, None, rules}
use Rattle.std.specs.Prelude.{option_map}
use Rattle.std.specs.List.{Contains}
use Rattle.std.proofs.lemmas.Option.{same_Some}
use Rattle.redo_core.specs.declared.facts.Fact.{Fact}
use Rattle.redo_core.proofs.Members.{here, there, none_in, which}
use Rattle.hot_log.specs.Found.{IsLeast}
use Rattle.segment_theorems.specs.Means.{Means}
use Rattle.messages.specs.Pieces.{PieceData}
use Rattle.snapshot.specs.Placing.{IsComplete}
use Rattle.snapshot.specs.Stagings.{StagingData, staging_of, piece_at, Adds, IsMissingPiece}
use Rattle.replica.specs.declared.requests.Request.{Request}
use Rattle.replica.specs.declared.requests.Request.TheVariants as request
use Rattle.replica.specs.declared.replies.Reply.{Reply}
use Rattle.replica.specs.declared.replies.Reply.TheVariants as reply
use Rattle.replica.specs.Parts.{ReplicaData}
use Rattle.replica.specs.Machine.{IsReply}
use Rattle.cluster_theorems.specs.Turns.{frozen_after, staged_after, Begun, with_piece, begun_after}
use Rattle.cluster_theorems.specs.Replying.{Lacks}
use Rattle.cluster_theorems.proofs.Beside.{StagingStays, IsGone, IsBegun, HasMore, staging_goes}
use Rattle.cluster_theorems.proofs.Made.{IsTold, KeepsMade, KeepsStaged}
use Rattle.replica.proofs.Restarts.{same_or_not}

module _ (roster : ℕ) (log facts frozen : List Fact) (asked : Request) (told : Reply) (old new : ReplicaData) where
  pub snapshot_made : Means roster log facts old.cached.segment → KeepsMade roster log frozen old.snapshot → IsReply old asked told new
      → KeepsMade roster log (frozen_after facts frozen asked told) new.snapshot
  snapshot_made means had says = search rules

-- the piece that a turn adds is of the facts that it brings
abbrev pub AddsTold : ℕ → List Fact → List Fact → Request → Type 0
AddsTold roster log brought (request.Add piece) = IsTold roster log brought piece
AddsTold roster log brought asked = Unit {0}

module _ (roster : ℕ) (log brought : List Fact) (staged : List (List Fact)) where
  begun : (name total : ℕ) (new : Option StagingData) → new ≡ Some (staging_of name total []) → KeepsStaged roster log [] new
  begun name total new is st has index p at = cc

  one_more : (old new : Option StagingData) (asked : Request) (told : Reply) → KeepsStaged roster log staged old → AddsTold roster log brought asked
      → HasMore old new asked told → KeepsStaged roster log (brought ∷ staged) new
  one_more old new asked told had adds more st has index p at =
      let piece = more.piece in
      let carried : IsTold roster log brought piece = subst (AddsTold roster log brought) more.asked_is adds in
      let now : piece_at more.later index ≡ Some p = subst (λ (x : StagingData). piece_at x index ≡ Some p) (same_Some st more.later (sym has ∙ more.has)) at in
      ⊎_elim
      (λ (same : index ≡ piece.index).
      let found : piece_at more.later index ≡ Some piece = subst (λ i. piece_at more.later i ≡ Some piece) (sym same) more.adds.there in
      (brought, here brought staged, subst (IsTold roster log brought) (same_Some piece p (sym found ∙ now)) carried))
      (λ (other : index ≢ piece.index).
      let of = had more.st more.had index p (sym (more.adds.others index other) ∙ now) in
      (of.0, there brought staged of.0 of.1, of.2))
      (same_or_not index piece.index)

  pub staging_kept : (asked : Request) (told : Reply) (old new : ReplicaData) → AddsTold roster log brought asked → KeepsStaged roster log staged old.staging
      → IsReply old asked told new → KeepsStaged roster log (staged_after staged brought asked told) new.staging
  staging_kept asked told old new adds had says =
      let Goal : List (List Fact) → Type 0 = λ given. KeepsStaged roster log given new.staging in
      ⊎_elim
      (λ (stays : StagingStays old.staging new.staging asked told).
      subst Goal (sym (stays.staged staged brought)) (subst (KeepsStaged roster log staged) (sym stays.same) had))
      (λ t. ⊎_elim
      (λ (gone : IsGone new.staging asked told). λ st has. absurd (let none : new.staging ≡ None = gone.none in cc))
      (λ u. ⊎_elim
      (λ (is : IsBegun new.staging asked told).
      subst (λ a. Goal (staged_after staged brought a told)) (sym is.2) (begun is.0 is.1 new.staging is.3))
      (λ (more : HasMore old.staging new.staging asked told).
      subst (λ a. Goal (staged_after staged brought a told)) (sym more.asked_is)
      (subst (λ r. Goal (staged_after staged brought (request.Add more.piece) r)) (sym more.told_is)
      (one_more old.staging new.staging asked told had adds more)))
      u)
      t)
      (staging_goes asked told old new says)

-- ---- the staging is the one that was begun, with the pieces that it has taken
abbrev pub FillsAs : Option Begun → Option StagingData → Type 0
FillsAs None None = Unit {0}
FillsAs None (Some st) = ⊥
FillsAs (Some begun) None = ⊥
FillsAs (Some begun) (Some st) = (st.total ≡ begun.total) × ((index : ℕ) → Contains begun.taken index ↔ ((p : PieceData) × (piece_at st index ≡ Some p)))

filled_none : (name total : ℕ) → FillsAs (Some (record { total = total; taken = [] })) (Some (staging_of name total []))
filled_none name total = (refl, λ index. (λ h. absurd (none_in index h), λ h. absurd (let e = h.1 in cc)))

filled_more : (begun : Begun) (st later : StagingData) (piece : PieceData) → FillsAs (Some begun) (Some st) → Adds st piece later
    → FillsAs (Some (with_piece piece.index begun)) (Some later)
filled_more begun st later piece fills adds = (
  adds.total ∙ fills.0,
  λ index. (
    λ h. ⊎_elim
        (λ (e : piece.index ≡ index). (piece, subst (λ i. piece_at later i ≡ Some piece) e adds.there))
        (λ (before : Contains begun.taken index).
        ⊎_elim
        (λ (same : index ≡ piece.index). (piece, subst (λ i. piece_at later i ≡ Some piece) (sym same) adds.there))
        (λ (other : index ≢ piece.index). let p = (fills.1 index).0 before in (p.0, adds.others index other ∙ p.1))
        (same_or_not index piece.index))
        (which piece.index begun.taken index h),
    λ p. ⊎_elim
        (λ (same : index ≡ piece.index). subst (Contains (piece.index ∷ begun.taken)) (sym same) (here piece.index begun.taken))
        (λ (other : index ≢ piece.index).
        there piece.index begun.taken index ((fills.1 index).1 (p.0, sym (adds.others index other) ∙ p.1)))
        (same_or_not index piece.index),
  ),
)

filled_after : (begun : Option Begun) (st later : StagingData) (piece : PieceData) → FillsAs begun (Some st) → Adds st piece later
    → FillsAs (option_map (with_piece piece.index) begun) (Some later)
filled_after None st later piece fills adds = absurd fills
filled_after (Some begun) st later piece fills adds = filled_more begun st later piece fills adds

pub still_filled : (begun : Option Begun) (asked : Request) (told : Reply) (old new : ReplicaData) → FillsAs begun old.staging
    → IsReply old asked told new → FillsAs (begun_after begun asked told) new.staging
still_filled begun asked told old new had says =
    let Goal : Option Begun → Type 0 = λ given. FillsAs given new.staging in
    ⊎_elim
    (λ (stays : StagingStays old.staging new.staging asked told).
    subst Goal (sym (stays.begun begun)) (subst (FillsAs begun) (sym stays.same) had))
    (λ t. ⊎_elim
    (λ (gone : IsGone new.staging asked told).
    subst Goal (sym (gone.begun begun)) (subst (FillsAs None) (sym gone.none) tt))
    (λ u. ⊎_elim
    (λ (is : IsBegun new.staging asked told).
    subst (λ a. Goal (begun_after begun a told)) (sym is.2)
    (subst (FillsAs (Some (record { total = is.1; taken = [] }))) (sym is.3) (filled_none is.0 is.1)))
    (λ (more : HasMore old.staging new.staging asked told).
    subst (λ a. Goal (begun_after begun a told)) (sym more.asked_is)
    (subst (λ r. Goal (begun_after begun (request.Add more.piece) r)) (sym more.told_is)
    (subst (FillsAs (option_map (with_piece more.piece.index) begun)) (sym more.has)
    (filled_after begun more.st more.later more.piece (subst (FillsAs begun) more.had had) more.adds))))
    u)
    t)
    (staging_goes asked told old new says)

-- ---- so it lacks what has not come
none_at : (st : StagingData) (index : ℕ) (o : Option PieceData) → piece_at st index ≡ o → ((p : PieceData) → piece_at st index ≡ Some p → ⊥)
    → piece_at st index ≡ None
none_at st index None e none = e
none_at st index (Some p) e none = absurd (none p e)

pub same_lack : (begun : Begun) (st : StagingData) → FillsAs (Some begun) (Some st) → (index : ℕ) → Lacks begun index ↔ IsMissingPiece st index
same_lack begun st fills index = (
  λ lacks. (
    ⊎_elim (λ (lt : index < begun.total). inl (subst (λ n. index < n) (sym fills.0) lt)) (λ (e : index ≡ 0). inr e) lacks.0,
    none_at st index (piece_at st index) refl (λ p is. lacks.1 ((fills.1 index).1 (p, is))),
  ),
  λ missing. (
    ⊎_elim (λ (lt : index < st.total). inl (subst (λ n. index < n) fills.0 lt)) (λ (e : index ≡ 0). inr e) missing.0,
    λ h. let p = (fills.1 index).0 h in let is : piece_at st index ≡ Some p.0 = p.1 in let none : piece_at st index ≡ None = missing.1 in cc,
  ),
)

none_below : (st : StagingData) (n : ℕ) → ((i : ℕ) → i < n → IsMissingPiece st i → ⊥) → (IsMissingPiece st n → ⊥)
    → (i : ℕ) → i < suc n → IsMissingPiece st i → ⊥
none_below st n none not i lt missing = ⊎_elim
    (λ (e : i ≡ n). not (subst (IsMissingPiece st) e missing))
    (λ (l : i < n). none i l missing)
    (let t : (i ≡ n) ⊎ (i < n) = grind (arith, lt) in t)

least_here : (st : StagingData) (n : ℕ) (o : Option PieceData) → piece_at st n ≡ o → ((i : ℕ) → i < n → IsMissingPiece st i → ⊥)
    → ((i : ℕ) → i < suc n → IsMissingPiece st i → ⊥) ⊎ ((i : ℕ) × IsLeast (IsMissingPiece st) (Some i))
least_here st n (Some p) e none = inl (none_below st n none (λ missing. let no : piece_at st n ≡ None = missing.1 in cc))
least_here st n None e none = ⊎_elim
    (λ (within : (n < st.total) ⊎ (n ≡ 0)). inr (
      n,
      (
        (within, e),
        λ m missing. ⊎_elim
            (λ (lt : m < n). absurd (none m lt missing))
            (λ (le : n ≤ m). le)
            (let t : (m < n) ⊎ (n ≤ m) = grind arith in t),
      ),
    ))
    (λ (above : (st.total ≤ n) × (0 < n)). inl (none_below st n none (λ missing. ⊎_elim
    (λ (lt : n < st.total). omega (arith, lt, above.0))
    (λ (z : n ≡ 0). omega (arith, z, above.1))
    missing.0)))
    (let t : ((n < st.total) ⊎ (n ≡ 0)) ⊎ ((st.total ≤ n) × (0 < n)) = grind arith in t)

-- the least piece below an index that is missing, if one is
least_missing : (st : StagingData) (n : ℕ)
    → ((i : ℕ) → i < n → IsMissingPiece st i → ⊥) ⊎ ((i : ℕ) × IsLeast (IsMissingPiece st) (Some i))
least_missing st zero = inl (λ i lt. absurd (omega (arith, lt)))
least_missing st (suc n) = ⊎_elim (least_here st n (piece_at st n) refl) (λ least. inr least) (least_missing st n)

-- where no least piece is missing, none is
pub complete : (st : StagingData) → ((i : ℕ) → IsLeast (IsMissingPiece st) (Some i) → ⊥) → IsComplete st
complete st none index missing = ⊎_elim
    (λ (below : (i : ℕ) → i < suc index → IsMissingPiece st i → ⊥). below index (omega arith) missing)
    (λ (least : (i : ℕ) × IsLeast (IsMissingPiece st) (Some i)). none least.0 least.1)
    (least_missing st (suc index))

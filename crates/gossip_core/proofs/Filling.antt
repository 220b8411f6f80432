-- A reply, as the law of replies has it.
use Rattle.std.proofs.Common.{◌≡◌, ◌≢◌, ℕ, ◌<◌, ◌≤◌, ◌⊎◌, inl, inr, ⊎_elim, min, List, refl, sym, ap, subst, arith, rules}
use Rattle.std.specs.List.{Contains}
use Rattle.std.proofs.Math.Nat.{min-le_right}
use Rattle.redo_core.specs.Data.{RecordData}
use Rattle.redo_core.specs.Keys.{key_of}
use Rattle.redo_core.specs.declared.keys.Key.{Key}
use Rattle.redo_core.specs.Order.{Lists, RecordBefore}
use Rattle.redo_core.specs.Standing.{IsAlive, IsWaiting}
use Rattle.redo_core.specs.Writing.{zeros}
use Rattle.redo_core.specs.Meaning.{ImageBefore}
use Rattle.log_theorems.proofs.Deciding.{settled_eq, settled_and, some_or_none}
use Rattle.messages.specs.Summaries.{SummaryData}
use Rattle.messages.specs.Deltas.{DeltaData}
use Rattle.segment_theorems.specs.State.{State}
use Rattle.segment_theorems.specs.Shows.{Shows}
use Rattle.segment_theorems.specs.HasMeaning.{IsKeptBy}
use Rattle.segment_theorems.specs.Laws.{SameAnchor}
use Rattle.segment_theorems.specs.Gossip.{IsListed, IsDeltaFor, ReplyFills}
use Rattle.gossip_core.specs.Answering.{listing_of}
use Rattle.gossip_core.specs.Absorbing.{filling_of}
use Rattle.gossip_core.specs.Replying.{IsSent, SendsRecords, SendsPages, AnswersSummary, FillsSummary}
use Rattle.hot_log.proofs.KeySearch.{same_key}

listed_or_not : (keys : List Key) (r : RecordData) → Contains keys (key_of r) ⊎ (Contains keys (key_of r) → ⊥)
listed_or_not keys r =
    let P : Key → Type 0 = λ k. (k.epoch ≡ r.epoch) × (k.number ≡ r.number) in
    ⊎_elim
    (λ (t : (k : Key) × Contains keys k × P k). inl (subst (Contains keys) (let p : P t.0 = t.2 in same_key t.0 (key_of r) p.0 p.1) t.1))
    (λ (no : (k : Key) → Contains keys k → P k → ⊥). inr (λ has. no (key_of r) has (refl, refl)))
    (some_or_none P (λ k. settled_and _ _ (settled_eq k.epoch r.epoch) (λ _. settled_eq k.number r.number)) keys)

is_listed : (summary : SummaryData) (r : RecordData) → Contains summary.keys (key_of r) → IsListed (listing_of summary) r
is_listed summary r has = (key_of r, has, refl, refl)

-- a kept record is sent or listed
sent_or_listed : (s : State) (point : ℕ) (summary : SummaryData) (rs : List RecordData) → Lists RecordBefore (IsSent s point summary.keys) rs
    → (r : RecordData) → IsKeptBy s point r → Contains rs r ⊎ IsListed (listing_of summary) r
sent_or_listed s point summary rs lists r kept =
    ⊎_elim
    (λ (has : Contains summary.keys (key_of r)). inr (is_listed summary r has))
    (λ (not : Contains summary.keys (key_of r) → ⊥). inl ((lists.members r).1 (kept, not)))
    (listed_or_not summary.keys r)

sent_is_held : (s : State) (point : ℕ) (keys : List Key) (r : RecordData) → IsSent s point keys r
    → Contains s.held r × (IsWaiting s.book.complete r.epoch ⊎ IsAlive s.book.cuts s.book.complete r.epoch r.number)
sent_is_held s point keys r sent = search rules

-- what is kept above a point is kept above each lower one
kept_above_lower : (s : State) (point anchor : ℕ) (r : RecordData) → point ≤ anchor → IsKeptBy s anchor r → IsKeptBy s point r
kept_above_lower s point anchor r low kept = search rules

of_records : (s : State) (anchor : ℕ) (summary : SummaryData) (d : DeltaData) → s.base ≤ summary.anchor → SendsRecords s summary d
    → IsDeltaFor anchor s (listing_of summary) (filling_of d)
of_records s anchor summary d low a = let point = min a.anchor summary.anchor in record {
  same_cuts = λ c. (λ h. subst (λ b. Contains b.cuts c) a.book h, λ h. subst (λ b. Contains b.cuts c) (sym a.book) h);
  epoch = ap (λ b. b.complete) a.book;
  same_points = ap (λ b. b.points) a.book;
  same_waits = λ w. (λ h. subst (λ b. Contains b.waits w) a.book h, λ h. subst (λ b. Contains b.waits w) (sym a.book) h);
  of_held = λ r h. sent_is_held s point summary.keys r ((a.records.members r).0 h);
  rest = inl (
    low,
    a.base,
    a.pages,
    λ r kept. sent_or_listed s point summary d.records a.records r
        (kept_above_lower s point summary.anchor r (min-le_right a.anchor summary.anchor) kept),
  );
}

of_pages : (s : State) (anchor : ℕ) (summary : SummaryData) (d : DeltaData) → d.base ≡ anchor → SendsPages s summary d
    → IsDeltaFor anchor s (listing_of summary) (filling_of d)
of_pages s anchor summary d at a = record {
  same_cuts = λ c. (λ h. subst (λ b. Contains b.cuts c) a.book h, λ h. subst (λ b. Contains b.cuts c) (sym a.book) h);
  epoch = ap (λ b. b.complete) a.book;
  same_points = ap (λ b. b.points) a.book;
  same_waits = λ w. (λ h. subst (λ b. Contains b.waits w) a.book h, λ h. subst (λ b. Contains b.waits w) (sym a.book) h);
  of_held = λ r h. sent_is_held s d.base summary.keys r ((a.records.members r).0 h);
  rest = inr (
    at,
    subst (λ n. Lists ImageBefore (λ i. Shows s i.page n i.bytes × (i.bytes ≢ zeros)) d.pages) at a.pages,
    λ r kept. sent_or_listed s d.base summary d.records a.records r (subst (λ n. IsKeptBy s n r) (sym at) kept),
  );
}

-- so it fills what the summary lacks
pub fills : ReplyFills → SameAnchor → (s : State) (summary : SummaryData) (d : DeltaData) → AnswersSummary s summary d → FillsSummary s summary d
fills law same s summary d a = λ roster log facts p sound means.
    law roster log facts p s (listing_of summary) (filling_of d) sound means
    (⊎_elim
    (λ (low : s.base ≤ summary.anchor). of_records s p.anchor summary d low (a.short low))
    (λ (high : summary.anchor < s.base).
    let sends : SendsPages s summary d = a.whole high in
    of_pages s p.anchor summary d ((same roster log facts p s d.base sound means sends.base).1) sends)
    (let t : (s.base ≤ summary.anchor) ⊎ (summary.anchor < s.base) = grind arith in t))

pub answers_short : (s : State) (summary : SummaryData) (d : DeltaData) → s.base ≤ summary.anchor → SendsRecords s summary d → AnswersSummary s summary d
answers_short s summary d low a = record { short = λ _. a; whole = λ high. absurd (omega (arith, low, high)) }

pub answers_whole : (s : State) (summary : SummaryData) (d : DeltaData) → summary.anchor < s.base → SendsPages s summary d → AnswersSummary s summary d
answers_whole s summary d high a = record { short = λ low. absurd (omega (arith, low, high)); whole = λ _. a }

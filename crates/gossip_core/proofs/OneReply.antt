-- A segment has one summary, and one reply to each.
use Rattle.std.proofs.Common.{◌≡◌, ◌≢◌, ℕ, ◌<◌, ◌≤◌, ◌⊎◌, ⊎_elim, min, List, map, sym, ap, ◌∙◌, subst, arith, rules}
use Rattle.redo_core.specs.Data.{RecordData}
use Rattle.redo_core.specs.Keys.{key_of}
use Rattle.redo_core.specs.Meaning.{ImageBefore}
use Rattle.redo_core.specs.Order.{Lists, RecordBefore}
use Rattle.redo_core.specs.Writing.{zeros}
use Rattle.redo_core.proofs.Members.{lists_unique}
use Rattle.redo_core.proofs.Pairs.{pair_apart}
use Rattle.messages.specs.Summaries.{SummaryData, summary_of}
use Rattle.messages.specs.Deltas.{DeltaData}
use Rattle.segment_theorems.specs.State.{State}
use Rattle.segment_theorems.specs.Shows.{Shows}
use Rattle.segment_theorems.specs.HasMeaning.{IsKeptBy}
use Rattle.gossip_core.specs.Summarizing.{Summarizes}
use Rattle.gossip_core.specs.Replying.{IsSent, SendsRecords, SendsPages, AnswersSummary}
use Rattle.segment_core.proofs.OneView.{one_anchor}

one_list : {X : Type 0} (Before : X → X → Type 0) → ((x y : X) → Before x y → Before y x → ⊥) → (P : ℕ → X → Type 0) (m n : ℕ) (xs ys : List X) → m ≡ n
    → Lists Before (P m) xs → Lists Before (P n) ys → xs ≡ ys
one_list Before apart P m n xs ys same a b =
    lists_unique Before apart (P n) (P n) (λ x. (λ h. h, λ h. h)) xs ys (subst (λ i. Lists Before (P i) xs) same a) b

records : (P : ℕ → RecordData → Type 0) (m n : ℕ) (rs qs : List RecordData) → m ≡ n → Lists RecordBefore (P m) rs → Lists RecordBefore (P n) qs → rs ≡ qs
records P m n rs qs = one_list RecordBefore (λ r q a b. pair_apart r.epoch r.number q.epoch q.number a b) P m n rs qs

pub one_summary : (s : State) (x y : SummaryData) → Summarizes s x → Summarizes s y → x ≡ y
one_summary s x y a b =
    let anchor : x.anchor ≡ y.anchor = one_anchor s x.anchor y.anchor a.anchor b.anchor in
    let kept : a.kept ≡ b.kept = records (IsKeptBy s) x.anchor y.anchor a.kept b.kept anchor a.kept_are b.kept_are in
    ap (λ z. summary_of z x.anchor x.keys) (a.book ∙ sym b.book) ∙ ap (λ n. summary_of y.book n x.keys) anchor
    ∙ ap (summary_of y.book y.anchor) (a.keys ∙ ap (map key_of) kept ∙ sym b.keys)

by_parts : (d e : DeltaData) → d.book ≡ e.book → d.base ≡ e.base → d.pages ≡ e.pages → d.records ≡ e.records → d ≡ e
by_parts d e book base pages sent = search rules

short : (s : State) (x : SummaryData) (d e : DeltaData) → SendsRecords s x d → SendsRecords s x e → d ≡ e
short s x d e a b =
    by_parts d e (a.book ∙ sym b.book) (a.base ∙ sym b.base) (a.pages ∙ sym b.pages)
    (records (λ n. IsSent s (min n x.anchor) x.keys) a.anchor b.anchor d.records e.records (one_anchor s a.anchor b.anchor a.own b.own) a.records b.records)

whole : (s : State) (x : SummaryData) (d e : DeltaData) → SendsPages s x d → SendsPages s x e → d ≡ e
whole s x d e a b =
    let base : d.base ≡ e.base = one_anchor s d.base e.base a.base b.base in
    by_parts d e (a.book ∙ sym b.book) base
    (one_list ImageBefore (λ i j lt gt. omega (arith, lt, gt)) (λ n i. Shows s i.page n i.bytes × (i.bytes ≢ zeros)) d.base e.base d.pages e.pages base a.pages b.pages)
    (records (λ n. IsSent s n x.keys) d.base e.base d.records e.records base a.records b.records)

which : (m n : ℕ) → (m ≤ n) ⊎ (n < m)
which m n = grind arith

pub one_reply : (s : State) (x : SummaryData) (d e : DeltaData) → AnswersSummary s x d → AnswersSummary s x e → d ≡ e
one_reply s x d e a b =
    ⊎_elim (λ (h : s.base ≤ x.anchor). short s x d e (a.short h) (b.short h)) (λ (h : x.anchor < s.base). whole s x d e (a.whole h) (b.whole h))
    (which s.base x.anchor)

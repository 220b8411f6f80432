-- The keys of kept records, and the summary of a meaning.
use Rattle.std.proofs.Common.{◌≡◌, ℕ, List, [], ◌∷◌, map, None, sym, ap, ◌∙◌, subst, arith}
use Rattle.std.specs.List.{Contains, AllByRecursion}
use Rattle.std.proofs.lemmas.Bool.Decides.{nat_tests}
use Rattle.redo_core.specs.Data.{RecordData}
use Rattle.redo_core.specs.Keys.{key_of, KeyBefore, IsKey}
use Rattle.redo_core.specs.declared.keys.Key.{Key}
use Rattle.redo_core.specs.Shape.{record_fault}
use Rattle.redo_core.specs.Order.{IsRising, Lists, RecordBefore, AdvanceBefore}
use Rattle.redo_core.specs.CompleteEpoch.{IsCompleteEpoch}
use Rattle.redo_core.specs.Meaning.{Meaning}
use Rattle.redo_core.proofs.Members.{here, there, each, lists_unique}
use Rattle.redo_core.proofs.Pairs.{pair_apart, advance_apart}
use Rattle.messages.specs.Summaries.{SummaryData}
use Rattle.segment_theorems.specs.State.{State}
use Rattle.segment_theorems.specs.HasMeaning.{HasMeaning, IsKeptBy}
use Rattle.segment_core.specs.Form.{IsSegment}
use Rattle.segment_core.proofs.StoredCuts.{same_cuts}
use Rattle.gossip_core.specs.Summarizing.{Summarizes, IsSummaryOf}
use Rattle.segment_core.proofs.OneView.{one_anchor}

shaped_key : (r : RecordData) → record_fault r ≡ None → IsKey (key_of r)
shaped_key r h = grind (arith, nat_tests)

all_keys : (P : Key → Type 0) (rs : List RecordData) → ((r : RecordData) → Contains rs r → P (key_of r)) → AllByRecursion P (map key_of rs)
all_keys P [] h = tt
all_keys P (r ∷ rs) h = (h r (here r rs), all_keys P rs (λ q k. h q (there r rs q k)))

-- keys rise as their records do
pub keys_rise : (rs : List RecordData) → IsRising RecordBefore rs → IsRising KeyBefore (map key_of rs)
keys_rise [] rise = tt
keys_rise (r ∷ rs) rise = (all_keys (KeyBefore (key_of r)) rs (λ q h. each (RecordBefore r) rs q rise.0 h), keys_rise rs rise.1)

pub keys_fit : (s : State) (anchor : ℕ) (rs : List RecordData) → IsSegment s
    → Lists RecordBefore (IsKeptBy s anchor) rs → AllByRecursion IsKey (map key_of rs)
keys_fit s anchor rs form lists = all_keys IsKey rs (λ r h. shaped_key r (form.held.shaped r ((lists.members r).0 h).0))

-- a summary of a state is that of the state's meaning
pub of_meaning : (s : State) (m : Meaning) (x : SummaryData) → IsSegment s → Summarizes s x → HasMeaning s m → IsSummaryOf m x
of_meaning s m x form is has =
    let cuts : m.cuts ≡ s.book.cuts = same_cuts s m form.book.cuts_rise has in
    let anchor : x.anchor ≡ m.anchor = one_anchor s x.anchor m.anchor is.anchor has.anchor in
    let waits : s.book.waits ≡ m.waits = lists_unique AdvanceBefore advance_apart (Contains s.book.waits) (Contains s.book.waits) (λ a. (λ h. h, λ h. h))
    s.book.waits m.waits (record { rising = form.book.waits_rise; members = λ a. (λ h. h, λ h. h) }) has.same_waits in
    let kept : is.kept ≡ m.kept = lists_unique RecordBefore (λ r q a b. pair_apart r.epoch r.number q.epoch q.number a b)
    (IsKeptBy s x.anchor) (IsKeptBy s m.anchor)
    (λ r. (λ h. subst (λ n. IsKeptBy s n r) anchor h, λ h. subst (λ n. IsKeptBy s n r) (sym anchor) h)) is.kept m.kept is.kept_are has.kept in
    record {
      cuts = ap (λ b. b.cuts) is.book ∙ sym cuts;
      complete = subst (IsCompleteEpoch m.cuts) (sym (ap (λ b. b.complete) is.book)) (subst (λ cs. IsCompleteEpoch cs s.book.complete) (sym cuts) has.epoch);
      points = ap (λ b. b.points) is.book ∙ sym has.same_points;
      waits = ap (λ b. b.waits) is.book ∙ waits;
      anchor = anchor;
      keys = is.keys ∙ ap (map key_of) kept;
    }

-- What a sound log implies for its truncations and advances, and that a book learns them.
use Rattle.std.proofs.Common.{◌≡◌, ◌≢◌, ℕ, ◌<◌, ◌≤◌, ◌⊎◌, inl, ⊎_elim, List, length, refl, sym, subst, arith}
use Rattle.std.specs.List.{Contains}
use Rattle.redo_core.specs.Data.{CutData, AdvanceData}
use Rattle.redo_core.specs.Sets.{advances}
use Rattle.redo_core.specs.Roster.{IsReader, point_of, least}
use Rattle.redo_core.specs.Points.{HasAdvance}
use Rattle.redo_core.specs.Past.{IsPast, IsKnownPast}
use Rattle.redo_core.specs.Sound.{IsSound}
use Rattle.redo_core.specs.declared.facts.Fact.{Fact}
use Rattle.redo_core.specs.declared.facts.Fact.TheVariants.{Cut, Advance}
use Rattle.epoch_book.specs.Book.{BookData, roster_of}
use Rattle.epoch_book.specs.Refusing.{LacksCut, OthersPast, RefusesCut, RefusesAdvance}
use Rattle.epoch_book.specs.SoundFacts.{KnowsPart}
use Rattle.epoch_book.specs.declared.refusals.Held.TheVariants.{Min, Advance as OfAdvance, Cut as OfCut}
use Rattle.epoch_book.specs.declared.refusals.BookRefusal.{BookRefusal}
use Rattle.epoch_book.specs.declared.refusals.BookRefusal.TheVariants.{OtherRoster, OtherCut, Contradiction, Memory}
use Rattle.redo_core.proofs.Points.{least_le}
use Rattle.redo_core.proofs.FactParts.{cut_in, advance_in}
use Rattle.redo_core.proofs.SoundFacts.{kept, same_cut, counted_in, cut_facts}
use Rattle.redo_core.proofs.CompleteEpochs.{has_cuts}

-- no truncation of the log has all readers past it
none_past : (roster : ℕ) (log : List Fact) (c : CutData) → IsSound roster log → Contains log (Cut c)
    → ((reader : ℕ) → IsReader roster reader → IsPast (advances log) c reader) → ⊥
none_past roster log c sound hc past =
    let s = past 1 (omega arith, sound.readers.0) in
    let ha = (advance_in log s.0).0 s.1 in
    let t : s.0.point ≤ c.lo = (kept roster log (Advance s.0) sound ha).law5.2 c ((counted_in roster log sound c).1 ((cut_in log c).1 hc)) s.3 past in
    let u : c.lo < s.0.point = s.4 in
    omega arith

module _ (roster : ℕ) (log : List Fact) (b : BookData) (sound : IsSound roster log) (known : KnowsPart roster log b) where
  cut_of_log : (c : CutData) → Contains b.cuts c → Contains log (Cut c)
  cut_of_log c h = known.part (Cut c) ((cut_in known.facts c).0 ((known.knows.same_cuts c).0 h))

  advance_of_log : (a : AdvanceData) → Contains (advances known.facts) a → Contains log (Advance a)
  advance_of_log a h = known.part (Advance a) ((advance_in known.facts a).0 h)

  -- a truncation that is not stored is of an epoch above the complete one
  beyond : (c : CutData) → Contains log (Cut c) → LacksCut b.cuts c.epoch → b.complete < c.epoch
  beyond c h lacks =
      let positive : 0 < c.epoch = (cut_facts c (kept roster log (Cut c) sound h).shape).0 in
      ⊎_elim
      (λ (l : c.epoch ≤ b.complete). let held = has_cuts b.cuts b.complete known.book.complete c.epoch (omega arith) l in absurd (lacks held.0 held.1 held.2))
      (λ (l : b.complete < c.epoch). l)
      (let t : (c.epoch ≤ b.complete) ⊎ (b.complete < c.epoch) = grind arith in t)

  own_reader : (reader : ℕ) → IsReader roster reader → IsReader (roster_of b) reader
  own_reader reader r = subst (λ n. IsReader n reader) (sym known.readers) r

  -- who is known to be past a truncation of a later epoch, is past it in the log
  past_in_log : (c : CutData) → b.complete < c.epoch → (reader : ℕ) → IsReader roster reader → IsKnownPast b.points b.waits c reader
      → IsPast (advances log) c reader
  past_in_log c later reader r h =
      ⊎_elim
      (λ (low : c.lo < point_of b.points reader). ⊎_elim
      (λ (z : point_of b.points reader ≡ 0). absurd (omega arith))
      (λ (g : HasAdvance (advances known.facts) b.complete reader (point_of b.points reader)).
      let inside : g.0.epoch ≤ b.complete = g.2 in
      let is : g.0.point ≡ point_of b.points reader = g.4 in
      (g.0, (advance_in log g.0).1 (advance_of_log g.0 g.1), g.3, omega arith, omega arith))
      (known.knows.points.each reader (own_reader reader r)).0)
      (λ (w : IsPast b.waits c reader). (w.0, (advance_in log w.0).1 (advance_of_log w.0 ((known.knows.waits w.0).0 w.1).0), w.2, w.3, w.4))
      h

  pub cut_is_learnt : (c : CutData) → Contains log (Cut c) → (e : BookRefusal) → RefusesCut b c e → ⊥
  cut_is_learnt c h (OtherRoster own shown) r = r
  cut_is_learnt c h (OtherCut d) r = r.2 (same_cut roster log sound d c ((cut_in log d).1 (cut_of_log d r.0)) ((cut_in log c).1 h) r.1)
  cut_is_learnt c h (Contradiction (Min m)) r =
      none_past roster log c sound h (λ reader i. past_in_log c (beyond c h r.0) reader i (inl (
      let low : least b.points ≤ point_of b.points reader = least_le (roster_of b) b.points reader refl (own_reader reader i) in
      let is : m ≡ least b.points = r.1 in let below : c.lo < m = r.2 in omega arith)))
  cut_is_learnt c h (Contradiction (OfAdvance a)) r =
      none_past roster log c sound h (λ reader i. past_in_log c (beyond c h r.0) reader i
      (r.2 reader (own_reader reader i) (λ z. let one : 1 ≤ reader = i.0 in omega (arith, z))))
  cut_is_learnt c h (Contradiction (OfCut d)) r = r
  cut_is_learnt c h Memory r = r

  pub advance_is_learnt : (a : AdvanceData) → Contains log (Advance a) → (e : BookRefusal) → RefusesAdvance b a e → ⊥
  advance_is_learnt a h (OtherRoster own shown) r = r.2 (own_reader a.reader (kept roster log (Advance a) sound h).law5.0)
  advance_is_learnt a h (OtherCut d) r = r
  advance_is_learnt a h (Contradiction (Min m)) r = r
  advance_is_learnt a h (Contradiction (OfAdvance w)) r = r
  advance_is_learnt a h (Contradiction (OfCut d)) r =
      let cuts' = r.1.has.1 in
      let mine : IsReader roster a.reader = (kept roster log (Advance a) sound h).law5.0 in
      none_past roster log d sound (cut_of_log d r.1.has.0) (λ reader i. ⊎_elim
      (λ (e : reader ≡ a.reader). (a, (advance_in log a).1 h, sym e, cuts'.0.0, cuts'.0.1))
      (λ (no : reader ≢ a.reader). ⊎_elim
      (λ (one : length b.points ≡ 1). absurd (no (let n : roster_of b ≡ roster = known.readers in omega (arith, one, n, i.0, i.1, mine.0, mine.1))))
      (λ (others : (b.complete < d.epoch) × OthersPast b.points b.waits d a.reader). past_in_log d others.0 reader i (others.1 reader (own_reader reader i) no))
      cuts'.1)
      (let t : (reader ≡ a.reader) ⊎ (reader ≢ a.reader) = grind arith in t))
  advance_is_learnt a h Memory r = r

-- The kept points where the book learns, and where records are removed.
use Rattle.std.proofs.Common.{IsTrue, ◌≡◌, ℕ, ◌<◌, ◌≤◌, ◌⊎◌, inl, inr, ⊎_elim, List, length, refl, sym, subst, arith, Result, Ok, Err, OnOk, OnErr, None, rules}
use Rattle.std.specs.List.{Contains}
use Rattle.std.proofs.lemmas.Bool.{cases_lt}
use Rattle.std.proofs.lemmas.List.Elements.{All-contains}
use Rattle.redo_core.specs.Data.{RecordData, CutData, AdvanceData}
use Rattle.redo_core.specs.Shape.{cut_fault}
use Rattle.redo_core.specs.Standing.{IsAlive}
use Rattle.redo_core.specs.Order.{CutBefore}
use Rattle.redo_core.specs.CompleteEpoch.{HasCutsTo}
use Rattle.redo_core.specs.Roster.{IsReader, point_of, least}
use Rattle.redo_core.proofs.Points.{least_mono}
use Rattle.redo_core.proofs.Rising.{rising_members}
use Rattle.epoch_book.specs.Book.{BookData, IsBook}
use Rattle.epoch_book.proofs.Books.{epoch_grows}
use Rattle.epoch_book.specs.Learning.{LearnsCut, LearnsAdvance}
use Rattle.epoch_book.specs.declared.refusals.Learnt.{Learnt}
use Rattle.epoch_book.specs.declared.refusals.Learnt.TheVariants as learnt
use Rattle.epoch_book.specs.declared.refusals.BookRefusal.{BookRefusal}
use Rattle.hot_log.specs.Alive.{IsHeldAlive}
use Rattle.hot_log.specs.Removing.{Removes}
use Rattle.segment_core.specs.Points.{HasPoints, HasLowAnchor, IsLaterBook, IsSparedChain, WerePoints}
use Rattle.segment_core.specs.declared.points.Points.{Points}
use Rattle.segment_core.specs.declared.points.Spared.{Spared}
use Rattle.segment_core.proofs.Moving.{Agree, points_over}
use Rattle.segment_core.proofs.Taking.{cut_bound, advance_bound}

-- ---- removals
-- of what is not alive above the base point
pub removal_keeps_points : (b : BookData) (held left : List RecordData) (P : RecordData → Type 0) (base : ℕ) (p : Points) → Removes P held left
    → ((r : RecordData) → IsHeldAlive b held r → base < r.number → P r → ⊥) → HasPoints b held base p → HasPoints b left base p
removal_keeps_points b held left P base p gone not = points_over b b held left base p (record {
  onto = λ r h lt. ((gone r).1 (h.0, not r h lt), h.1);
  back = λ r h lt. (((gone r).0 h.0).0, h.1);
}) refl

-- ---- an advance

pub advance_lags : (b c : BookData) (held : List RecordData) (base : ℕ) (p : Points) (a : AdvanceData) (answer : Result Learnt BookRefusal)
    → OnOk answer (LearnsAdvance b a c) → OnErr answer (c ≡ b) → HasPoints b held base p → HasLowAnchor c held base p
advance_lags b c held base p a answer learns same has = search (rules, advance_bound)

-- ---- a truncation that leaves the complete epoch as it was
-- truncations of later epochs decide nothing
alive_by : (cs ds : List CutData) (k e n : ℕ) → ((d : CutData) → Contains cs d → Contains ds d ⊎ (k < d.epoch)) → IsAlive ds k e n → IsAlive cs k e n
alive_by cs ds k e n among a = record {
  known = a.known;
  begun = λ c h same. ⊎_elim (λ (u : Contains ds c). a.begun c u same)
      (λ (u : k < c.epoch). absurd (let le : e ≤ k = a.known in omega arith)) (among c h);
  spared = λ c h lt le. ⊎_elim (λ (u : Contains ds c). a.spared c u lt le) (λ (u : k < c.epoch). absurd (omega arith)) (among c h);
}

not_zero : (c : CutData) → cut_fault c ≡ None → 1 ≤ c.epoch
not_zero c h = grind arith

-- the truncation is of a later epoch, or was known
later_or_known : (b c : BookData) (d : CutData) → IsBook b → IsBook c → LearnsCut b d c → Contains b.cuts d ⊎ (b.complete < d.epoch)
later_or_known b c d is next learns =
    let among : Contains c.cuts d = (learns.cuts d).1 (inr refl) in
    let one : 1 ≤ d.epoch = not_zero d (All-contains (λ x. cut_fault x ≡ None) c.cuts d next.cuts_shaped among) in
    ⊎_elim
    (λ (later : b.complete < d.epoch). inr later)
    (λ (le : d.epoch ≤ b.complete). ⊎_elim
    (λ (z : b.complete ≡ 0). absurd (omega arith))
    (λ (has : HasCutsTo b.cuts b.complete).
    let held = has d.epoch one le in
    ⊎_elim
    (λ (e : held.0 ≡ d). inl (subst (Contains b.cuts) e held.1))
    (λ (o : CutBefore held.0 d ⊎ CutBefore d held.0). absurd (⊎_elim
    (λ (u : held.0.epoch < d.epoch). let at : held.0.epoch ≡ d.epoch = held.2 in omega arith)
    (λ (u : d.epoch < held.0.epoch). let at : held.0.epoch ≡ d.epoch = held.2 in omega arith) o))
    (rising_members CutBefore c.cuts held.0 d next.cuts_rise ((learns.cuts held.0).1 (inl held.1)) among))
    is.complete.0)
    (cases_lt b.complete d.epoch)

cut_agrees : (b c : BookData) (held : List RecordData) (base : ℕ) (d : CutData) → IsBook b → IsBook c → LearnsCut b d c → c.complete ≡ b.complete
    → Agree b c held held base
cut_agrees b c held base d is next learns complete = record {
  onto = λ r h lt. (
    h.0,
    subst (λ k. IsAlive c.cuts k r.epoch r.number) (sym complete) (alive_by c.cuts b.cuts b.complete r.epoch r.number
        (λ x m. ⊎_elim (λ (u : Contains b.cuts x). inl u)
        (λ (e : x ≡ d). subst (λ y. Contains b.cuts y ⊎ (b.complete < y.epoch)) (sym e) (later_or_known b c d is next learns)) ((learns.cuts x).0 m)) h.1),
  );
  back = λ r h lt. (
    h.0,
    alive_by b.cuts c.cuts b.complete r.epoch r.number (λ x m. inl ((learns.cuts x).1 (inl m)))
        (subst (λ k. IsAlive c.cuts k r.epoch r.number) complete h.1),
  );
}

-- no waiting advance takes effect
none_counts : (b c : BookData) (d : CutData) → IsBook b → LearnsCut b d c → c.complete ≡ b.complete → (reader : ℕ) → IsReader (length b.points) reader
    → point_of c.points reader ≤ point_of b.points reader
none_counts b c d is learns complete reader of = search rules

cut_minimum : (b c : BookData) (d : CutData) → IsBook b → LearnsCut b d c → c.complete ≡ b.complete → least c.points ≡ least b.points
cut_minimum b c d is learns complete =
    let up : least b.points ≤ least c.points = cut_bound b c (least b.points) d (Ok learnt.New) learns tt (omega arith) in
    let down : least c.points ≤ least b.points = least_mono (length b.points) c.points b.points learns.points.count refl (none_counts b c d is learns complete) in
    omega arith

pub cut_keeps_points : (b c : BookData) (held : List RecordData) (base : ℕ) (p : Points) (d : CutData) (answer : Result Learnt BookRefusal)
    → IsBook b → IsBook c → OnOk answer (LearnsCut b d c) → OnErr answer (c ≡ b) → c.complete ≡ b.complete → HasPoints b held base p → HasPoints c held base p
cut_keeps_points b c held base p d (Ok l) is next learns same complete has =
    points_over b c held held base p (cut_agrees b c held base d is next learns complete) (cut_minimum b c d is learns complete) has
cut_keeps_points b c held base p d (Err e) is next learns same complete has = subst (λ x. HasPoints x held base p) (sym same) has

-- ---- a truncation, whatever it opens
grows : (b c : BookData) (d : CutData) → IsBook b → IsBook c → LearnsCut b d c → IsLaterBook b c
grows b c d is next learns = record {
  form = is;
  kept = λ x h. (learns.cuts x).1 (inl h);
  known = λ x h. ⊎_elim
      (λ (u : Contains b.cuts x). inl u)
      (λ (e : x ≡ d). subst (λ y. Contains b.cuts y ⊎ (b.complete < y.epoch)) (sym e) (later_or_known b c d is next learns))
      ((learns.cuts x).0 h);
  complete = epoch_grows b.cuts c.cuts b.complete c.complete (λ x h. (learns.cuts x).1 (inl h)) is.complete next.complete;
  minimum = cut_bound b c (least b.points) d (Ok learnt.New) learns tt (omega arith);
}

same_is_later : (b : BookData) → IsBook b → IsLaterBook b b
same_is_later b is = record { form = is; kept = λ x h. h; known = λ x h. inl h; complete = omega arith; minimum = omega arith }

pub cut_is_later : (b c : BookData) (d : CutData) (answer : Result Learnt BookRefusal) → IsBook b → IsBook c → OnOk answer (LearnsCut b d c)
    → OnErr answer (c ≡ b) → IsLaterBook b c
cut_is_later b c d (Ok l) is next learns same = grows b c d is next learns
cut_is_later b c d (Err e) is next learns same = subst (IsLaterBook b) (sym same) (same_is_later b is)

pub cut_had_points : (b c : BookData) (held : List RecordData) (base epoch : ℕ) (p : Points) (s : Spared) (d : CutData) (answer : Result Learnt BookRefusal)
    → IsBook b → IsBook c → OnOk answer (LearnsCut b d c) → OnErr answer (c ≡ b) → epoch ≡ b.complete → HasPoints b held base p
    → (IsTrue p.straight → IsSparedChain b held base s) → WerePoints c held base epoch p s
cut_had_points b c held base epoch p s d answer is next learns same at has stays = record {
  earlier = b;
  later = cut_is_later b c d answer is next learns same;
  at = sym at;
  had = has;
  stays = stays;
}

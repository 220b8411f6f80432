-- What a take does, from what its book or its stored records return.
use Rattle.std.proofs.Common.{◌≡◌, ℕ, ◌<◌, ◌≤◌, ◌⊎◌, ◌↔◌, inl, inr, ⊎_elim, List, [], ◌∷◌, length, refl, sym, ap, ◌∙◌, subst, Result, Ok, Err, OnOk, OnErr, IfOk, IfErr, arith, rules}
use Rattle.std.specs.List.{Contains}
use Rattle.redo_core.specs.Data.{RecordData, CutData, AdvanceData}
use Rattle.redo_core.specs.Order.{RecordBefore}
use Rattle.redo_core.specs.Roster.{point_of, least}
use Rattle.redo_core.specs.Points.{RaisesPoints}
use Rattle.redo_core.proofs.Points.{least_mono}
use Rattle.redo_core.specs.declared.facts.Fact.{Fact}
use Rattle.redo_core.specs.declared.facts.Fact.TheVariants.{Record, Cut, Advance}
use Rattle.redo_core.specs.declared.refusal.Refused.{Refused}
use Rattle.epoch_book.specs.Book.{BookData, IsBook}
use Rattle.epoch_book.specs.Learning.{LearnsCut, LearnsAdvance, KnowsAdvance}
use Rattle.epoch_book.specs.Refusing.{LacksCut, RefusesCut, RefusesAdvance}
use Rattle.epoch_book.specs.declared.refusals.Held.TheVariants as held
use Rattle.epoch_book.specs.declared.refusals.Learnt.{Learnt}
use Rattle.epoch_book.specs.declared.refusals.Learnt.TheVariants as learnt
use Rattle.epoch_book.specs.declared.refusals.BookRefusal.{BookRefusal}
use Rattle.epoch_book.specs.declared.refusals.BookRefusal.TheVariants as book
use Rattle.hot_log.specs.Held.{IsHeld}
use Rattle.hot_log.specs.Putting.{Puts, RefusesPut}
use Rattle.hot_log.specs.declared.log.Put.{Put}
use Rattle.hot_log.specs.declared.log.Put.TheVariants as put
use Rattle.hot_log.specs.declared.log.PutFault.{PutFault}
use Rattle.hot_log.specs.declared.log.PutFault.TheVariants as fault
use Rattle.redo_core.proofs.Rising.{rising_members as in_order}
use Rattle.hot_log.proofs.Keys.{pair_not_same}
use Rattle.segment_theorems.specs.State.{State, state_of, Store}
use Rattle.segment_theorems.specs.Known.{IsKnown, Conflicts}
use Rattle.segment_theorems.specs.Learning.{StoresCut, StoresAdvance}
use Rattle.segment_theorems.specs.Promises.{TakesFact}
use Rattle.segment_theorems.specs.Laws.{TakesRecord, TakesCut, TakesAdvance, TakesKnown, UnchangedExactly, NoConflict}
use Rattle.segment_core.specs.Answering.{refusal_of, AnswersBook, put_refusal_of, AnswersPut}
use Rattle.segment_core.specs.Taking.{ReportsKnown, ReportsChange, Stores, IsNew}
use Rattle.segment_core.specs.Refusing.{Refuses, IsDeadOrSettled, FitsSoundLog}
use Rattle.segment_core.specs.Exactly.{TakesExactly}
use Rattle.segment_core.specs.declared.answers.Taken.{Taken}
use Rattle.segment_core.specs.declared.answers.Taken.TheVariants.{Changed, Unchanged}
use Rattle.segment_core.specs.declared.answers.Refusal.{Refusal}
use Rattle.segment_core.specs.declared.answers.Refusal.TheVariants.{OtherRoster, OtherCut, Contradiction, OtherRecord, Memory}

-- ---- a book's answer, for either kind of fact
-- what a book refuses of a fact
abbrev RefusesFact : BookData → Fact → BookRefusal → Type 0
RefusesFact b (Record r) e = ⊥
RefusesFact b (Cut c) e = RefusesCut b c e
RefusesFact b (Advance a) e = RefusesAdvance b a e

-- the segment refuses what its book refuses
from_book : (b : BookData) (hs : List RecordData) (base : ℕ) (store : Store) (fact : Fact) (e : BookRefusal) → RefusesFact b fact e
    → Refuses (state_of b hs base store) fact (refusal_of e)
from_book b hs base store fact e so = search rules

-- and nothing else
to_book : (b : BookData) (hs : List RecordData) (base : ℕ) (store : Store) (fact : Fact) (why : Refusal) → ((r : RecordData) → fact ≡ Record r → ⊥)
    → Refuses (state_of b hs base store) fact why → (e : BookRefusal) × RefusesFact b fact e × (refusal_of e ≡ why)
to_book b hs base store (Record x) why so r = absurd (so x refl)
to_book b hs base store (Cut c) (OtherRoster own shown) so r = absurd r
to_book b hs base store (Cut c) (OtherCut d) so r = (book.OtherCut d, r, refl)
to_book b hs base store (Cut c) (Contradiction (held.Min m)) so r = (book.Contradiction (held.Min m), r, refl)
to_book b hs base store (Cut c) (Contradiction (held.Advance a)) so r = (book.Contradiction (held.Advance a), r, refl)
to_book b hs base store (Cut c) (Contradiction (held.Cut d)) so r = absurd r
to_book b hs base store (Cut c) OtherRecord so r = absurd r
to_book b hs base store (Cut c) Memory so r = absurd r
to_book b hs base store (Advance a) (OtherRoster own shown) so r = (book.OtherRoster own shown, r, refl)
to_book b hs base store (Advance a) (OtherCut d) so r = absurd r
to_book b hs base store (Advance a) (Contradiction (held.Min m)) so r = absurd r
to_book b hs base store (Advance a) (Contradiction (held.Advance w)) so r = absurd r
to_book b hs base store (Advance a) (Contradiction (held.Cut d)) so r = (book.Contradiction (held.Cut d), r, refl)
to_book b hs base store (Advance a) OtherRecord so r = absurd r
to_book b hs base store (Advance a) Memory so r = absurd r

-- only memory is reported as memory
only_memory : (e : BookRefusal) → refusal_of e ≡ Memory → e ≡ book.Memory
only_memory e h = search rules

-- a book's answer makes an exact take, where a known fact needs no step and a new one is learnt
book_exact : (b b' : BookData) (hs : List RecordData) (base : ℕ) (store : Store) (fact : Fact) (answer : Result Learnt BookRefusal)
    (result : Result Taken (Refused Fact Refusal))
    → ((r : RecordData) → fact ≡ Record r → ⊥)
    → OnOk answer (TakesFact (state_of b hs base store) fact (state_of b' hs base store))
    → OnOk answer (Stores (state_of b hs base store) fact (state_of b' hs base store))
    → IfErr answer (λ e. e ≡ book.Memory → IsNew (state_of b hs base store) fact)
    → IfOk answer (λ l. (l ≡ learnt.Known) ↔ IsKnown (state_of b hs base store) fact)
    → IfOk answer (λ l. l ≡ learnt.Known → b' ≡ b)
    → OnErr answer (b' ≡ b)
    → ((e : BookRefusal) → RefusesFact b fact e → answer ≡ Err e)
    → IfErr answer (λ e. (e ≡ book.Memory) ⊎ RefusesFact b fact e)
    → AnswersBook fact answer result
    → TakesExactly (state_of b hs base store) fact result (state_of b' hs base store)
book_exact b b' hs base store fact (Ok learnt.New) result so means stores unknown known idle same refuses refused is =
    subst (λ r. TakesExactly (state_of b hs base store) fact r (state_of b' hs base store)) (sym is) (record {
      means = means;
      stores = λ e. stores;
      known = (λ (e : Changed ≡ Unchanged). absurd (cc), λ it. absurd (let n : learnt.New ≡ learnt.Known = known.1 it in cc));
      idle = λ (e : Changed ≡ Unchanged). absurd (cc);
      refuses = λ why r. let e = to_book b hs base store fact why so r in absurd (let x = refuses e.0 e.1 in cc);
      refused = tt;
      memory = tt;
      back = tt;
      unchanged = tt;
    })
book_exact b b' hs base store fact (Ok learnt.Known) result so means stores unknown known idle same refuses refused is =
    subst (λ r. TakesExactly (state_of b hs base store) fact r (state_of b' hs base store)) (sym is) (record {
      means = means;
      stores = λ (e : Unchanged ≡ Changed). absurd (cc);
      known = (λ e. known.0 refl, λ it. refl);
      idle = λ e. ap (λ x. state_of x hs base store) (idle refl);
      refuses = λ why r. let e = to_book b hs base store fact why so r in absurd (let x = refuses e.0 e.1 in cc);
      refused = tt;
      memory = tt;
      back = tt;
      unchanged = tt;
    })
book_exact b b' hs base store fact (Err e) result so means stores unknown known idle same refuses refused is =
    subst (λ r. TakesExactly (state_of b hs base store) fact r (state_of b' hs base store)) (sym is) (record {
      means = tt;
      stores = tt;
      known = tt;
      idle = tt;
      refuses = λ why r.
          let f = to_book b hs base store fact why so r in
          let x = refuses f.0 f.1 in
          let y : e ≡ f.0 = cc in
          ap refusal_of y ∙ f.2;
      refused = ⊎_elim (λ (m : e ≡ book.Memory). inl (ap refusal_of m)) (λ r. inr (from_book b hs base store fact e r)) refused;
      memory = λ (m : refusal_of e ≡ Memory). unknown (only_memory e m);
      back = refl;
      unchanged = ap (λ x. state_of x hs base store) same;
    })

-- ---- the three kinds of fact
-- what a book has learnt, the state has
learnt_cut : (b b' : BookData) (hs : List RecordData) (base : ℕ) (store : Store) (c : CutData) → IsBook b' → LearnsCut b c b'
    → StoresCut (state_of b hs base store) c (state_of b' hs base store)
learnt_cut b b' hs base store c is_book learns = search rules

learnt_advance : (b b' : BookData) (hs : List RecordData) (base : ℕ) (store : Store) (a : AdvanceData) → LearnsAdvance b a b'
    → StoresAdvance (state_of b hs base store) a (state_of b' hs base store)
learnt_advance b b' hs base store a learns = search rules

pub cut_exact : TakesCut → TakesKnown
    → (b b' : BookData) (hs : List RecordData) (base : ℕ) (store : Store) (c : CutData) (answer : Result Learnt BookRefusal)
    (result : Result Taken (Refused Fact Refusal))
    → IsBook b → IsBook b'
    → OnOk answer (LearnsCut b c b')
    → IfOk answer (λ l. (l ≡ learnt.Known) ↔ Contains b.cuts c)
    → IfOk answer (λ l. l ≡ learnt.Known → b' ≡ b)
    → OnErr answer (b' ≡ b)
    → ((e : BookRefusal) → RefusesCut b c e → answer ≡ Err e)
    → IfErr answer (λ e. (e ≡ book.Memory) ⊎ RefusesCut b c e)
    → (answer ≡ Err book.Memory → LacksCut b.cuts c.epoch)
    → AnswersBook (Cut c) answer result
    → TakesExactly (state_of b hs base store) (Cut c) result (state_of b' hs base store)
cut_exact takes knows b b' hs base store c (Ok l) result was is_book learns known idle same refuses refused lacks is =
    book_exact b b' hs base store (Cut c) (Ok l) result (λ r (e : Cut c ≡ Record r). absurd (cc))
    (takes (state_of b hs base store) (state_of b' hs base store) c (learnt_cut b b' hs base store c is_book learns))
    (learnt_cut b b' hs base store c is_book learns) tt
    known idle same refuses refused is
cut_exact takes knows b b' hs base store c (Err e) result was is_book learns known idle same refuses refused lacks is =
    book_exact b b' hs base store (Cut c) (Err e) result (λ r (e : Cut c ≡ Record r). absurd (cc)) tt tt
    (λ m known. lacks (ap Err m) c known refl) tt tt same refuses refused is

-- points that are raised lower no minimum
raised_least : (k : ℕ) (old new : List ℕ) (given : List AdvanceData) → RaisesPoints k old given new → least old ≤ least new
raised_least k old new given raises = least_mono (length old) old new refl raises.count (λ reader r. (raises.each reader r).1 (point_of old reader) (inl refl))

-- a truncation never lowers the minimum read point, so the base point stays at or below it
pub cut_bound : (b b' : BookData) (base : ℕ) (c : CutData) (answer : Result Learnt BookRefusal) → OnOk answer (LearnsCut b c b')
    → OnErr answer (b' ≡ b) → base ≤ least b.points → base ≤ least b'.points
cut_bound b b' base c (Ok l) learns same low = let up = raised_least b'.complete b.points b'.points b.waits learns.points in omega (arith, low, up)
cut_bound b b' base c (Err e) learns same low = subst (λ x. base ≤ least x.points) (sym same) low

-- nor does an advance
pub advance_bound : (b b' : BookData) (base : ℕ) (a : AdvanceData) (answer : Result Learnt BookRefusal) → OnOk answer (LearnsAdvance b a b')
    → OnErr answer (b' ≡ b) → base ≤ least b.points → base ≤ least b'.points
advance_bound b b' base a (Ok l) learns same low =
    ⊎_elim
    (λ (known : a.epoch ≤ b.complete). let up = raised_least b.complete b.points b'.points (a ∷ []) (learns.known known).points in omega (arith, low, up))
    (λ (later : b.complete < a.epoch). subst (λ ps. base ≤ least ps) (sym (learns.later later).points) low)
    (let t : (a.epoch ≤ b.complete) ⊎ (b.complete < a.epoch) = grind arith in t)
advance_bound b b' base a (Err e) learns same low = subst (λ x. base ≤ least x.points) (sym same) low

pub advance_exact : TakesAdvance
    → (b b' : BookData) (hs : List RecordData) (base : ℕ) (store : Store) (a : AdvanceData) (answer : Result Learnt BookRefusal)
    (result : Result Taken (Refused Fact Refusal))
    → IsBook b
    → OnOk answer (LearnsAdvance b a b')
    → IfOk answer (λ l. (l ≡ learnt.Known) ↔ KnowsAdvance b a)
    → IfOk answer (λ l. l ≡ learnt.Known → b' ≡ b)
    → OnErr answer (b' ≡ b)
    → ((e : BookRefusal) → RefusesAdvance b a e → answer ≡ Err e)
    → IfErr answer (λ e. (e ≡ book.Memory) ⊎ RefusesAdvance b a e)
    → (answer ≡ Err book.Memory → (b.complete < a.epoch) × (KnowsAdvance b a → ⊥))
    → AnswersBook (Advance a) answer result
    → TakesExactly (state_of b hs base store) (Advance a) result (state_of b' hs base store)
advance_exact takes b b' hs base store a (Ok l) result is_book learns known idle same refuses refused lacks is =
    book_exact b b' hs base store (Advance a) (Ok l) result (λ r (e : Advance a ≡ Record r). absurd (cc))
    (takes (state_of b hs base store) (state_of b' hs base store) a (learnt_advance b b' hs base store a learns))
    (learnt_advance b b' hs base store a learns) tt
    known idle same refuses refused is
advance_exact takes b b' hs base store a (Err e) result is_book learns known idle same refuses refused lacks is =
    book_exact b b' hs base store (Advance a) (Err e) result (λ r (e : Advance a ≡ Record r). absurd (cc)) tt tt
    (λ m known. (lacks (ap Err m)).1 known) tt tt same refuses refused is

pub settled_exact : TakesKnown → (s : State) (r : RecordData) → IsDeadOrSettled s r → TakesExactly s (Record r) (Ok Unchanged) s
settled_exact knows s r settled = search rules

one_per_key : (hs : List RecordData) (x y : RecordData) → IsHeld hs → Contains hs x → Contains hs y → x.epoch ≡ y.epoch → x.number ≡ y.number → x ≡ y
one_per_key hs x y held hx hy e n =
    ⊎_elim (λ (same : x ≡ y). same)
    (λ o. ⊎_elim (λ before. absurd (pair_not_same x.epoch x.number y.epoch y.number before e n))
    (λ before. absurd (pair_not_same y.epoch y.number x.epoch x.number before (sym e) (sym n))) o)
    (in_order RecordBefore hs x y held.rising hx hy)

pub put_exact : TakesRecord → TakesKnown
    → (b : BookData) (hs hs' : List RecordData) (base : ℕ) (store : Store) (r : RecordData) (answer : Result Put (Refused RecordData PutFault))
    (result : Result Taken (Refused Fact Refusal))
    → IsHeld hs'
    → (IsDeadOrSettled (state_of b hs base store) r → ⊥)
    → IfOk answer (Puts hs r hs')
    → IfErr answer (λ e. (e.value ≡ r) × RefusesPut hs r e.fault)
    → OnErr answer (hs' ≡ hs)
    → AnswersPut answer result
    → TakesExactly (state_of b hs base store) (Record r) result (state_of b hs' base store)
put_exact takes knows b hs hs' base store r (Ok put.New) result held compared puts refused same is =
    subst (λ x. TakesExactly (state_of b hs base store) (Record r) x (state_of b hs' base store)) (sym is) (record {
      means = takes (state_of b hs base store) (state_of b hs' base store) r
          (record { book = refl; held = puts.1; rest = record { base = refl; store = refl } });
      stores = λ e. record { book = refl; held = puts.1; rest = record { base = refl; store = refl } };
      known = (λ (e : Changed ≡ Unchanged). absurd (cc), λ it. absurd (unknown it));
      idle = λ (e : Changed ≡ Unchanged). absurd (cc);
      refuses = λ why so. absurd (none why so);
      refused = tt;
      memory = tt;
      back = tt;
      unchanged = tt;
    })
  where
    unknown : IsKnown (state_of b hs base store) (Record r) → ⊥
    unknown it = ⊎_elim (λ d. compared (inl d)) (λ rest. ⊎_elim (λ h. puts.0 r h (refl, refl)) (λ settled. compared (inr settled)) rest) it

    none : (why : Refusal) → Refuses (state_of b hs base store) (Record r) why → ⊥
    none (OtherRoster own shown) so = so
    none (OtherCut d) so = so
    none (Contradiction held') so = so
    none OtherRecord so = puts.0 so.1.0 so.1.1 (so.1.2, so.1.3)
    none Memory so = so
put_exact takes knows b hs hs' base store r (Ok put.Known) result held compared puts refused same is =
    subst (λ x. TakesExactly (state_of b hs base store) (Record r) x (state_of b hs' base store)) (sym is)
    (subst (λ hs'. TakesExactly (state_of b hs base store) (Record r) (Ok Unchanged) (state_of b hs' base store)) (sym puts.1) (record {
      means = knows (state_of b hs base store) (Record r) (inr (inl puts.0));
      stores = λ (e : Unchanged ≡ Changed). absurd (cc);
      known = (λ e. inr (inl puts.0), λ it. refl);
      idle = λ e. refl;
      refuses = λ why so. absurd (none why so);
      refused = tt;
      memory = tt;
      back = tt;
      unchanged = tt;
    }))
  where
    none : (why : Refusal) → Refuses (state_of b hs base store) (Record r) why → ⊥
    none (OtherRoster own shown) so = so
    none (OtherCut d) so = so
    none (Contradiction held') so = so
    none OtherRecord so = so.1.4 (one_per_key hs so.1.0 r (subst (λ x. IsHeld x) puts.1 held) so.1.1 puts.0 so.1.2 so.1.3)
    none Memory so = so
put_exact takes knows b hs hs' base store r (Err e) result held compared puts refused same is =
    subst (λ x. TakesExactly (state_of b hs base store) (Record r) x (state_of b hs' base store)) (sym is) (record {
      means = tt;
      stores = tt;
      known = tt;
      idle = tt;
      refuses = λ why so. why_is e.fault refused.1 why so;
      refused = why_refused e.fault refused.1;
      memory = λ m. new_record e.fault refused.1 m;
      back = ap (λ x. Record x) refused.0;
      unchanged = ap (λ x. state_of b x base store) same;
    })
  where
    why_is : (f : PutFault) → RefusesPut hs r f → (why : Refusal) → Refuses (state_of b hs base store) (Record r) why → put_refusal_of f ≡ why
    why_is f it (OtherRoster own shown) so = absurd so
    why_is f it (OtherCut d) so = absurd so
    why_is f it (Contradiction held') so = absurd so
    why_is fault.OtherRecord it OtherRecord so = refl
    why_is fault.Memory it OtherRecord so = absurd (it so.1.0 so.1.1 (so.1.2, so.1.3))
    why_is f it Memory so = absurd so

    new_record : (f : PutFault) → RefusesPut hs r f → put_refusal_of f ≡ Memory → IsNew (state_of b hs base store) (Record r)
    new_record fault.OtherRecord it = λ (m : OtherRecord ≡ Memory). absurd (cc)
    new_record fault.Memory it = λ m known.
        ⊎_elim (λ d. compared (inl d)) (λ rest. ⊎_elim (λ h. it r h (refl, refl)) (λ settled. compared (inr settled)) rest) known

    why_refused : (f : PutFault) → RefusesPut hs r f → (put_refusal_of f ≡ Memory) ⊎ Refuses (state_of b hs base store) (Record r) (put_refusal_of f)
    why_refused fault.OtherRecord it = inr (compared, (it.0, it.1, it.2.0, it.2.1, it.3))
    why_refused fault.Memory it = inl refl

-- ---- what a take reports of the facts that the segment means
pub tells_change : UnchangedExactly → (old : State) (fact : Fact) (t : Taken)
    → ReportsKnown old fact t → ReportsChange old fact t
tells_change law old fact Unchanged known = λ roster log facts m sound among means is.
    (λ e. (law old fact).0 (known.0 refl) roster log facts m sound among means is, λ it. refl)
tells_change law old fact Changed known = λ roster log facts m sound among means is. (
  λ (e : Changed ≡ Unchanged). absurd (cc),
  λ it. absurd ((law old fact).1 (λ h. let e : Changed ≡ Unchanged = known.1 h in cc) roster log facts m sound among means is it),
)

pub refuses_conflicts : (s : State) (fact : Fact) (why : Refusal) → Refuses s fact why → Conflicts s fact
refuses_conflicts s (Cut c) (OtherRoster own shown) r = absurd r
refuses_conflicts s (Cut c) (OtherCut d) r = inl (d, r.0, r.1, r.2)
refuses_conflicts s (Cut c) (Contradiction (held.Min m)) r = inr (λ h. r.0 c h refl, inl (subst (λ n. c.lo < n) r.1 r.2))
refuses_conflicts s (Cut c) (Contradiction (held.Advance a)) r = inr (λ h. r.0 c h refl, inr r.2)
refuses_conflicts s (Cut c) (Contradiction (held.Cut d)) r = absurd r
refuses_conflicts s (Cut c) OtherRecord r = absurd r
refuses_conflicts s (Cut c) Memory r = absurd r
refuses_conflicts s (Advance a) (OtherRoster own shown) r = inl r.2
refuses_conflicts s (Advance a) (OtherCut d) r = absurd r
refuses_conflicts s (Advance a) (Contradiction (held.Min m)) r = absurd r
refuses_conflicts s (Advance a) (Contradiction (held.Advance w)) r = absurd r
refuses_conflicts s (Advance a) (Contradiction (held.Cut d)) r = inr (d, r.1.has.0, r.1.has.1)
refuses_conflicts s (Advance a) OtherRecord r = absurd r
refuses_conflicts s (Advance a) Memory r = absurd r
refuses_conflicts s (Record x) (OtherRoster own shown) r = absurd r
refuses_conflicts s (Record x) (OtherCut d) r = absurd r
refuses_conflicts s (Record x) (Contradiction held) r = absurd r
refuses_conflicts s (Record x) OtherRecord r = r.1
refuses_conflicts s (Record x) Memory r = absurd r

pub refused_soundly : NoConflict → (old : State) (fact : Fact) (why : Refusal)
    → (why ≡ Memory) ⊎ Refuses old fact why → FitsSoundLog old fact → why ≡ Memory
refused_soundly law old fact why it fits = ⊎_elim (λ (m : why ≡ Memory). m)
    (λ r. absurd (law fits.0 fits.1 fits.2 old fact fits.3 fits.4 fits.5 (refuses_conflicts old fact why r))) it

pub take_tells : UnchangedExactly → (old : State) (fact : Fact) (result : Result Taken (Refused Fact Refusal))
    → IfOk result (ReportsKnown old fact) → IfOk result (ReportsChange old fact)
take_tells law old fact (Ok t) known = tells_change law old fact t known
take_tells law old fact (Err e) known = tt

pub take_sound : NoConflict → (old : State) (fact : Fact) (result : Result Taken (Refused Fact Refusal))
    → IfErr result (λ e. (e.fault ≡ Memory) ⊎ Refuses old fact e.fault)
    → IfErr result (λ e. FitsSoundLog old fact → e.fault ≡ Memory)
take_sound law old fact result refused = search (rules, refused_soundly)

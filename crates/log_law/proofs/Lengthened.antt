-- A log with one more fact: what stays as it was, and when it is sound.
use Rattle.std.proofs.Common.{◌≡◌, ℕ, ◌+◌, ◌<◌, ◌≤◌, ◌⊎◌, inl, inr, ⊎_elim, List, [], ◌∷◌, ◌++◌, length, take, refl, sym, ap, ◌∙◌, subst, arith, length-append, Option, Some, None}
use Rattle.std.proofs.lemmas.Grind.{common_steps}
use Rattle.std.specs.Prelude.{slice_get}
use Rattle.std.specs.List.{Contains}
use Rattle.std.proofs.lemmas.Bool.{cases_lt}
use Rattle.std.proofs.lemmas.Option.{same_Some, slice_get_within, slice_get-get_or, get_or_from_slice_get}
use Rattle.std.proofs.lemmas.List.{take-append-le, take_all, get_or_append_left}
use Rattle.std.proofs.Math.Seq.{get_or-append_seam}
use Rattle.std.proofs.lemmas.List.Elements.{Contains-append_left, Contains-push}
use Rattle.redo_core.specs.Data.{RecordData, CutData, AdvanceData}
use Rattle.redo_core.specs.Sets.{records, cuts, advances}
use Rattle.redo_core.specs.Order.{IsGreatest}
use Rattle.redo_core.specs.Standing.{IsAlive}
use Rattle.redo_core.specs.CompleteEpoch.{HasCutsTo}
use Rattle.redo_core.specs.Past.{ArePast}
use Rattle.redo_core.specs.Sound.{counted, HasShape, Law1, Law2, Law3, Law4, Law5, KeepsLaws, IsSound, IsAliveBelow}
use Rattle.redo_core.specs.declared.facts.Fact.{Fact}
use Rattle.redo_core.specs.declared.facts.Fact.TheVariants.{Record, Cut, Advance}
use Rattle.redo_core.proofs.Members.{none_in, which}
use Rattle.redo_core.proofs.FactParts.{record_in, cut_in, advance_in}
use Rattle.log_law.specs.Counted.{first_cut, or_first}
use Rattle.log_law.proofs.FirstCuts.{first_cut-append, counted_is, counted_at, counted_among}
use Rattle.log_law.proofs.Repeats.{cut_eq}

-- indices of a longer log
pub old_place : (log : List Fact) (f g : Fact) (p : ℕ) → p < length log → slice_get (log ++ f ∷ []) p ≡ Some g → slice_get log p ≡ Some g
old_place log f g p l h =
    slice_get-get_or log p g l ∙ ap Some (sym (get_or_append_left log (f ∷ []) g p l) ∙ get_or_from_slice_get (log ++ f ∷ []) p g g h)

pub new_place : (log : List Fact) (f g : Fact) (p : ℕ) → slice_get log p ≡ Some g → slice_get (log ++ f ∷ []) p ≡ Some g
new_place log f g p h =
    let l : p < length log = slice_get_within log p g h in
    let n : length (log ++ f ∷ []) ≡ length log + 1 = length-append log (f ∷ []) in
    slice_get-get_or (log ++ f ∷ []) p g (omega arith) ∙ ap Some (get_or_append_left log (f ∷ []) g p l ∙ get_or_from_slice_get log p g g h)

pub last_place : (log : List Fact) (f : Fact) → slice_get (log ++ f ∷ []) (length log) ≡ Some f
last_place log f =
    let n : length (log ++ f ∷ []) ≡ length log + 1 = length-append log (f ∷ []) in
    slice_get-get_or (log ++ f ∷ []) (length log) f (omega arith) ∙ ap Some (get_or-append_seam log f [] f)

pub place_cases : (log : List Fact) (f g : Fact) (p : ℕ) → slice_get (log ++ f ∷ []) p ≡ Some g → ((p < length log) × (slice_get log p ≡ Some g))
    ⊎ ((p ≡ length log) × (f ≡ g))
place_cases log f g p h =
    let n : length (log ++ f ∷ []) ≡ length log + 1 = length-append log (f ∷ []) in
    let m : p < length (log ++ f ∷ []) = slice_get_within (log ++ f ∷ []) p g h in
    ⊎_elim
    (λ (l : p < length log). inl (l, old_place log f g p l h))
    (λ (l : length log ≤ p).
    let e : p ≡ length log = omega arith in
    inr (e, same_Some f g (sym (last_place log f) ∙ subst (λ i. slice_get (log ++ f ∷ []) i ≡ Some g) e h)))
    (cases_lt p (length log))

-- members of a longer log
pub in_longer : (log : List Fact) (f g : Fact) → Contains (log ++ f ∷ []) g → Contains log g ⊎ (f ≡ g)
in_longer log f g h = grind (arith, common_steps)

pub record_cases : (log : List Fact) (f : Fact) (r : RecordData) → Contains (records (log ++ f ∷ [])) r → Contains (records log) r ⊎ (f ≡ Record r)
record_cases log f r h = ⊎_elim (λ k. inl ((record_in log r).1 k)) inr (in_longer log f (Record r) ((record_in (log ++ f ∷ []) r).0 h))

pub record_longer : (log : List Fact) (f : Fact) (r : RecordData) → Contains (records log) r → Contains (records (log ++ f ∷ [])) r
record_longer log f r h = (record_in (log ++ f ∷ []) r).1 (Contains-append_left log (f ∷ []) (Record r) ((record_in log r).0 h))

pub record_last : (log : List Fact) (r : RecordData) → Contains (records (log ++ Record r ∷ [])) r
record_last log r = (record_in (log ++ Record r ∷ []) r).1 (Contains-push log (Record r))

pub cut_cases : (log : List Fact) (f : Fact) (c : CutData) → Contains (cuts (log ++ f ∷ [])) c → Contains (cuts log) c ⊎ (f ≡ Cut c)
cut_cases log f c h = ⊎_elim (λ k. inl ((cut_in log c).1 k)) inr (in_longer log f (Cut c) ((cut_in (log ++ f ∷ []) c).0 h))

pub cut_longer : (log : List Fact) (f : Fact) (c : CutData) → Contains (cuts log) c → Contains (cuts (log ++ f ∷ [])) c
cut_longer log f c h = (cut_in (log ++ f ∷ []) c).1 (Contains-append_left log (f ∷ []) (Cut c) ((cut_in log c).0 h))

pub cut_last : (log : List Fact) (c : CutData) → Contains (cuts (log ++ Cut c ∷ [])) c
cut_last log c = (cut_in (log ++ Cut c ∷ []) c).1 (Contains-push log (Cut c))

pub advance_cases : (log : List Fact) (f : Fact) (a : AdvanceData) → Contains (advances (log ++ f ∷ [])) a → Contains (advances log) a ⊎ (f ≡ Advance a)
advance_cases log f a h = ⊎_elim (λ k. inl ((advance_in log a).1 k)) inr (in_longer log f (Advance a) ((advance_in (log ++ f ∷ []) a).0 h))

pub advance_longer : (log : List Fact) (f : Fact) (a : AdvanceData) → Contains (advances log) a → Contains (advances (log ++ f ∷ [])) a
advance_longer log f a h = (advance_in (log ++ f ∷ []) a).1 (Contains-append_left log (f ∷ []) (Advance a) ((advance_in log a).0 h))

pub advance_last : (log : List Fact) (a : AdvanceData) → Contains (advances (log ++ Advance a ∷ [])) a
advance_last log a = (advance_in (log ++ Advance a ∷ []) a).1 (Contains-push log (Advance a))

-- the effective truncations of a longer log
pub counted_longer : (log : List Fact) (f : Fact) (c : CutData) → Contains (counted log) c → Contains (counted (log ++ f ∷ [])) c
counted_longer log f c h =
    (counted_is (log ++ f ∷ []) c).1 (first_cut-append log (f ∷ []) c.epoch ∙ ap (λ o. or_first o (first_cut (f ∷ []) c.epoch)) ((counted_is log c).0 h))

only_first : (e : ℕ) (g : Fact) (d : CutData) → first_cut (g ∷ []) e ≡ Some d → g ≡ Cut d
only_first e g d one =
    let k = (counted_at (g ∷ []) e d one).0 in
    let m = counted_among (g ∷ []) d k in
    ⊎_elim (λ (s : g ≡ Cut d). s) (λ (n : Contains [] (Cut d)). absurd (none_in (Cut d) n)) (which g [] (Cut d) ((cut_in (g ∷ []) d).0 m))

pub counted_cases : (log : List Fact) (f : Fact) (c : CutData) → Contains (counted (log ++ f ∷ [])) c → Contains (counted log) c ⊎ (f ≡ Cut c)
counted_cases log f c h = at_first (first_cut log c.epoch) refl
  where
    whole : or_first (first_cut log c.epoch) (first_cut (f ∷ []) c.epoch) ≡ Some c
    whole = sym (first_cut-append log (f ∷ []) c.epoch) ∙ (counted_is (log ++ f ∷ []) c).0 h

    at_first : (o : Option CutData) → first_cut log c.epoch ≡ o → Contains (counted log) c ⊎ (f ≡ Cut c)
    at_first (Some d) q =
        let same : d ≡ c = same_Some d c (ap (λ o. or_first o (first_cut (f ∷ []) c.epoch)) (sym q) ∙ whole) in
        inl ((counted_is log c).1 (q ∙ ap Some same))
    at_first None q =
        let one : first_cut (f ∷ []) c.epoch ≡ Some c = ap (λ o. or_first o (first_cut (f ∷ []) c.epoch)) (sym q) ∙ whole in
        inr (only_first c.epoch f c one)

-- what laws 2 to 5 say
abbrev pub KeepsRest : ℕ → List Fact → Fact → Type 0
KeepsRest roster log f = Law2 log f × Law3 log f × Law4 log f × Law5 roster log f

pub rest_of : {roster : ℕ} (log : List Fact) (p : ℕ) (f : Fact) → KeepsLaws roster log p f → KeepsRest roster log f
rest_of log p f k = (k.law2, k.law3, k.law4, k.law5)

keeps_push : {roster : ℕ} (log : List Fact) (f : Fact) → IsSound roster log
    → ((g : Fact) → Contains log g → KeepsRest roster log g → KeepsRest roster (log ++ f ∷ []) g) → HasShape f → Law1 log f → KeepsRest roster (log ++ f ∷ []) f
    → (p : ℕ) (g : Fact) → slice_get (log ++ f ∷ []) p ≡ Some g → KeepsLaws roster (log ++ f ∷ []) p g
keeps_push {roster} log f sound keep shape law1 rest p g h =
    ⊎_elim
    (λ (o : (p < length log) × (slice_get log p ≡ Some g)).
    let l : p < length log = o.0 in
    let k = sound.keeps p g o.1 in
    let n = keep g (p, o.0, get_or_from_slice_get log p g g o.1) (rest_of log p g k) in
    record {
      shape = k.shape;
      law1 = subst (λ xs. Law1 xs g) (sym (take-append-le p log (f ∷ []) (omega arith))) k.law1;
      law2 = n.0;
      law3 = n.1;
      law4 = n.2;
      law5 = n.3;
    })
    (λ (o : (p ≡ length log) × (f ≡ g)).
    let e : p ≡ length log = o.0 in
    let whole : take p (log ++ f ∷ []) ≡ log = take-append-le p log (f ∷ []) (omega arith) ∙ take_all p log (omega arith) in
    subst (KeepsLaws roster (log ++ f ∷ []) p) o.1
    (record { shape = shape; law1 = subst (λ xs. Law1 xs f) (sym whole) law1; law2 = rest.0; law3 = rest.1; law4 = rest.2; law5 = rest.3 }))
    (place_cases log f g p h)

pub sound_push : {roster : ℕ} (log : List Fact) (f : Fact) → IsSound roster log
    → ((g : Fact) → Contains log g → KeepsRest roster log g → KeepsRest roster (log ++ f ∷ []) g) → HasShape f → Law1 log f → KeepsRest roster (log ++ f ∷ []) f
    → IsSound roster (log ++ f ∷ [])
sound_push log f sound keep shape law1 rest = record { readers = sound.readers; keeps = λ p g h. keeps_push log f sound keep shape law1 rest p g h }

-- A longer log has the same truncations up to a view. None of the others, nor of these, has all readers past it that were not.
pub record Extends (roster : ℕ) (log longer : List Fact) (view : ℕ) : Type 0 where
  pub up : (c : CutData) → Contains (counted log) c → Contains (counted longer) c
  pub down : (c : CutData) → Contains (counted longer) c → c.epoch ≤ view → Contains (counted log) c
  pub passed : (c : CutData) → Contains (counted longer) c → ArePast roster (advances longer) c → Contains (counted log) c × ArePast roster (advances log) c

pub extends_other : {roster : ℕ} (log : List Fact) (f : Fact) (view : ℕ) → ((c : CutData) → f ≡ Cut c → ⊥)
    → ((c : CutData) → Contains (counted log) c → c.epoch ≤ view) → ((a : AdvanceData) → f ≡ Advance a → a.epoch ≡ view)
    → Extends roster log (log ++ f ∷ []) view
extends_other log f view other upto late = record {
  up = λ c h. counted_longer log f c h;
  down = λ c h l. is_old c h;
  passed = λ c h past. (
    is_old c h,
    λ reader r.
        let s = past reader r in
        let e : s.0.epoch < c.epoch = s.3 in
        ⊎_elim
        (λ (m : Contains (advances log) s.0). (s.0, m, s.2, s.3, s.4))
        (λ (q : f ≡ Advance s.0). absurd (let v : s.0.epoch ≡ view = late s.0 q in let u : c.epoch ≤ view = upto c (is_old c h) in omega arith))
        (advance_cases log f s.0 s.1),
  );
}
  where
    is_old : (c : CutData) → Contains (counted (log ++ f ∷ [])) c → Contains (counted log) c
    is_old c h = ⊎_elim (λ k. k) (λ e. absurd (other c e)) (counted_cases log f c h)

pub extends_cut : {roster : ℕ} (log : List Fact) (c : CutData) (view : ℕ) → view < c.epoch → (ArePast roster (advances log) c → ⊥)
    → Extends roster log (log ++ Cut c ∷ []) view
extends_cut {roster} log c view after free = record {
  up = λ d h. counted_longer log (Cut c) d h;
  down = λ d h l. ⊎_elim (λ k. k) (λ e. absurd (let q : c.epoch ≡ d.epoch = ap (λ x. x.epoch) (cut_eq c d e) in omega arith)) (counted_cases log (Cut c) d h);
  passed = λ d h past. ⊎_elim (λ k. (k, back d past)) (λ e. absurd (free (subst (ArePast roster (advances log)) (sym (cut_eq c d e)) (back d past))))
      (counted_cases log (Cut c) d h);
}
  where
    back : (d : CutData) → ArePast roster (advances (log ++ Cut c ∷ [])) d → ArePast roster (advances log) d
    back d past reader r =
        let s = past reader r in
        (s.0, ⊎_elim (λ m. m) (λ (e : Cut c ≡ Advance s.0). absurd (cc)) (advance_cases log (Cut c) s.0 s.1), s.2, s.3, s.4)

pub alive_longer : {roster : ℕ} (log longer : List Fact) (view v e n : ℕ) → Extends roster log longer view → v ≤ view → IsAlive (counted log) v e n
    → IsAlive (counted longer) v e n
alive_longer log longer view v e n x l a = record {
  known = a.known;
  begun = λ c h q. a.begun c (x.down c h (let k : e ≤ v = a.known in omega arith)) q;
  spared = λ c h p q. a.spared c (x.down c h (omega arith)) p q;
}

pub alive_shorter : {roster : ℕ} (log longer : List Fact) (view v e n : ℕ) → Extends roster log longer view → IsAlive (counted longer) v e n
    → IsAlive (counted log) v e n
alive_shorter log longer view v e n x a = record { known = a.known; begun = λ c h. a.begun c (x.up c h); spared = λ c h. a.spared c (x.up c h) }

pub has_cuts_longer : {roster : ℕ} (log longer : List Fact) (view e : ℕ) → Extends roster log longer view → HasCutsTo (counted log) e
    → HasCutsTo (counted longer) e
has_cuts_longer log longer view e x h i l m = let s = h i l m in (s.0, x.up s.0 s.1, s.2)

greatest_as : (P Q : ℕ → Type 0) (n : ℕ) → ((m : ℕ) → P m → Q m) → ((m : ℕ) → Q m → P m) → IsGreatest P n → IsGreatest Q n
greatest_as P Q n f g h = (⊎_elim inl (λ p. inr (f n p)) h.0, λ m q. h.1 m (g m q))

-- what a fact of the log keeps, it keeps in the longer log
pub record_keeps : {roster : ℕ} (log longer : List Fact) (view : ℕ) (r : RecordData) → Extends roster log longer view
    → ((o : RecordData) → Contains (records log) o → Contains (records longer) o)
    → ((o : RecordData) → Contains (records longer) o → IsAlive (counted longer) r.epoch o.epoch o.number → o.number < r.number → Contains (records log) o)
    → r.epoch ≤ view → KeepsRest roster log (Record r) → KeepsRest roster longer (Record r)
record_keeps log longer view r x more fresh l k = (
  (has_cuts_longer log longer view r.epoch x k.0.0, λ c h e. k.0.1 c (x.down c h (omega arith)) e),
  greatest_as (IsAliveBelow log r (λ s. Unit {0})) (IsAliveBelow longer r (λ s. Unit {0})) r.back (λ m b. longer_below (λ s. Unit {0}) m b)
      (λ m b. shorter_below (λ s. Unit {0}) m b) k.1,
  greatest_as (IsAliveBelow log r (λ s. s.page ≡ r.page)) (IsAliveBelow longer r (λ s. s.page ≡ r.page)) r.block_back
      (λ m b. longer_below (λ s. s.page ≡ r.page) m b) (λ m b. shorter_below (λ s. s.page ≡ r.page) m b) k.2,
  tt,
)
  where
    longer_below : (Only : RecordData → Type 0) (m : ℕ) → IsAliveBelow log r Only m → IsAliveBelow longer r Only m
    longer_below Only m b = record {
      other = b.other;
      among = more b.other b.among;
      alive = alive_longer log longer view r.epoch b.other.epoch b.other.number x l b.alive;
      only = b.only;
      number = b.number;
      below = b.below;
    }

    shorter_below : (Only : RecordData → Type 0) (m : ℕ) → IsAliveBelow longer r Only m → IsAliveBelow log r Only m
    shorter_below Only m b =
        let n : b.other.number ≡ m = b.number in
        let u : m < r.number = b.below in
        record {
          other = b.other;
          among = fresh b.other b.among b.alive (omega arith);
          alive = alive_shorter log longer view r.epoch b.other.epoch b.other.number x b.alive;
          only = b.only;
          number = b.number;
          below = b.below;
        }

pub advance_keeps : {roster : ℕ} (log longer : List Fact) (view : ℕ) (a : AdvanceData) → Extends roster log longer view → KeepsRest roster log (Advance a)
    → KeepsRest roster longer (Advance a)
advance_keeps log longer view a x k = (
  tt,
  tt,
  tt,
  (k.3.0, has_cuts_longer log longer view a.epoch x k.3.1, λ c h e past. let o = x.passed c h past in k.3.2 c o.0 e o.1),
)

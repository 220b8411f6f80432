-- What a writer keeps of alive records, as one more comes, as the newest are annulled and as the oldest are settled.
use Rattle.std.proofs.Common.{◌≡◌, ◌≢◌, ℕ, ◌+◌, ◌<◌, ◌≤◌, ◌⊎◌, inl, inr, ⊎_elim, List, [], ◌∷◌, ◌++◌, ◌-◌, length, get_or, refl, sym, ap, ◌∙◌, subst, arith}
use Rattle.std.specs.Prelude.{slice_index}
use Rattle.std.specs.List.{Contains}
use Rattle.std.proofs.lemmas.Bool.{cases_lt, cases_eq}
use Rattle.std.proofs.lemmas.List.Elements.{Contains-append_left, Contains-append_cases, Contains-push}
use Rattle.redo_core.specs.Data.{RecordData}
use Rattle.redo_core.specs.Order.{IsGreatest, IsRising}
use Rattle.std.proofs.lemmas.Grind.{common_steps}
use Rattle.redo_core.proofs.Rising.{rising_at}
use Rattle.redo_core.proofs.Members.{none_in, here, there, which, only, each, all_of}
use Rattle.redo_writer.specs.declared.parts.AliveRecord.{AliveRecord}
use Rattle.redo_writer.specs.Tracks.{HasNumber, IsEntryOf, IsNewer, newest_number, Tracks, LinksPages, PutsTop}

-- the records with P whose number is below m
abbrev pub Under : (RecordData → Type 0) → ℕ → RecordData → Type 0
Under P m r = P r × (r.number < m)

numbers_as : (P Q : RecordData → Type 0) (n : ℕ) → ((r : RecordData) → P r → Q r) → ((r : RecordData) → Q r → P r) → IsGreatest (HasNumber P) n
    → IsGreatest (HasNumber Q) n
numbers_as P Q n f g h = (
  ⊎_elim inl (λ (p : HasNumber P n). inr (p.0, f p.0 p.1, p.2)) h.0,
  λ m q. h.1 m (q.0, g q.0 q.1, q.2),
)

pub tracked_as : (P Q : RecordData → Type 0) (base : ℕ) (tops : List ℕ) (xs : List AliveRecord) → ((r : RecordData) → P r → Q r)
    → ((r : RecordData) → Q r → P r) → Tracks P base tops xs → Tracks Q base tops xs
tracked_as P Q base tops xs f g t = record {
  falls = t.falls;
  above = t.above;
  each = λ x h. let e = t.each x h in (e.0, f e.0 e.1, e.2);
  all = λ r q l. t.all r (g r q) l;
  base = ⊎_elim inl (λ (p : HasNumber P base). inr (p.0, f p.0 p.1, p.2)) t.base;
  pages = λ page. numbers_as (λ r. P r × (r.page ≡ page)) (λ r. Q r × (r.page ≡ page)) (slice_index tops page) (λ r p. (f r p.0, p.1)) (λ r q. (g r q.0, q.1))
      (t.pages page);
}

-- no entry is above the newest
entry_at_most : (base : ℕ) (xs : List AliveRecord) (y : AliveRecord) → IsRising IsNewer xs → Contains xs y → y.number ≤ newest_number base xs
entry_at_most base [] y r h = absurd (none_in y h)
entry_at_most base (x ∷ xs) y r h = ⊎_elim
    (λ (e : x ≡ y). let n : x.number ≡ y.number = ap (λ (z : AliveRecord). z.number) e in omega arith)
    (λ (q : Contains xs y). let l : y.number < x.number = each (IsNewer x) xs y r.0 q in omega arith)
    (which x xs y h)

base_at_most : (base : ℕ) (xs : List AliveRecord) → ((x : AliveRecord) → Contains xs x → base < x.number) → base ≤ newest_number base xs
base_at_most base [] h = omega arith
base_at_most base (x ∷ xs) h = let l : base < x.number = h x (here x xs) in omega arith

pub record_at_most : (P : RecordData → Type 0) (base : ℕ) (tops : List ℕ) (xs : List AliveRecord) → Tracks P base tops xs → (r : RecordData) → P r
    → r.number ≤ newest_number base xs
record_at_most P base tops xs t r p = ⊎_elim
    (λ (l : base < r.number). let e = t.all r p l in let n : e.0.number ≡ r.number = e.2.number in
    let m : e.0.number ≤ newest_number base xs = entry_at_most base xs e.0 t.falls e.1 in omega arith)
    (λ (l : r.number ≤ base). let m : base ≤ newest_number base xs = base_at_most base xs t.above in omega arith)
    (cases_lt base r.number)

-- the newest number is the greatest
pub newest_greatest : (P : RecordData → Type 0) (base : ℕ) (tops : List ℕ) (xs : List AliveRecord) → Tracks P base tops xs
    → IsGreatest (HasNumber P) (newest_number base xs)
newest_greatest P base tops [] t = (
  t.base,
  λ m h. let l : h.0.number ≤ base = record_at_most P base tops [] t h.0 h.1 in let e : h.0.number ≡ m = h.2 in
      omega arith,
)
newest_greatest P base tops (x ∷ xs) t = (
  (let e = t.each x (here x xs) in inr (e.0, e.1, sym e.2.number)),
  λ m h. let l : h.0.number ≤ x.number = record_at_most P base tops (x ∷ xs) t h.0 h.1 in let e : h.0.number ≡ m = h.2 in
      omega arith,
)

-- all that is tracked is below some number
pub all_under : (P : RecordData → Type 0) (base lo : ℕ) (tops : List ℕ) (xs : List AliveRecord) → Tracks P base tops xs
    → (m : ℕ) × (lo < m) × Tracks (Under P m) base tops xs
all_under P base lo tops xs t = (
  lo + newest_number base xs + 1,
  omega arith,
  tracked_as P (Under P (lo + newest_number base xs + 1)) base tops xs
      (λ r p. (p, (let l : r.number ≤ newest_number base xs = record_at_most P base tops xs t r p in omega arith)))
      (λ r p. p.0)
      t,
)

-- the newest entry goes, and its page has the number before it
pub popped : (P : RecordData → Type 0) (m base : ℕ) (tops new : List ℕ) (x : AliveRecord) (xs : List AliveRecord) → LinksPages P
    → Tracks (Under P m) base tops (x ∷ xs) → PutsTop x.page x.block_back tops new → Tracks (Under P x.number) base new xs
popped P m base tops new x xs links t puts = record {
  falls = t.falls.1;
  above = λ y h. t.above y (there x xs y h);
  each = λ y h. let e = t.each y (there x xs y h) in let l : y.number < x.number = each (IsNewer x) xs y t.falls.0 h in
      let n : y.number ≡ e.0.number = e.2.number in
      (e.0, (e.1.0, omega arith), e.2);
  all = λ r p l. rest r p.0 p.1 l;
  base = ⊎_elim inl (λ (p : HasNumber (Under P m) base). let b : base < x.number = t.above x (here x xs) in let n : p.0.number ≡ base = p.2 in
      inr (p.0, (p.1.0, omega arith), p.2)) t.base;
  pages = λ page. ⊎_elim (own page) (other page) (cases_eq page x.page);
}
  where
    top : (r : RecordData) × Under P m r × IsEntryOf x r
    top = t.each x (here x xs)

    within : (r : RecordData) → r.number < x.number → r.number < m
    within r l = let a : x.number ≡ top.0.number = top.2.number in let b : top.0.number < m = top.1.1 in omega arith

    rest : (r : RecordData) → P r → r.number < x.number → base < r.number → (y : AliveRecord) × Contains xs y × IsEntryOf y r
    rest r p n l =
        let e = t.all r (p, within r n) l in
        ⊎_elim
        (λ (q : x ≡ e.0). absurd (let a : x.number ≡ e.0.number = ap (λ (z : AliveRecord). z.number) q in let b : e.0.number ≡ r.number = e.2.number in
        omega arith))
        (λ (q : Contains xs e.0). (e.0, q, e.2))
        (which x xs e.0 e.1)

    lower : (r : RecordData) → Under P m r → r.page ≢ x.page → r.number < x.number
    lower r p apart = ⊎_elim
        (λ (l : base < r.number). let e = t.all r p l in let n : e.0.number ≡ r.number = e.2.number in ⊎_elim
        (λ (q : x ≡ e.0). absurd (apart (sym e.2.page ∙ sym (ap (λ (z : AliveRecord). z.page) q))))
        (λ (q : Contains xs e.0). let a : e.0.number < x.number = each (IsNewer x) xs e.0 t.falls.0 q in omega arith)
        (which x xs e.0 e.1))
        (λ (l : r.number ≤ base). let b : base < x.number = t.above x (here x xs) in omega arith)
        (cases_lt base r.number)

    own : (page : ℕ) → page ≡ x.page → IsGreatest (HasNumber (λ r. Under P x.number r × (r.page ≡ page))) (slice_index new page)
    own page same =
        let link = links top.0 top.1.0 in
        subst (IsGreatest (HasNumber (λ r. Under P x.number r × (r.page ≡ page))))
        (sym (top.2.block_back) ∙ sym puts.here ∙ ap (slice_index new) (sym same))
        (numbers_as (λ r. P r × (r.page ≡ top.0.page) × (r.number < top.0.number)) (λ r. Under P x.number r × (r.page ≡ page)) top.0.block_back
        (λ r p. (
          (p.0, (let a : r.number < top.0.number = p.2 in let b : x.number ≡ top.0.number = top.2.number in omega arith)),
          p.1 ∙ sym top.2.page ∙ sym same,
        ))
        (λ r p. (p.0.0, p.1 ∙ same ∙ top.2.page, (let a : r.number < x.number = p.0.1 in let b : x.number ≡ top.0.number = top.2.number in omega arith)))
        link)

    other : (page : ℕ) → page ≢ x.page → IsGreatest (HasNumber (λ r. Under P x.number r × (r.page ≡ page))) (slice_index new page)
    other page apart =
        subst (IsGreatest (HasNumber (λ r. Under P x.number r × (r.page ≡ page)))) (sym (puts.others page apart))
        (numbers_as (λ r. Under P m r × (r.page ≡ page)) (λ r. Under P x.number r × (r.page ≡ page)) (slice_index tops page)
        (λ r p. ((p.0.0, lower r p.0 (λ e. apart (sym p.1 ∙ e))), p.1))
        (λ r p. ((p.0.0, within r p.0.1), p.1))
        (t.pages page))

-- the page of the newest entry has a number
pub top_there : (P : RecordData → Type 0) (base : ℕ) (tops : List ℕ) (x : AliveRecord) (xs : List AliveRecord) → Tracks P base tops (x ∷ xs)
    → 0 < slice_index tops x.page
top_there P base tops x xs t =
    let e = t.each x (here x xs) in
    let b : base < x.number = t.above x (here x xs) in
    let n : x.number ≡ e.0.number = e.2.number in
    let l : e.0.number ≤ slice_index tops x.page = (t.pages x.page).1 e.0.number (e.0, (e.1, sym e.2.page), refl) in
    omega arith

-- nothing is above lo any more
pub ended : (P : RecordData → Type 0) (m base lo : ℕ) (tops : List ℕ) (xs : List AliveRecord) → lo < m → base ≤ lo → newest_number 0 xs ≤ lo
    → Tracks (Under P m) base tops xs → Tracks (λ r. P r × (r.number ≤ lo)) base tops xs
ended P m base lo tops xs l b top t = tracked_as (Under P m) (λ r. P r × (r.number ≤ lo)) base tops xs
    (λ r p. (
      p.0,
      (let a : r.number ≤ newest_number base xs = record_at_most (Under P m) base tops xs t r p in
          let c : newest_number base xs ≤ lo = by_top xs top in omega arith),
    ))
    (λ r p. (p.0, omega (arith, p.1)))
    t
  where
    by_top : (ys : List AliveRecord) → newest_number 0 ys ≤ lo → newest_number base ys ≤ lo
    by_top [] h = omega arith
    by_top (y ∷ ys) h = h

-- one more record, above all others
pub entered : (P Q : RecordData → Type 0) (base : ℕ) (tops new : List ℕ) (x : AliveRecord) (xs : List AliveRecord) (r : RecordData)
    → ((s : RecordData) → P s → Q s) → ((s : RecordData) → Q s → P s ⊎ (r ≡ s)) → Q r → IsEntryOf x r → 0 < r.number
    → ((s : RecordData) → P s → s.number < r.number) → PutsTop x.page x.number tops new → Tracks P base tops xs → Tracks Q base new (x ∷ xs)
entered P Q base tops new x xs r up down mine entry some below puts t = record {
  falls = (
    all_of (IsNewer x) xs (λ y h. let e = t.each y h in let a : y.number ≡ e.0.number = e.2.number in let b : e.0.number < r.number = below e.0 e.1 in
        let c : x.number ≡ r.number = entry.number in omega arith),
    t.falls,
  );
  above = λ y h. ⊎_elim
      (λ (e : x ≡ y). let n : x.number ≡ y.number = ap (λ (z : AliveRecord). z.number) e in let c : x.number ≡ r.number = entry.number in
      let b : base < r.number = base_below in omega arith)
      (λ (q : Contains xs y). t.above y q)
      (which x xs y h);
  each = λ y h. ⊎_elim
      (λ (e : x ≡ y). (r, mine, subst (λ z. IsEntryOf z r) e entry))
      (λ (q : Contains xs y). let e = t.each y q in (e.0, up e.0 e.1, e.2))
      (which x xs y h);
  all = λ s q l. ⊎_elim
      (λ (p : P s). let e = t.all s p l in (e.0, there x xs e.0 e.1, e.2))
      (λ (e : r ≡ s). (x, here x xs, subst (IsEntryOf x) e entry))
      (down s q);
  base = ⊎_elim inl (λ (p : HasNumber P base). inr (p.0, up p.0 p.1, p.2)) t.base;
  pages = λ page. ⊎_elim (own page) (other page) (cases_eq page x.page);
}
  where
    base_below : base < r.number
    base_below = ⊎_elim (λ (e : base ≡ 0). omega arith)
        (λ (p : HasNumber P base). let a : p.0.number < r.number = below p.0 p.1 in let b : p.0.number ≡ base = p.2 in omega arith) t.base

    own : (page : ℕ) → page ≡ x.page → IsGreatest (HasNumber (λ s. Q s × (s.page ≡ page))) (slice_index new page)
    own page same =
        subst (IsGreatest (HasNumber (λ s. Q s × (s.page ≡ page)))) (sym puts.here ∙ ap (slice_index new) (sym same)) (
          inr (r, (mine, sym entry.page ∙ sym same), sym entry.number),
          λ m h. let n : h.0.number ≡ m = h.2 in let c : x.number ≡ r.number = entry.number in ⊎_elim
              (λ (p : P h.0). let a : h.0.number < r.number = below h.0 p in omega arith)
              (λ (e : r ≡ h.0). let a : r.number ≡ h.0.number = ap (λ (s : RecordData). s.number) e in omega arith)
              (down h.0 h.1.0),
        )

    other : (page : ℕ) → page ≢ x.page → IsGreatest (HasNumber (λ s. Q s × (s.page ≡ page))) (slice_index new page)
    other page apart =
        subst (IsGreatest (HasNumber (λ s. Q s × (s.page ≡ page)))) (sym (puts.others page apart))
        (numbers_as (λ s. P s × (s.page ≡ page)) (λ s. Q s × (s.page ≡ page)) (slice_index tops page)
        (λ s p. (up s p.0, p.1))
        (λ s q. (
          ⊎_elim (λ (p : P s). p)
              (λ (e : r ≡ s). absurd (apart (sym q.1 ∙ sym (ap (λ (z : RecordData). z.page) e) ∙ sym entry.page))) (down s q.0),
          q.1,
        ))
        (t.pages page))

-- the oldest entry
front_falls : (xs : List AliveRecord) (x : AliveRecord) → IsRising IsNewer (xs ++ x ∷ []) → IsRising IsNewer xs × ((y : AliveRecord) → Contains xs y
    → x.number < y.number)
front_falls [] x r = (tt, λ y h. absurd (none_in y h))
front_falls (z ∷ zs) x r =
    let ih = front_falls zs x r.1 in (
      (all_of (IsNewer z) zs (λ y h. each (IsNewer z) (zs ++ x ∷ []) y r.0 (Contains-append_left zs (x ∷ []) y h)), ih.0),
      λ y h. ⊎_elim
          (λ (e : z ≡ y). let l : x.number < z.number = each (IsNewer z) (zs ++ x ∷ []) x r.0 (Contains-push zs x) in
          let n : z.number ≡ y.number = ap (λ (w : AliveRecord). w.number) e in omega arith)
          (λ (q : Contains zs y). ih.1 y q)
          (which z zs y h),
    )

pub settled_entry : (P : RecordData → Type 0) (base : ℕ) (tops : List ℕ) (x : AliveRecord) (xs : List AliveRecord) → Tracks P base tops (xs ++ x ∷ [])
    → Tracks P x.number tops xs
settled_entry P base tops x xs t =
    let f = front_falls xs x t.falls in
    record {
      falls = f.0;
      above = f.1;
      each = λ y h. t.each y (Contains-append_left xs (x ∷ []) y h);
      all = λ r p l.
          let b : base < x.number = t.above x (Contains-push xs x) in
          let e = t.all r p (omega arith) in
          ⊎_elim
          (λ (q : Contains xs e.0). (e.0, q, e.2))
          (λ (q : Contains (x ∷ []) e.0). absurd (let a : x.number ≡ e.0.number = ap (λ (z : AliveRecord). z.number) (only x e.0 q) in
          let c : e.0.number ≡ r.number = e.2.number in omega arith))
          (Contains-append_cases xs (x ∷ []) e.0 e.1);
      base = (let e = t.each x (Contains-push xs x) in inr (e.0, e.1, sym e.2.number));
      pages = t.pages;
    }

-- where the oldest is above a point, all are
pub oldest_least : (xs : List AliveRecord) (o : AliveRecord) (point : ℕ) → IsRising IsNewer xs → o ≡ get_or xs (length xs - 1) o → point < o.number
    → (y : AliveRecord) → Contains xs y → point < y.number
oldest_least xs o point r e l y h = ⊎_elim
    (λ (b : h.0 < length xs - 1). let n : IsNewer (get_or xs h.0 y) (get_or xs (length xs - 1) o) = rising_at IsNewer xs h.0 (length xs - 1) y o r b (omega arith) in
    let m : o.number < y.number = subst (λ z. z.number < y.number) (sym e) (subst (λ z. (get_or xs (length xs - 1) o).number < z.number) h.2 n) in omega arith)
    (λ (b : length xs - 1 ≤ h.0). let k : h.0 ≡ length xs - 1 = (let w : h.0 < length xs = h.1 in omega arith) in
    let s : o.number ≡ y.number = ap (λ (z : AliveRecord). z.number) (e ∙ any_default xs (length xs - 1) o y (let w : h.0 < length xs = h.1 in omega arith) ∙ ap (λ i. get_or xs i y) (sym k) ∙ h.2) in omega arith)
    (cases_lt h.0 (length xs - 1))
  where
    any_default : (ys : List AliveRecord) (i : ℕ) (a b : AliveRecord) → i < length ys → get_or ys i a ≡ get_or ys i b
    any_default ys i a b w = grind (arith, common_steps)

pub nothing_tracked : (P : RecordData → Type 0) → ((r : RecordData) → P r → ⊥) → Tracks P 0 [] []
nothing_tracked P none = record {
  falls = tt;
  above = λ x h. absurd (none_in x h);
  each = λ x h. absurd (none_in x h);
  all = λ r p l. absurd (none r p);
  base = inl refl;
  pages = λ page. (inl refl, λ m h. absurd (none h.0 h.1.0));
}

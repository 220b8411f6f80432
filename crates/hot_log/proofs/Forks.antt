-- The search for linked LSNs: down each chain in turn, and from its end up to the last fork.
use Rattle.std.proofs.Common.{◌≡◌, ℕ, ◌+◌, ◌*◌, ◌-◌, ◌<◌, ◌≤◌, ◌⊎◌, inl, inr, ⊎_elim, List, [], ◌∷◌, ◌++◌, length, get_or, take, drop, refl, sym, ◌∙◌, ap, subst, arith, max, Some, None, rules}
use Rattle.std.specs.List.{Contains, AllByRecursion}
use Rattle.std.proofs.lemmas.Bool.{cases_lt}
use Rattle.std.proofs.lemmas.List.{length-take, length-drop, length-append}
use Rattle.std.proofs.lemmas.List.Elements.{Contains-append_left, Contains-append_right}
use Rattle.redo_core.specs.Data.{RecordData, CutData}
use Rattle.redo_core.specs.Keys.{key_in, key_of, KeyBefore}
use Rattle.redo_core.specs.declared.keys.Key.{Key}
use Rattle.redo_core.specs.Order.{IsRising, RecordBefore, Lists}
use Rattle.redo_core.specs.Linked.{Linked}
use Rattle.redo_core.specs.Linked.Linked.{start, next}
use Rattle.redo_core.proofs.Members.{none_in, here, there, which, each, all_of}
use Rattle.redo_core.proofs.Rising.{side, rest_from}
use Rattle.epoch_book.specs.Book.{BookData, IsBook}
use Rattle.hot_log.specs.Held.{IsHeld, HasKey}
use Rattle.hot_log.specs.Alive.{IsHeldAlive, IsLinkedFrom, IsReached, IsAliveOfBack}
use Rattle.hot_log.proofs.Keys.{pair_not_same}
use Rattle.hot_log.proofs.Views.{view_of, one_number}
use Rattle.hot_log.proofs.Chain.{Link, link_cases, link_at_least, link_down, back_below}
use Rattle.hot_log.proofs.Climb.{from_zero, key_is}

one_alive : (b : BookData) (held : List RecordData) (r s : RecordData) → IsBook b → IsHeld held → IsHeldAlive b held r → IsHeldAlive b held s → r.number ≡ s.number → r ≡ s
one_alive b held r s book is h k e = one_number b.cuts b.complete held (view_of b book) is.rising r s h.0 k.0 h.1 k.1 e

-- The alive records that a search still reaches, where it is after a key among those of a backlink: those of the backlink
-- after that key, and those that it reaches from the record of the backlink on.
pub data Ahead (b : BookData) (held : List RecordData) (from : ℕ) : ℕ → Key → RecordData → Type 0 where
  beside : (r : RecordData) (at : Key) → IsHeldAlive b held r → KeyBefore at (key_of r) → Ahead b held from r.back at r
  above : (u r : RecordData) (at : Key) → IsHeldAlive b held u → from < u.number → Ahead b held from u.back (key_of u) r → Ahead b held from u.number at r

pub record Beside (b : BookData) (held : List RecordData) (back : ℕ) (at : Key) (r : RecordData) : Type 0 where
  pub alive : IsHeldAlive b held r
  pub of : r.back ≡ back
  pub behind : KeyBefore at (key_of r)

pub record Above (b : BookData) (held : List RecordData) (from back : ℕ) (r : RecordData) : Type 0 where
  pub by : RecordData
  pub alive : IsHeldAlive b held by
  pub higher : from < by.number
  pub at : by.number ≡ back
  pub rest : Ahead b held from by.back (key_of by) r

-- a search that climbs from here reaches nothing
abbrev pub IsAlone : BookData → List RecordData → ℕ → ℕ → Type 0
IsAlone b held from back = (r : RecordData) → Above b held from back r → ⊥

ahead_cases : (b : BookData) (held : List RecordData) (from back : ℕ) (at : Key) (r : RecordData) → Ahead b held from back at r → Beside b held back at r ⊎ Above b held from back r
ahead_cases b held from back at r h = search rules

beside_at : (b : BookData) (held : List RecordData) (from back : ℕ) (at : Key) (r : RecordData) → IsHeldAlive b held r → r.back ≡ back → KeyBefore at (key_of r) → Ahead b held from back at r
beside_at b held from back at r h e p = subst (λ (x : ℕ). Ahead b held from x at r) e (beside r at h p)

above_at : (b : BookData) (held : List RecordData) (from back : ℕ) (at : Key) (r : RecordData) → Above b held from back r → Ahead b held from back at r
above_at b held from back at r u = subst (λ (x : ℕ). Ahead b held from x at r) u.at (above u.by r at u.alive u.higher u.rest)

ahead_alive : (b : BookData) (held : List RecordData) (from back : ℕ) (at : Key) (r : RecordData) → Ahead b held from back at r → IsHeldAlive b held r
ahead_alive b held from back at r (beside s t h p) = h
ahead_alive b held from back at r (above u s t h l rest) = ahead_alive b held from u.back (key_of u) s rest

ahead_later : (b : BookData) (held : List RecordData) (from back : ℕ) (at to : Key) (r : RecordData) → KeyBefore at to → Ahead b held from back to r → Ahead b held from back at r
ahead_later b held from back at to r p h = search (rules, beside_at, above_at)

ahead_back : (b : BookData) (held : List RecordData) (from back : ℕ) (at : Key) (r : RecordData) → IsHeld held → Ahead b held from back at r → r.back ≤ back
ahead_back b held from back at r is (beside s t h p) = omega arith
ahead_back b held from back at r is (above u s t h l rest) = let le : s.back ≤ u.back = ahead_back b held from u.back (key_of u) s is rest in let lt : u.back < u.number = back_below u (is.shaped u h.0) in omega arith

not_self : (b : BookData) (held : List RecordData) (from : ℕ) (r : RecordData) → IsHeld held → Ahead b held from r.back (key_of r) r → ⊥
not_self b held from r is h =
    ⊎_elim
    (λ (u : Beside b held r.back (key_of r) r). pair_not_same r.epoch r.number r.epoch r.number u.behind refl refl)
    (λ (u : Above b held from r.back r).
    let le : r.back ≤ u.by.back = ahead_back b held from u.by.back (key_of u.by) r is u.rest in
    let lt : u.by.back < u.by.number = back_below u.by (is.shaped u.by u.alive.0) in
    let same : u.by.number ≡ r.back = u.at in
    omega arith)
    (ahead_cases b held from r.back (key_of r) r h)

-- nothing that is ahead is above the position on its chain
no_ancestor : (b : BookData) (held : List RecordData) (from back : ℕ) (at : Key) (q : RecordData) → IsBook b → IsHeld held → Ahead b held from back at q → IsLinkedFrom b held q.number back → ⊥
no_ancestor b held from back at q book is (beside s t h p) l =
    let low : s.number ≤ s.back = link_at_least b.cuts held b.complete s.number s.back l in
    let lt : s.back < s.number = back_below s (is.shaped s h.0) in
    omega arith
no_ancestor b held from back at q book is (above u s t h lt rest) linked =
    let alive : IsHeldAlive b held s = ahead_alive b held from u.back (key_of u) s rest in
    ⊎_elim
    (λ (e : u.number ≡ s.number). not_self b held from u is (subst (λ (x : RecordData). Ahead b held from u.back (key_of u) x) (sym (one_alive b held u s book is h alive e)) rest))
    (λ (w : Link b.cuts held b.complete s.number u.number).
    let same : w.by ≡ u = one_alive b held w.by u book is (w.among, w.alive) h w.at in
    no_ancestor b held from u.back (key_of u) s book is rest (subst (λ (x : RecordData). IsLinkedFrom b held s.number x.back) same w.back))
    (link_cases b.cuts held b.complete s.number u.number linked)

-- the first step of a chain
pub record Step (b : BookData) (held : List RecordData) (base m : ℕ) : Type 0 where
  pub by : RecordData
  pub alive : IsHeldAlive b held by
  pub of : by.back ≡ base
  pub rest : IsLinkedFrom b held by.number m

first_step : (b : BookData) (held : List RecordData) (base m : ℕ) → IsHeld held → IsLinkedFrom b held base m → (m ≡ base) ⊎ Step b held base m
first_step b held base m is start = inl refl
first_step b held base m is (next r h a l p) =
    ⊎_elim
    (λ (e : r.back ≡ base). inr record { by = r; alive = (h, a); of = e; rest = start })
    (λ (s : Step b held base r.back). inr record {
      by = s.by;
      alive = s.alive;
      of = s.of;
      rest = next r h a (let low : s.by.number ≤ r.back = link_at_least b.cuts held b.complete s.by.number r.back s.rest in let lt : r.back < r.number = back_below r (is.shaped r h) in omega arith) s.rest;
    })
    (first_step b held base r.back is p)

pub link_trans : (cs : List CutData) (held : List RecordData) (k base x m : ℕ) → Linked cs held k base x → Linked cs held k x m → Linked cs held k base m
link_trans cs held k base x m l start = l
link_trans cs held k base x m l (next r h a lt p) = let low : base ≤ x = link_at_least cs held k base x l in next r h a (omega arith) (link_trans cs held k base x r.back l p)

link_one : (b : BookData) (held : List RecordData) (base : ℕ) (q : RecordData) → IsHeldAlive b held q → base < q.number → q.back ≡ base → IsLinkedFrom b held base q.number
link_one b held base q h lt e = next q h.0 h.1 lt (subst (IsLinkedFrom b held base) (sym e) start)

-- things with no two equal that are among others are no more than those
abbrev pub IsApart : List RecordData → Type 0
IsApart [] = Unit {0}
IsApart (x ∷ xs) = AllByRecursion (λ (y : RecordData). x ≡ y → ⊥) xs × IsApart xs

pub no_more_than : (seen xs : List RecordData) → IsApart seen → ((r : RecordData) → Contains seen r → Contains xs r) → length seen ≤ length xs
no_more_than [] xs apart part = omega arith
no_more_than (x ∷ seen) xs apart part =
    let at = part x (here x seen) in
    let k = at.0 in
    let rest : List RecordData = take k xs ++ drop (k + 1) xs in
    let inside : k < length xs = at.1 in
    let is : x ≡ get_or xs k x = sym at.2 in
    let less : length rest + 1 ≡ length xs = omega (arith, length-append (take k xs) (drop (k + 1) xs), length-take k xs, length-drop (k + 1) xs, inside) in
    let others : (r : RecordData) → Contains seen r → Contains rest r = λ r h.
    ⊎_elim
    (λ (u : Contains (take k xs) r). Contains-append_left (take k xs) (drop (k + 1) xs) r u)
    (λ (u : Contains (drop k xs) r). ⊎_elim
    (λ (e : x ≡ r). absurd (each (λ (y : RecordData). x ≡ y → ⊥) seen r apart.0 h e))
    (λ (v : Contains (drop (k + 1) xs) r). Contains-append_right (take k xs) (drop (k + 1) xs) r v)
    (rest_from xs k x r inside is u))
    (side k xs r (part r (there x seen r h))) in
    let le : length seen ≤ length rest = no_more_than seen rest apart.1 others in
    omega arith

-- the search still reaches a record, or one from which its LSN is linked
abbrev pub ComesTo : BookData → List RecordData → ℕ → ℕ → Key → RecordData → Type 0
ComesTo b held from back at r = (q : RecordData) × Ahead b held from back at q × IsLinkedFrom b held q.number r.number

-- from the start of the records of a backlink it reaches each that is linked from there
comes_from : (b : BookData) (held : List RecordData) (from base : ℕ) (r : RecordData) → IsHeld held → base < r.number → IsLinkedFrom b held base r.number → ComesTo b held from base (key_in 0 0) r
comes_from b held from base r is lt l =
    ⊎_elim
    (λ (e : r.number ≡ base). absurd (omega arith))
    (λ (s : Step b held base r.number). (s.by, beside_at b held from base (key_in 0 0) s.by s.alive s.of (from_zero held s.by is s.alive.0), s.rest))
    (first_step b held base r.number is l)

-- the state of the search: at a linked LSN, with the greatest linked one so far and the records visited
pub record Search (b : BookData) (held : List RecordData) (from limit back : ℕ) (at : Key) (top count : ℕ) : Type 0 where
  pub back_linked : IsLinkedFrom b held from back
  pub back_bound : back ≤ limit
  pub top_linked : IsLinkedFrom b held from top
  pub top_bound : top ≤ limit
  pub seen : List RecordData
  pub apart : IsApart seen
  pub counted : length seen ≡ count
  pub reached : (r : RecordData) → Contains seen r → IsReached b held from limit r
  pub tops : (r : RecordData) → Contains seen r → r.number ≤ limit → r.number ≤ top
  pub all : (r : RecordData) → IsReached b held from limit r → Contains seen r ⊎ ComesTo b held from back at r
  pub once : (r : RecordData) → Contains seen r → ComesTo b held from back at r → ⊥

pub search_start : (b : BookData) (held : List RecordData) (from limit : ℕ) → IsHeld held → from ≤ limit → Search b held from limit from (key_in 0 0) from 0
search_start b held from limit is le = record {
  back_linked = start;
  back_bound = le;
  top_linked = start;
  top_bound = le;
  seen = [];
  apart = tt;
  counted = refl;
  reached = λ r h. absurd (none_in r h);
  tops = λ r h. absurd (none_in r h);
  all = λ r h.
      let low : from ≤ r.back = link_at_least b.cuts held b.complete from r.back h.1 in
      let up : r.back < r.number = back_below r (is.shaped r h.0.0) in
      let lt : from < r.number = omega arith in
      inr (comes_from b held from from r is lt (next r h.0.0 h.0.1 lt h.1));
  once = λ r h. absurd (none_in r h);
}

-- the record that the search reaches next
pub record IsNext (b : BookData) (held : List RecordData) (back : ℕ) (at : Key) (x : RecordData) : Type 0 where
  pub alive : IsHeldAlive b held x
  pub of : x.back ≡ back
  pub behind : KeyBefore at (key_of x)
  pub first : (s : RecordData) → IsHeldAlive b held s → s.back ≡ back → KeyBefore at (key_of s) → (s ≡ x) ⊎ KeyBefore (key_of x) (key_of s)

next_ahead : (b : BookData) (held : List RecordData) (from back : ℕ) (at : Key) (x : RecordData) → IsNext b held back at x → Ahead b held from back at x
next_ahead b held from back at x c = beside_at b held from back at x c.alive c.of c.behind

next_up : (b : BookData) (held : List RecordData) (from limit back : ℕ) (at : Key) (top count : ℕ) (x : RecordData) → IsHeld held → Search b held from limit back at top count → IsNext b held back at x → from < x.number
next_up b held from limit back at top count x is s c =
    let low : from ≤ back = link_at_least b.cuts held b.complete from back s.back_linked in
    let of : x.back ≡ back = c.of in
    let up : x.back < x.number = back_below x (is.shaped x c.alive.0) in
    omega arith

-- it joins what was seen
looked : (b : BookData) (held : List RecordData) (from limit back : ℕ) (at : Key) (top count : ℕ) (x : RecordData) (s : Search b held from limit back at top count) → IsNext b held back at x → IsApart (x ∷ s.seen)
looked b held from limit back at top count x s c = (
  all_of (λ (y : RecordData). x ≡ y → ⊥) s.seen (λ y h e. s.once y h (x, next_ahead b held from back at x c, subst (λ (z : RecordData). IsLinkedFrom b held x.number z.number) e start)),
  s.apart,
)

reached_too : (b : BookData) (held : List RecordData) (from limit back : ℕ) (at : Key) (top count : ℕ) (x : RecordData) (s : Search b held from limit back at top count) → IsNext b held back at x → (r : RecordData) → Contains (x ∷ s.seen) r → IsReached b held from limit r
reached_too b held from limit back at top count x s c r h =
    ⊎_elim
    (λ (e : x ≡ r).
    let it : IsReached b held from limit x = (c.alive, subst (IsLinkedFrom b held from) (sym c.of) s.back_linked, let same : x.back ≡ back = c.of in let le : back ≤ limit = s.back_bound in omega arith) in
    subst (IsReached b held from limit) e it)
    (λ (u : Contains s.seen r). s.reached r u)
    (which x s.seen r h)

counted_too : (b : BookData) (held : List RecordData) (from limit back : ℕ) (at : Key) (top count : ℕ) (x : RecordData) (s : Search b held from limit back at top count) → length (x ∷ s.seen) ≡ count + 1
counted_too b held from limit back at top count x s = let e : length s.seen ≡ count = s.counted in omega arith

-- what is ahead after it leads to nothing that was seen
once_behind : (b : BookData) (held : List RecordData) (from limit back : ℕ) (at : Key) (top count : ℕ) (x : RecordData) → IsBook b → IsHeld held → (s : Search b held from limit back at top count) → IsNext b held back at x → (r : RecordData) → Contains (x ∷ s.seen) r → ComesTo b held from back (key_of x) r → ⊥
once_behind b held from limit back at top count x book is s c r h w =
    ⊎_elim
    (λ (e : x ≡ r).
    let on : Ahead b held from x.back (key_of x) w.0 = subst (λ (n : ℕ). Ahead b held from n (key_of x) w.0) (sym c.of) w.1 in
    no_ancestor b held from x.number (key_in 0 0) w.0 book is (above x w.0 (key_in 0 0) c.alive (next_up b held from limit back at top count x is s c) on)
    (subst (λ (y : RecordData). IsLinkedFrom b held w.0.number y.number) (sym e) w.2))
    (λ (u : Contains s.seen r). s.once r u (w.0, ahead_later b held from back at (key_of x) w.0 c.behind w.1, w.2))
    (which x s.seen r h)

-- what was ahead is the record that the search visits, or is still ahead after it
passes : (b : BookData) (held : List RecordData) (from back : ℕ) (at : Key) (x : RecordData) → IsNext b held back at x → (q : RecordData) → Ahead b held from back at q → (q ≡ x) ⊎ Ahead b held from back (key_of x) q
passes b held from back at x c q h = ⊎_elim
    (λ (u : Beside b held back at q). ⊎_elim
    (λ (e : q ≡ x). inl e)
    (λ (p : KeyBefore (key_of x) (key_of q)). inr (beside_at b held from back (key_of x) q u.alive u.of p))
    (c.first q u.alive u.of u.behind))
    (λ (u : Above b held from back q). inr (above_at b held from back (key_of x) q u))
    (ahead_cases b held from back at q h)

all_skip : (b : BookData) (held : List RecordData) (from limit back : ℕ) (at : Key) (top count : ℕ) (x : RecordData) → IsBook b → IsHeld held → (s : Search b held from limit back at top count) → IsNext b held back at x → limit < x.number → (r : RecordData) → IsReached b held from limit r → Contains (x ∷ s.seen) r ⊎ ComesTo b held from back (key_of x) r
all_skip b held from limit back at top count x book is s c over r reached =
    ⊎_elim
    (λ (u : Contains s.seen r). inl (there x s.seen r u))
    (λ (w : ComesTo b held from back at r). ⊎_elim
    (λ (e : w.0 ≡ x). inl (subst (Contains (x ∷ s.seen)) (it e w.2) (here x s.seen)))
    (λ (v : Ahead b held from back (key_of x) w.0). inr (w.0, v, w.2))
    (passes b held from back at x c w.0 w.1))
    (s.all r reached)
  where
    -- what is linked from above the limit has a backlink above it
    it : {q : RecordData} → q ≡ x → IsLinkedFrom b held q.number r.number → x ≡ r
    it {q} e l = ⊎_elim
        (λ (same : r.number ≡ q.number). one_alive b held x r book is c.alive reached.0 (ap (λ (y : RecordData). y.number) (sym e) ∙ sym same))
        (λ (u : Link b.cuts held b.complete q.number r.number). absurd (
        let by : u.by ≡ r = one_alive b held u.by r book is (u.among, u.alive) reached.0 u.at in
        let low : q.number ≤ u.by.back = link_at_least b.cuts held b.complete q.number u.by.back u.back in
        let back_same : u.by.back ≡ r.back = ap (λ (y : RecordData). y.back) by in
        let same : q.number ≡ x.number = ap (λ (y : RecordData). y.number) e in
        let bound : r.back ≤ limit = reached.2 in
        omega arith))
        (link_cases b.cuts held b.complete q.number r.number l)

all_down : (b : BookData) (held : List RecordData) (from limit back : ℕ) (at : Key) (top count : ℕ) (x : RecordData) → IsBook b → IsHeld held → (s : Search b held from limit back at top count) → IsNext b held back at x → (r : RecordData) → IsReached b held from limit r → Contains (x ∷ s.seen) r ⊎ ComesTo b held from x.number (key_in 0 0) r
all_down b held from limit back at top count x book is s c r reached =
    ⊎_elim
    (λ (u : Contains s.seen r). inl (there x s.seen r u))
    (λ (w : ComesTo b held from back at r). ⊎_elim
    (λ (e : w.0 ≡ x).
    let on : IsLinkedFrom b held x.number r.number = subst (λ (y : RecordData). IsLinkedFrom b held y.number r.number) e w.2 in
    let low : x.number ≤ r.number = link_at_least b.cuts held b.complete x.number r.number on in
    ⊎_elim
    (λ (lt : x.number < r.number). inr (comes_from b held from x.number r is lt on))
    (λ (le : r.number ≤ x.number). let same : x.number ≡ r.number = omega arith in inl (subst (Contains (x ∷ s.seen)) (one_alive b held x r book is c.alive reached.0 same) (here x s.seen)))
    (cases_lt x.number r.number))
    (λ (v : Ahead b held from back (key_of x) w.0).
    inr (w.0, above x w.0 (key_in 0 0) c.alive (next_up b held from limit back at top count x is s c) (subst (λ (n : ℕ). Ahead b held from n (key_of x) w.0) (sym c.of) v), w.2))
    (passes b held from back at x c w.0 w.1))
    (s.all r reached)

-- the search passes a record above the limit
pub search_skip : (b : BookData) (held : List RecordData) (from limit back : ℕ) (at : Key) (top count : ℕ) (x : RecordData) → IsBook b → IsHeld held → Search b held from limit back at top count → IsNext b held back at x → limit < x.number → Search b held from limit back (key_of x) top (count + 1)
search_skip b held from limit back at top count x book is s c over = record {
  back_linked = s.back_linked;
  back_bound = s.back_bound;
  top_linked = s.top_linked;
  top_bound = s.top_bound;
  seen = x ∷ s.seen;
  apart = looked b held from limit back at top count x s c;
  counted = counted_too b held from limit back at top count x s;
  reached = reached_too b held from limit back at top count x s c;
  tops = λ r h le. ⊎_elim
      (λ (e : x ≡ r). let same : x.number ≡ r.number = ap (λ (y : RecordData). y.number) e in omega arith)
      (λ (u : Contains s.seen r). s.tops r u le)
      (which x s.seen r h);
  all = all_skip b held from limit back at top count x book is s c over;
  once = once_behind b held from limit back at top count x book is s c;
}

-- what is ahead where the search goes down to a record leads to nothing that was seen
once_down : (b : BookData) (held : List RecordData) (from limit back : ℕ) (at : Key) (top count : ℕ) (x : RecordData) → IsBook b → IsHeld held → (s : Search b held from limit back at top count) → IsNext b held back at x → (r : RecordData) → Contains (x ∷ s.seen) r → ComesTo b held from x.number (key_in 0 0) r → ⊥
once_down b held from limit back at top count x book is s c r h w =
    ⊎_elim
    (λ (u : Beside b held x.number (key_in 0 0) w.0).
    let of : w.0.back ≡ x.number = u.of in
    let up : w.0.back < w.0.number = back_below w.0 (is.shaped w.0 u.alive.0) in
    ⊎_elim
    (λ (e : x ≡ r).
    let low : w.0.number ≤ r.number = link_at_least b.cuts held b.complete w.0.number r.number w.2 in
    let same : x.number ≡ r.number = ap (λ (y : RecordData). y.number) e in
    omega arith)
    (λ (v : Contains s.seen r). s.once r v (
      x,
      next_ahead b held from back at x c,
      link_trans b.cuts held b.complete x.number w.0.number r.number (link_one b held x.number w.0 u.alive (omega arith) of) w.2,
    ))
    (which x s.seen r h))
    (λ (u : Above b held from x.number w.0).
    let same : u.by ≡ x = one_alive b held u.by x book is u.alive c.alive u.at in
    let on : Ahead b held from x.back (key_of x) w.0 = subst (λ (y : RecordData). Ahead b held from y.back (key_of y) w.0) same u.rest in
    once_behind b held from limit back at top count x book is s c r h (w.0, subst (λ (n : ℕ). Ahead b held from n (key_of x) w.0) c.of on, w.2))
    (ahead_cases b held from x.number (key_in 0 0) w.0 w.1)

-- the search goes down to a record
pub search_down : (b : BookData) (held : List RecordData) (from limit back : ℕ) (at : Key) (top count most : ℕ) (x : RecordData) → IsBook b → IsHeld held → Search b held from limit back at top count → IsNext b held back at x → x.number ≤ limit → top ≤ most → x.number ≤ most → (most ≡ top) ⊎ (most ≡ x.number) → Search b held from limit x.number (key_in 0 0) most (count + 1)
search_down b held from limit back at top count most x book is s c bound grows covers either =
    let linked : IsLinkedFrom b held from x.number = next x c.alive.0 c.alive.1 (next_up b held from limit back at top count x is s c) (subst (IsLinkedFrom b held from) (sym c.of) s.back_linked) in
    record {
      back_linked = linked;
      back_bound = bound;
      top_linked = ⊎_elim (λ (e : most ≡ top). subst (IsLinkedFrom b held from) (sym e) s.top_linked) (λ (e : most ≡ x.number). subst (IsLinkedFrom b held from) (sym e) linked) either;
      top_bound = ⊎_elim (λ (e : most ≡ top). let le : top ≤ limit = s.top_bound in omega arith) (λ (e : most ≡ x.number). omega arith) either;
      seen = x ∷ s.seen;
      apart = looked b held from limit back at top count x s c;
      counted = counted_too b held from limit back at top count x s;
      reached = reached_too b held from limit back at top count x s c;
      tops = λ r h le. ⊎_elim
          (λ (e : x ≡ r). let same : x.number ≡ r.number = ap (λ (y : RecordData). y.number) e in omega arith)
          (λ (u : Contains s.seen r). let low : r.number ≤ top = s.tops r u le in omega arith)
          (which x s.seen r h);
      all = all_down b held from limit back at top count x book is s c;
      once = once_down b held from limit back at top count x book is s c;
    }

-- the search has reached the end of a chain: what is ahead is ahead of the record of the backlink
climbs : (b : BookData) (held : List RecordData) (from back : ℕ) (at : Key) (u : RecordData) → IsBook b → IsHeld held → IsAliveOfBack b held back at None → IsHeldAlive b held u → u.number ≡ back → (q : RecordData) → Ahead b held from back at q → Ahead b held from u.back (key_of u) q
climbs b held from back at u book is none alive e q h =
    ⊎_elim
    (λ (w : Beside b held back at q). absurd (none q w.alive w.of w.behind))
    (λ (w : Above b held from back q).
    let same : w.by ≡ u = one_alive b held w.by u book is w.alive alive (w.at ∙ sym e) in
    subst (λ (x : RecordData). Ahead b held from x.back (key_of x) q) same w.rest)
    (ahead_cases b held from back at q h)

pub search_climb : (b : BookData) (held : List RecordData) (from limit back : ℕ) (at : Key) (top count : ℕ) (u : RecordData) → IsBook b → IsHeld held → Search b held from limit back at top count → IsAliveOfBack b held back at None → IsHeldAlive b held u → u.number ≡ back → from < back → Search b held from limit u.back (key_of u) top count
search_climb b held from limit back at top count u book is s none alive e lt =
    let low : u.back < u.number = back_below u (is.shaped u alive.0) in
    let le : back ≤ limit = s.back_bound in
    record {
      back_linked = link_down b.cuts held b.complete from (view_of b book) is.rising u alive.0 alive.1 (omega arith) (subst (IsLinkedFrom b held from) (sym e) s.back_linked);
      back_bound = omega arith;
      top_linked = s.top_linked;
      top_bound = s.top_bound;
      seen = s.seen;
      apart = s.apart;
      counted = s.counted;
      reached = s.reached;
      tops = s.tops;
      all = λ r reached. ⊎_elim
          (λ (w : Contains s.seen r). inl w)
          (λ (w : ComesTo b held from back at r). inr (w.0, climbs b held from back at u book is none alive e w.0 w.1, w.2))
          (s.all r reached);
      once = λ r h w. s.once r h (w.0, above_at b held from back at w.0 (record { by = u; alive = alive; higher = omega arith; at = e; rest = w.1 }), w.2);
    }

-- at the base there is nowhere to climb to
pub alone_at_base : (b : BookData) (held : List RecordData) (from back : ℕ) → back ≤ from → IsAlone b held from back
alone_at_base b held from back le r w = let same : w.by.number ≡ back = w.at in let higher : from < w.by.number = w.higher in omega arith

-- nor is there below a record that is the last one of its backlink, where there was nowhere before
pub alone_below : (b : BookData) (held : List RecordData) (from back : ℕ) (at key : Key) → IsBook b → IsHeld held → IsAlone b held from back → IsAliveOfBack b held back at (Some key) → IsAliveOfBack b held back key None → IsAlone b held from key.number
alone_below b held from back at key book is alone n last r w =
    let x : RecordData = n.0.0 in
    let k : HasKey key x = n.0.3 in
    let same : w.by ≡ x = one_alive b held w.by x book is w.alive n.0.1 (w.at ∙ sym k.1) in
    let rest : Ahead b held from x.back (key_of x) r = subst (λ (y : RecordData). Ahead b held from y.back (key_of y) r) same w.rest in
    let beside_key : Ahead b held from back (key_of x) r = subst (λ (n : ℕ). Ahead b held from n (key_of x) r) n.0.2 rest in
    ⊎_elim
    (λ (u : Beside b held back key r). last r u.alive u.of u.behind)
    (λ (u : Above b held from back r). alone r u)
    (ahead_cases b held from back key r (subst (λ (p : Key). Ahead b held from back p r) (key_is key.epoch key.number x.epoch x.number (sym k.0) (sym k.1)) beside_key))

-- the search has returned to its base, or to an LSN with nowhere to climb to: nothing is ahead
spent : (b : BookData) (held : List RecordData) (from back : ℕ) (at : Key) (q : RecordData) → IsAliveOfBack b held back at None → IsAlone b held from back → Ahead b held from back at q → ⊥
spent b held from back at q none alone h = search (rules, ahead_cases)

pub search_end : (b : BookData) (held : List RecordData) (from limit back : ℕ) (at : Key) (top count : ℕ) → IsHeld held → Search b held from limit back at top count → IsAliveOfBack b held back at None → IsAlone b held from back → (m : ℕ) → IsLinkedFrom b held from m → m ≤ limit → m ≤ top
search_end b held from limit back at top count is s none alone m l up =
    ⊎_elim
    (λ (e : m ≡ from). let low : from ≤ top = link_at_least b.cuts held b.complete from top s.top_linked in omega arith)
    (λ (u : Link b.cuts held b.complete from m).
    let same : u.by.number ≡ m = u.at in
    let low : u.by.back < u.by.number = back_below u.by (is.shaped u.by u.among) in
    let it : IsReached b held from limit u.by = ((u.among, u.alive), u.back, omega arith) in
    ⊎_elim
    (λ (w : Contains s.seen u.by). let le : u.by.number ≤ top = s.tops u.by w (omega arith) in omega arith)
    (λ (w : ComesTo b held from back at u.by). absurd (spent b held from back at w.0 none alone w.1))
    (s.all u.by it))
    (link_cases b.cuts held b.complete from m l)

-- and has then visited each record that is reached, once
apart_of : (xs : List RecordData) → IsRising RecordBefore xs → IsApart xs
apart_of [] rising = tt
apart_of (x ∷ xs) rising = (
  all_of (λ (y : RecordData). x ≡ y → ⊥) xs (λ y h e.
      let p : RecordBefore x y = each (RecordBefore x) xs y rising.0 h in
      pair_not_same x.epoch x.number y.epoch y.number p (ap (λ (r : RecordData). r.epoch) e) (ap (λ (r : RecordData). r.number) e)),
  apart_of xs rising.1,
)

pub search_counts : (b : BookData) (held : List RecordData) (from limit back : ℕ) (at : Key) (top count : ℕ) → Search b held from limit back at top count → IsAliveOfBack b held back at None → IsAlone b held from back → (xs : List RecordData) → Lists RecordBefore (IsReached b held from limit) xs → count ≡ length xs
search_counts b held from limit back at top count s none alone xs lists =
    let most : length s.seen ≤ length xs = no_more_than s.seen xs s.apart (λ r h. (lists.members r).1 (s.reached r h)) in
    let least : length xs ≤ length s.seen = no_more_than xs s.seen (apart_of xs lists.rising) (λ r h. ⊎_elim
    (λ (u : Contains s.seen r). u)
    (λ (w : ComesTo b held from back at r). absurd (spent b held from back at w.0 none alone w.1))
    (s.all r ((lists.members r).0 h))) in
    let e : length s.seen ≡ count = s.counted in
    omega arith

-- ---- from what the calls say
next_of : (b : BookData) (held : List RecordData) (back : ℕ) (at key : Key) → IsBook b → IsHeld held → (n : IsAliveOfBack b held back at (Some key)) → IsNext b held back at n.0.0
next_of b held back at key book is n =
    let x : RecordData = n.0.0 in
    let k : HasKey key x = n.0.3 in
    record {
      alive = n.0.1;
      of = n.0.2;
      behind = n.0.4;
      first = λ s h e p. ⊎_elim
          (λ (u : HasKey key s). inl (one_alive b held s x book is h n.0.1 (u.1 ∙ sym k.1)))
          (λ (u : KeyBefore key (key_of s)). inr (subst (λ (y : ℕ). KeyBefore (key_in y x.number) (key_of s)) (sym k.0) (subst (λ (y : ℕ). KeyBefore (key_in key.epoch y) (key_of s)) (sym k.1) u)))
          (n.1 s h e p);
    }

pub skip : (b : BookData) (held : List RecordData) (from limit back : ℕ) (at key : Key) (top count more : ℕ) → IsBook b → IsHeld held → Search b held from limit back at top count → IsAliveOfBack b held back at (Some key) → more ≡ count + 1 → limit < key.number → Search b held from limit back key top more
skip b held from limit back at key top count more book is s n e over =
    let x : RecordData = n.0.0 in
    let k : HasKey key x = n.0.3 in
    let same : x.number ≡ key.number = k.1 in
    let it : Search b held from limit back (key_of x) top (count + 1) = search_skip b held from limit back at top count x book is s (next_of b held back at key book is n) (omega arith) in
    let P : Key → Type 0 = λ p. Search b held from limit back p top (count + 1) in
    subst (Search b held from limit back key top) (sym e) (subst P (key_is key.epoch key.number x.epoch x.number (sym k.0) (sym k.1)) it)

pub down : (b : BookData) (held : List RecordData) (from limit back : ℕ) (at key : Key) (top count more most : ℕ) → IsBook b → IsHeld held → Search b held from limit back at top count → IsAliveOfBack b held back at (Some key) → more ≡ count + 1 → key.number ≤ limit → most ≡ max top key.number → Search b held from limit key.number (key_in 0 0) most more
down b held from limit back at key top count more most book is s n e le m =
    let x : RecordData = n.0.0 in
    let same : x.number ≡ key.number = n.0.3.1 in
    let either : (most ≡ top) ⊎ (most ≡ x.number) = grind arith in
    let P : ℕ → Type 0 = λ y. Search b held from limit y (key_in 0 0) most more in
    subst P same (subst (Search b held from limit x.number (key_in 0 0) most) (sym e) (search_down b held from limit back at top count most x book is s (next_of b held back at key book is n) (omega arith) (omega arith) (omega arith) either))

pub looks : (b : BookData) (held : List RecordData) (from limit back : ℕ) (at key : Key) (top count : ℕ) → IsBook b → IsHeld held → Search b held from limit back at top count → IsAliveOfBack b held back at (Some key) → count + 1 ≤ length held
looks b held from limit back at key top count book is s n =
    let x : RecordData = n.0.0 in
    let c : IsNext b held back at x = next_of b held back at key book is n in
    let le : length (x ∷ s.seen) ≤ length held = no_more_than (x ∷ s.seen) held (looked b held from limit back at top count x s c) (λ r h. (reached_too b held from limit back at top count x s c r h).0.0) in
    let e : length s.seen ≡ count = s.counted in
    omega arith

-- the measure falls by a record visited, and by a climb
pub falls_by_one : (h c d l x y : ℕ) → d ≡ c + 1 → c + 1 ≤ h → x ≤ l → (h - d) * (l + 1) + x < (h - c) * (l + 1) + y
falls_by_one h c d l x y e le up = search rules

add_less : (m x y : ℕ) → x < y → m + x < m + y
add_less m x y lt = omega arith

pub falls_by_climb : (h c l x y : ℕ) → x < y → (h - c) * (l + 1) + x < (h - c) * (l + 1) + y
falls_by_climb h c l x y lt = add_less ((h - c) * (l + 1)) x y lt

pub climbs_to : (b : BookData) (held : List RecordData) (from limit back : ℕ) (at : Key) (top count : ℕ) (u : RecordData) (e n k : ℕ) → IsBook b → IsHeld held → Search b held from limit back at top count → IsAliveOfBack b held back at None → IsHeldAlive b held u → u.number ≡ back → from < back → k ≡ u.back → e ≡ u.epoch → n ≡ u.number → Search b held from limit k (key_in e n) top count
climbs_to b held from limit back at top count u e n k book is s none alive same lt p q r = search (rules, search_climb)

-- a linked LSN above the base is that of a record
pub has_record : (b : BookData) (held : List RecordData) (from back : ℕ) → IsLinkedFrom b held from back → from < back → ((r : RecordData) → IsHeldAlive b held r × (r.number ≡ back) → ⊥) → ⊥
has_record b held from back l lt none = search (rules, link_cases)

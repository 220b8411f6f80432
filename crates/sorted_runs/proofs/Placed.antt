-- The effect on all entries of an edit at the position of a key.
use Rattle.std.proofs.Common.{◌≡◌, ℕ, zero, suc, ◌+◌, ◌<◌, ◌≤◌, List, [], ◌∷◌, ◌++◌, length, get_or, set, take, drop, sym, ap, ◌∙◌, subst, refl, arith, append_assoc, length-append, Some, None, Bool, rules}
use Rattle.std.proofs.lemmas.Grind.{common_steps}
use Rattle.std.specs.Global.{Vec}
use Rattle.std.specs.List.{insert, filter, AllByRecursion}
use Rattle.std.specs.Map.{keys_of, lookup, remove_entry}
use Rattle.std.specs.BTreeMap.{is_at, insert_entry}
use Rattle.std.specs.Ordering.{ordering_reverse, match_ordering}
use Rattle.std.specs.Cmp.{IsTotalOrder}
use Rattle.std.specs.List.Sorted.{IsStrictlySortedBy}
use Rattle.std.specs.declared.cmp.Ordering.{Ordering}
use Rattle.std.specs.declared.cmp.Ordering.TheVariants.{Less, Equal, Greater}
use Rattle.std.proofs.lemmas.List.{get_or_default}
use Rattle.sorted_runs.specs.Rows.{entries, Headed, StartsWith, IsRuns}
use Rattle.sorted_runs.specs.Places.{IsRunFor, IsFoundAt, IsGap}
use Rattle.sorted_runs.specs.Edits.{IsShaped, offset, GainsAt}
use Rattle.sorted_runs.proofs.Lists.{Rises, rises_from, rises_to, all_more, here_hit, here_gap, got_hit, insert_past, insert_above, insert_here, insert_in, take_long, one_more, entries_set, in_runs}
use Rattle.sorted_runs.proofs.Shaped.{headed_keep, bounded_set, bounded_at}
use Rattle.sorted_runs.specs.declared.edits.TheConstants.{FULL}

module _ {K V : Type 0} {R : K → K → Ordering} (o : IsTotalOrder R) (k : K) (v : V) where
  all_put_by : (P : K → Type 0) (e : K × V) (es : List (K × V)) (p : Ordering) → P k → P e.0 → AllByRecursion (λ x. P x.0) es → AllByRecursion (λ x. P x.0) (insert_entry R es k v) → AllByRecursion (λ x. P x.0) (match_ordering p ((k, v) ∷ e ∷ es) ((e.0, v) ∷ es) (e ∷ insert_entry R es k v))
  all_put_by P e es p a b h i = search rules

  all_put : (P : K → Type 0) (es : List (K × V)) → P k → AllByRecursion (λ x. P x.0) es → AllByRecursion (λ x. P x.0) (insert_entry R es k v)
  all_put P [] a h = (a, tt)
  all_put P (e ∷ es) a h = all_put_by P e es (R k e.0) a h.0 h.1 (all_put P es a h.1)

  rises_put_by : (e : K × V) (es : List (K × V)) (p : Ordering) → R k e.0 ≡ p → Rises R (e ∷ es) → Rises R (insert_entry R es k v) → Rises R (match_ordering p ((k, v) ∷ e ∷ es) ((e.0, v) ∷ es) (e ∷ insert_entry R es k v))
  rises_put_by e es Less q h i = ((q, all_more (λ (x : K × V). R e.0 x.0 ≡ Less) (λ (x : K × V). R k x.0 ≡ Less) es (λ x lt. o.trans k e.0 x.0 q lt) h.0), h)
  rises_put_by e es Equal q h i = h
  rises_put_by e es Greater q h i = (all_put (λ y. R e.0 y ≡ Less) es (o.antisymm e.0 k ∙ ap ordering_reverse q) h.0, i)

  pub rises_put : (es : List (K × V)) → Rises R es → Rises R (insert_entry R es k v)
  rises_put [] h = (tt, tt)
  rises_put (e ∷ es) h = rises_put_by e es (R k e.0) refl h (rises_put es h.1)

same_long : {X : Type 0} (a b : List X) (x y : X) → length (a ++ y ∷ b) ≡ length (a ++ x ∷ b)
same_long a b x y = grind (arith, common_steps)

set_cut : {X : Type 0} (xs : List X) (i : ℕ) (y : X) → i < length xs → set xs i y ≡ take i xs ++ (y ∷ drop (suc i) xs)
set_cut [] i y lt = absurd (omega arith)
set_cut (x ∷ xs) zero y lt = refl
set_cut (x ∷ xs) (suc i) y lt = ap (λ l. x ∷ l) (set_cut xs i y (omega arith))

set_long : {X : Type 0} (xs : List X) (i : ℕ) (y : X) → length (set xs i y) ≡ length xs
set_long xs i y = search rules

starts_set : {K V : Type 0} (f : K) (es : List (K × V)) (i : ℕ) (d : K × V) (v : V) → StartsWith f es → StartsWith f (set es i ((get_or es i d).0, v))
starts_set f es i d v s = search rules

module _ {K V : Type 0} {R : K → K → Ordering} (o : IsTotalOrder R) (k : K) (fs : List K) (vs : List (Vec (K × V))) (len : ℕ) (inv : IsRuns R fs vs len) (r : ℕ) (at : IsRunFor R fs k r) (d : Vec (K × V)) where
  pub shape : IsShaped fs vs
  shape = record { headed = inv.headed; bounded = inv.bounded }

  -- the value of the key is replaced
  pub wrote : (i : ℕ) (e : K × V) (v : V) (w : Vec (K × V)) → IsFoundAt R (get_or vs r d).items k i → w.items ≡ set (get_or vs r d).items i ((get_or (get_or vs r d).items i e).0, v) → (entries (set vs r w) ≡ insert_entry R (entries vs) k v) × IsRuns R fs (set vs r w) len
  wrote i e v w hit is =
      let run = (get_or vs r d).items in
      let front = entries (take r vs) in
      let back = entries (drop (suc r) vs) in
      let tail = drop (suc i) run in
      let x = get_or run i e in
      let y : K × V = (x.0, v) in
      let lt = in_runs o k fs vs len inv r at in
      let h = here_hit o k fs vs len inv r at d i e hit in
      let a = front ++ take i run in
      let after : entries (set vs r w) ≡ a ++ (y ∷ (tail ++ back)) =
      entries_set vs r w lt ∙ ap (λ l. front ++ (l ++ back)) (is ∙ set_cut run i y hit.within)
      ∙ ap (λ l. front ++ l) (append_assoc (take i run) (y ∷ tail) back) ∙ sym (append_assoc front (take i run) (y ∷ (tail ++ back))) in
      let put : insert_entry R (entries vs) k v ≡ a ++ (y ∷ (tail ++ back)) =
      ap (λ l. insert_entry R l k v) h.split ∙ insert_past R k a (x ∷ (tail ++ back)) v h.before ∙ ap (λ l. a ++ l) (insert_here R k x (tail ++ back) v (hit.here e)) in
      let long = ap (λ l. length l) after ∙ same_long a (tail ++ back) x y ∙ sym (ap (λ l. length l) h.split) in
      let w_long : length w.items ≡ length run = ap (λ l. length l) is ∙ set_long run i y in
      let short = bounded_at vs r FULL d inv.bounded lt in (
        after ∙ sym put,
        record {
          headed = headed_keep fs vs r d w inv.headed lt (λ f s. subst (StartsWith f) (sym is) (starts_set f run i e v s));
          rising = subst (λ l. IsStrictlySortedBy R (keys_of l)) (sym (after ∙ sym put)) (rises_to R (insert_entry R (entries vs) k v) (rises_put o k v (entries vs) (rises_from R (entries vs) inv.rising)));
          bounded = bounded_set vs r FULL w inv.bounded (omega arith);
          counted = inv.counted ∙ sym long;
        },
      )

  -- an entry is added in the gap
  pub gained : (i : ℕ) (v : V) (fs' : List K) (new : List (Vec (K × V))) (len' : ℕ) → IsGap R (get_or vs r d).items k i → IsShaped fs' new → GainsAt vs r i (k, v) new → len' ≡ len + 1 → (entries new ≡ insert_entry R (entries vs) k v) × IsRuns R fs' new len'
  gained i v fs' new len' gap formed gains grown =
      let run = (get_or vs r d).items in
      let front = entries (take r vs) in
      let b = drop i run ++ entries (drop (suc r) vs) in
      let h = here_gap o k fs vs len inv r at d i gap in
      let a = front ++ take i run in
      let joint = length-append front (take i run) in
      let taken = take_long run i gap.within in
      let place : offset vs r i ≡ length a = omega arith in
      let after : entries new ≡ a ++ ((k, v) ∷ b) =
      gains ∙ ap (λ l. insert l (offset vs r i) (k, v)) h.split ∙ insert_in a b (offset vs r i) (k, v) place in
      let put : insert_entry R (entries vs) k v ≡ a ++ ((k, v) ∷ b) =
      ap (λ l. insert_entry R l k v) h.split ∙ insert_past R k a b v h.before ∙ ap (λ l. a ++ l) (insert_above R k b v h.after) in
      let long : length (entries new) ≡ suc (length (entries vs)) = ap (λ l. length l) after ∙ one_more a b (k, v) ∙ ap (λ l. suc (length l)) (sym h.split) in
      let was = inv.counted in (
        after ∙ sym put,
        record {
          headed = formed.headed;
          rising = subst (λ l. IsStrictlySortedBy R (keys_of l)) (sym (after ∙ sym put)) (rises_to R (insert_entry R (entries vs) k v) (rises_put o k v (entries vs) (rises_from R (entries vs) inv.rising)));
          bounded = formed.bounded;
          counted = omega arith;
        },
      )

  module _ (dv : d ≡ get_or vs r d) (l : List (K × V)) (ld : l ≡ d.items) where
    run_is : l ≡ (get_or vs r d).items
    run_is = ld ∙ ap (λ (x : Vec (K × V)). x.items) dv

    pub same_run : (m : Vec (K × V)) → m ≡ get_or vs r m → m.items ≡ l
    same_run m mv = ap (λ (x : Vec (K × V)). x.items) (mv ∙ get_or_default vs r m d (in_runs o k fs vs len inv r at) ∙ sym dv) ∙ sym ld

    pub wrote_there : (m w : Vec (K × V)) (i : ℕ) (e : K × V) (v : V) → m ≡ get_or vs r m → IsFoundAt R l k i → w.items ≡ set m.items i ((get_or m.items i e).0, v) → (entries (set vs r w) ≡ insert_entry R (entries vs) k v) × IsRuns R fs (set vs r w) len
    wrote_there m w i e v mv hit is =
        wrote i e v w (subst (λ q. IsFoundAt R q k i) run_is hit) (is ∙ ap (λ (q : List (K × V)). set q i ((get_or q i e).0, v)) (same_run m mv ∙ run_is))

    pub had_there : (m : Vec (K × V)) (i : ℕ) (e : K × V) (u : V) → m ≡ get_or vs r m → IsFoundAt R l k i → u ≡ (get_or m.items i e).1 → Some u ≡ lookup (is_at (R k)) (entries vs)
    had_there m i e u mv hit is =
        let h = got_hit o k fs vs len inv r at d i e (subst (λ q. IsFoundAt R q k i) run_is hit) in
        ap Some (is ∙ ap (λ (q : List (K × V)). (get_or q i e).1) (same_run m mv ∙ run_is)) ∙ sym h

    pub gap_place : (i : ℕ) (m : Vec (K × V)) → IsGap R l k i → i ≤ length (get_or vs r m).items
    gap_place i m gap =
        let g = gap.within in
        let e : length l ≡ length (get_or vs r d).items = ap (λ q. length q) run_is in
        let f = ap (λ (x : Vec (K × V)). length x.items) (get_or_default vs r d m (in_runs o k fs vs len inv r at)) in
        omega arith

    pub gained_there : (i : ℕ) (v : V) (fs' : List K) (new : List (Vec (K × V))) (len' : ℕ) → IsGap R l k i → IsShaped fs' new → GainsAt vs r i (k, v) new → len' ≡ len + 1 → (entries new ≡ insert_entry R (entries vs) k v) × IsRuns R fs' new len'
    gained_there i v fs' new len' gap = gained i v fs' new len' (subst (λ q. IsGap R q k i) run_is gap)

pub none_yet : {K V : Type 0} (fs : List K) (vs : List (Vec (K × V))) → Headed fs vs → length fs ≡ 0 → entries vs ≡ []
none_yet fs vs h e = grind (arith, common_steps)

pub first_ever : {K V : Type 0} (R : K → K → Ordering) (fs' : List K) (vs new : List (Vec (K × V))) (e : K × V) → IsShaped fs' new → GainsAt vs 0 0 e new → entries vs ≡ [] → IsRuns R fs' new 1
first_ever = search (rules, rises_to)

pub long_as_read : {K V : Type 0} (vs : List (Vec (K × V))) (r : ℕ) (d : Vec (K × V)) → d ≡ get_or vs r d → length d.items ≡ length (get_or vs r d).items
long_as_read {K} {V} vs r d e = let long : Vec (K × V) → ℕ = λ x. length x.items in ap long e

module _ {K V : Type 0} (R : K → K → Ordering) {fs : List K} {vs : List (Vec (K × V))} {len : ℕ} (inv : IsRuns R fs vs len) where
  pub formed : IsShaped fs vs
  formed = record { headed = inv.headed; bounded = inv.bounded }

  pub in_order : (es : List (K × V)) → entries vs ≡ es → IsStrictlySortedBy R (keys_of es)
  in_order es same = subst (λ l. IsStrictlySortedBy R (keys_of l)) same inv.rising

  -- parts that came out with the entries that they had
  pub kept_runs : {fs' : List K} {new : List (Vec (K × V))} → IsShaped fs' new → entries new ≡ entries vs → IsRuns R fs' new len
  kept_runs h same = record {
    headed = h.headed;
    rising = in_order _ (sym same);
    bounded = h.bounded;
    counted = inv.counted ∙ ap (λ l. length l) (sym same);
  }

  pub as_read : {fs' : List K} {read : List (Vec (K × V))} → fs' ≡ fs → read ≡ vs → IsRuns R fs' read (length (entries read))
  as_read same_firsts same_runs = rw (same_firsts, same_runs) record { headed = inv.headed; rising = inv.rising; bounded = inv.bounded; counted = refl }

  -- a map with no entries, as it is read
  module _ (none : length fs ≡ 0) (es : List (K × V)) (view : entries vs ≡ es) where
    empty : entries vs ≡ []
    empty = none_yet fs vs inv.headed none

    pub finds_none : (k : K) → lookup (is_at (R k)) es ≡ None
    finds_none k = ap (λ l. lookup (is_at (R k)) l) (sym view ∙ empty)

    pub gains_first : (k : K) (v : V) (new : List (Vec (K × V))) → GainsAt vs 0 0 (k, v) new → entries new ≡ insert_entry R es k v
    gains_first k v new gains =
        gains ∙ ap (λ l. insert l (offset vs 0 0) (k, v)) empty
        ∙ sym (ap (λ l. insert_entry R l k v) (sym view ∙ empty))

    pub passes_none : (P : K × V → Bool) (all : List (K × V)) → all ≡ entries vs → filter P es ≡ all
    passes_none P all is = ap (λ l. filter P l) (sym view ∙ empty) ∙ sym (is ∙ empty)

    pub keeps_none : (P : K × V → Bool) → es ≡ filter P es
    keeps_none P = sym view ∙ empty ∙ sym (ap (λ l. filter P l) (sym view ∙ empty))

    pub loses_none : (P : K → Bool) → es ≡ remove_entry P es
    loses_none P = sym view ∙ empty ∙ sym (ap (λ l. remove_entry P l) (sym view ∙ empty))

-- Runs around a key, and what an edit of one run does to the list of all entries.
use Rattle.std.proofs.Common.{◌≡◌, ℕ, zero, suc, ◌<◌, ◌≤◌, List, [], ◌∷◌, ◌++◌, length, get_or, set, take, drop, cond, sym, ap, ◌∙◌, subst, refl, arith, inl, inr, Some, None, append_assoc, rules}
use Rattle.std.proofs.lemmas.Grind.{common_steps}
use Rattle.std.specs.Global.{Vec}
use Rattle.std.specs.List.{insert, AllByRecursion}
use Rattle.std.specs.List.Sorted.{IsStrictlySortedBy}
use Rattle.std.specs.Map.{keys_of, lookup, remove_entry}
use Rattle.std.specs.BTreeMap.{is_at, insert_entry}
use Rattle.std.specs.Ordering.{is_eq, match_ordering}
use Rattle.std.specs.Cmp.{IsTotalOrder}
use Rattle.std.specs.declared.cmp.Ordering.{Ordering}
use Rattle.std.specs.declared.cmp.Ordering.TheVariants.{Less, Equal, Greater}
use Rattle.sorted_runs.specs.Places.{IsRunFor, IsFoundAt, IsGap, Passes, Precedes}
use Rattle.sorted_runs.specs.Rows.{entries, Headed, StartsWith, IsRuns}

-- lists and a fact of each element
module _ {X : Type 0} (P : X → Type 0) where
  pub all_join : (xs ys : List X) → AllByRecursion P xs → AllByRecursion P ys → AllByRecursion P (xs ++ ys)
  all_join xs ys h k = grind (arith, common_steps)

  pub all_first : (xs ys : List X) → AllByRecursion P (xs ++ ys) → AllByRecursion P xs
  all_first [] ys h = tt
  all_first (x ∷ xs) ys h = (h.0, all_first xs ys h.1)

  pub all_last : (xs ys : List X) → AllByRecursion P (xs ++ ys) → AllByRecursion P ys
  all_last [] ys h = h
  all_last (x ∷ xs) ys h = all_last xs ys h.1

  pub all_at : (xs : List X) (i : ℕ) (d : X) → AllByRecursion P xs → i < length xs → P (get_or xs i d)
  all_at xs i d h lt = grind (arith, common_steps)

pub all_more : {X : Type 0} (P Q : X → Type 0) (xs : List X) → ((x : X) → P x → Q x) → AllByRecursion P xs → AllByRecursion Q xs
all_more P Q [] f h = tt
all_more P Q (x ∷ xs) f h = (f x h.0, all_more P Q xs f h.1)

-- the entries rise: `IsStrictlySortedBy` of the keys, without the keys' list
abbrev pub Rises : {K V : Type 0} → (K → K → Ordering) → List (K × V) → Type 0
Rises R [] = Unit {0}
Rises R (e ∷ es) = AllByRecursion (λ x. R e.0 x.0 ≡ Less) es × Rises R es

module _ {K V : Type 0} where
  of_keys : (P : K → Type 0) (es : List (K × V)) → AllByRecursion P (keys_of es) → AllByRecursion (λ e. P e.0) es
  of_keys P [] h = tt
  of_keys P (e ∷ es) h = (h.0, of_keys P es h.1)

  to_keys : (P : K → Type 0) (es : List (K × V)) → AllByRecursion (λ e. P e.0) es → AllByRecursion P (keys_of es)
  to_keys P [] h = tt
  to_keys P (e ∷ es) h = (h.0, to_keys P es h.1)

module _ {K V : Type 0} (R : K → K → Ordering) where
  pub rises_from : (es : List (K × V)) → IsStrictlySortedBy R (keys_of es) → Rises R es
  unfolding IsStrictlySortedBy
  rises_from [] h = tt
  rises_from (e ∷ es) h = (of_keys (λ y. R e.0 y ≡ Less) es h.0, rises_from es h.1)

  pub rises_to : (es : List (K × V)) → Rises R es → IsStrictlySortedBy R (keys_of es)
  unfolding IsStrictlySortedBy
  rises_to [] h = tt
  rises_to (e ∷ es) h = (to_keys (λ y. R e.0 y ≡ Less) es h.0, rises_to es h.1)

  pub rises_first : (xs ys : List (K × V)) → Rises R (xs ++ ys) → Rises R xs
  rises_first [] ys h = tt
  rises_first (x ∷ xs) ys h = (all_first _ xs ys h.0, rises_first xs ys h.1)

  pub rises_last : (xs ys : List (K × V)) → Rises R (xs ++ ys) → Rises R ys
  rises_last [] ys h = h
  rises_last (x ∷ xs) ys h = rises_last xs ys h.1

  pub rises_across : (xs ys : List (K × V)) → Rises R (xs ++ ys) → AllByRecursion (λ x. AllByRecursion (λ (y : K × V). R x.0 y.0 ≡ Less) ys) xs
  rises_across [] ys h = tt
  rises_across (x ∷ xs) ys h = (all_last _ xs ys h.0, rises_across xs ys h.1)

-- runs and their first keys
module _ {K V : Type 0} where
  pub as_many : (fs : List K) (vs : List (Vec (K × V))) → Headed fs vs → length fs ≡ length vs
  as_many [] [] h = refl
  as_many [] (v ∷ vs) h = absurd h
  as_many (f ∷ fs) [] h = absurd h
  as_many (f ∷ fs) (v ∷ vs) h = ap suc (as_many fs vs h.1)

  first_in : (P : K → Type 0) (f : K) (es : List (K × V)) → StartsWith f es → AllByRecursion (λ e. P e.0) es → P f
  first_in P f es s h = search rules

  pub heads_in : (P : K → Type 0) (fs : List K) (vs : List (Vec (K × V))) → Headed fs vs → AllByRecursion (λ e. P e.0) (entries vs) → AllByRecursion P fs
  heads_in P [] vs s h = tt
  heads_in P (f ∷ fs) [] s h = absurd s
  heads_in P (f ∷ fs) (v ∷ vs) s h = (first_in P f v.items s.0 (all_first _ v.items (entries vs) h), heads_in P fs vs s.1 (all_last _ v.items (entries vs) h))

  pub entries_split : (vs : List (Vec (K × V))) (r : ℕ) (d : Vec (K × V)) → r < length vs → entries vs ≡ entries (take r vs) ++ ((get_or vs r d).items ++ entries (drop (suc r) vs))
  entries_split [] r d lt = absurd (omega arith)
  entries_split (v ∷ vs) zero d lt = refl
  entries_split (v ∷ vs) (suc r) d lt = ap (λ l. v.items ++ l) (entries_split vs r d (omega arith)) ∙ sym (append_assoc v.items (entries (take r vs)) ((get_or vs r d).items ++ entries (drop (suc r) vs)))

  pub entries_set : (vs : List (Vec (K × V))) (r : ℕ) (v : Vec (K × V)) → r < length vs → entries (set vs r v) ≡ entries (take r vs) ++ (v.items ++ entries (drop (suc r) vs))
  entries_set [] r v lt = absurd (omega arith)
  entries_set (w ∷ vs) zero v lt = refl
  entries_set (w ∷ vs) (suc r) v lt = ap (λ l. w.items ++ l) (entries_set vs r v (omega arith)) ∙ sym (append_assoc w.items (entries (take r vs)) (v.items ++ entries (drop (suc r) vs)))

module _ {K : Type 0} {R : K → K → Ordering} (o : IsTotalOrder R) (k : K) where
  pub past_by : (x f : K) (p : Ordering) → R k x ≡ p → R x f ≡ Less → (R k f ≡ Less → ⊥) → R k x ≡ Greater
  past_by x f p e lt not = search rules

module _ {K V : Type 0} {R : K → K → Ordering} (o : IsTotalOrder R) (k : K) where
  firsts_rise_from : (fs : List K) (vs : List (Vec (K × V))) → Headed fs vs → Rises R (entries vs) → IsStrictlySortedBy R fs
  unfolding IsStrictlySortedBy
  firsts_rise_from [] vs s h = tt
  firsts_rise_from (f ∷ fs) [] s h = absurd s
  firsts_rise_from (f ∷ fs) (v ∷ vs) s h = (
    first_in (λ x. AllByRecursion (λ y. R x y ≡ Less) fs) f v.items s.0
        (all_more (λ (x : K × V). AllByRecursion (λ (y : K × V). R x.0 y.0 ≡ Less) (entries vs)) (λ (x : K × V). AllByRecursion (λ y. R x.0 y ≡ Less) fs) v.items
        (λ x below. heads_in (λ y. R x.0 y ≡ Less) fs vs s.1 below) (rises_across R v.items (entries vs) h)),
    firsts_rise_from fs vs s.1 (rises_last R v.items (entries vs) h),
  )

  -- the entries of the runs before one whose first key is not above k
  runs_before : (fs : List K) (vs : List (Vec (K × V))) (r : ℕ) → Headed fs vs → Rises R (entries vs) → r < length fs → ((d : K) → R k (get_or fs r d) ≡ Less → ⊥) → Passes R k (entries (take r vs))
  runs_before [] vs r s h lt not = absurd (omega arith)
  runs_before (f ∷ fs) [] r s h lt not = absurd s
  runs_before (f ∷ fs) (v ∷ vs) zero s h lt not = tt
  runs_before (f ∷ fs) (v ∷ vs) (suc r) s h lt not = all_join _ v.items (entries (take r vs))
      (all_more (λ (x : K × V). AllByRecursion (λ (y : K × V). R x.0 y.0 ≡ Less) (entries vs)) (λ (x : K × V). R k x.0 ≡ Greater) v.items
      (λ x below. past_by o k x.0 (get_or fs r x.0) (R k x.0) refl (all_at _ fs r x.0 (heads_in (λ y. R x.0 y ≡ Less) fs vs s.1 below) (omega arith)) (not x.0)) (rises_across R v.items (entries vs) h))
      (runs_before fs vs r s.1 (rises_last R v.items (entries vs) h) (omega arith) not)

  all_above : (f : K) (es rest : List (K × V)) → StartsWith f es → R k f ≡ Less → Rises R (es ++ rest) → Precedes R k (es ++ rest)
  all_above f es rest s lt h = search (rules, all_more)

  -- the entries of runs whose first keys are above k
  runs_after : (fs : List K) (vs : List (Vec (K × V))) → Headed fs vs → Rises R (entries vs) → AllByRecursion (λ f. R k f ≡ Less) fs → Precedes R k (entries vs)
  runs_after [] [] s h above = tt
  runs_after [] (v ∷ vs) s h above = absurd s
  runs_after (f ∷ fs) [] s h above = absurd s
  runs_after (f ∷ fs) (v ∷ vs) s h above = all_above f v.items (entries vs) s.0 above.0 h

  headed_drop : (fs : List K) (vs : List (Vec (K × V))) (r : ℕ) → Headed fs vs → Headed (drop r fs) (drop r vs)
  headed_drop fs vs zero s = s
  headed_drop [] [] (suc r) s = tt
  headed_drop [] (v ∷ vs) (suc r) s = absurd s
  headed_drop (f ∷ fs) [] (suc r) s = absurd s
  headed_drop (f ∷ fs) (v ∷ vs) (suc r) s = headed_drop fs vs r s.1

  rises_drop : (vs : List (Vec (K × V))) (r : ℕ) → Rises R (entries vs) → Rises R (entries (drop r vs))
  rises_drop vs zero h = h
  rises_drop [] (suc r) h = tt
  rises_drop (v ∷ vs) (suc r) h = rises_drop vs r (rises_last R v.items (entries vs) h)

  -- the runs around the one in which k has its position
  module _ (fs : List K) (vs : List (Vec (K × V))) (len : ℕ) (inv : IsRuns R fs vs len) where
    rises : Rises R (entries vs)
    rises = rises_from R (entries vs) inv.rising

    pub firsts_rise : IsStrictlySortedBy R fs
    firsts_rise = firsts_rise_from fs vs inv.headed rises

    pub run_rises : (r : ℕ) (d : Vec (K × V)) → r < length vs → IsStrictlySortedBy R (keys_of (get_or vs r d).items)
    run_rises r d lt =
        let v = get_or vs r d in
        rises_to R v.items (rises_first R v.items (entries (drop (suc r) vs)) (rises_last R (entries (take r vs)) (v.items ++ entries (drop (suc r) vs)) (subst (Rises R) (entries_split vs r d lt) rises)))

    pub before_run : (r : ℕ) → IsRunFor R fs k r → Passes R k (entries (take r vs))
    before_run r at = elim at.reached [ inl e ↦ subst (λ n. Passes R k (entries (take n vs))) (sym e) tt | inr not ↦ runs_before fs vs r inv.headed rises at.within not ]

    pub after_run : (r : ℕ) → IsRunFor R fs k r → Precedes R k (entries (drop (suc r) vs))
    after_run r at = runs_after (drop (suc r) fs) (drop (suc r) vs) (headed_drop fs vs (suc r) inv.headed) (rises_drop vs (suc r) rises) at.passed

-- how a key compares with the entries before and after its position
module _ {K V : Type 0} (R : K → K → Ordering) (k : K) where
  pub lookup_past : (xs ys : List (K × V)) → Passes R k xs → lookup (is_at (R k)) (xs ++ ys) ≡ lookup (is_at (R k)) ys
  lookup_past [] ys h = refl
  lookup_past (x ∷ xs) ys h = ap (λ q. cond (is_eq q) (Some x.1) (lookup (is_at (R k)) (xs ++ ys))) h.0 ∙ lookup_past xs ys h.1

  pub lookup_above : (ys : List (K × V)) → Precedes R k ys → lookup (is_at (R k)) ys ≡ None
  lookup_above [] h = refl
  lookup_above (y ∷ ys) h = ap (λ q. cond (is_eq q) (Some y.1) (lookup (is_at (R k)) ys)) h.0 ∙ lookup_above ys h.1

  pub lookup_here : (e : K × V) (ys : List (K × V)) → R k e.0 ≡ Equal → lookup (is_at (R k)) (e ∷ ys) ≡ Some e.1
  lookup_here e ys h = ap (λ q. cond (is_eq q) (Some e.1) (lookup (is_at (R k)) ys)) h

  pub insert_past : (xs ys : List (K × V)) (v : V) → Passes R k xs → insert_entry R (xs ++ ys) k v ≡ xs ++ insert_entry R ys k v
  insert_past [] ys v h = refl
  insert_past (x ∷ xs) ys v h = ap (λ q. match_ordering q ((k, v) ∷ x ∷ (xs ++ ys)) ((x.0, v) ∷ (xs ++ ys)) (x ∷ insert_entry R (xs ++ ys) k v)) h.0 ∙ ap (λ l. x ∷ l) (insert_past xs ys v h.1)

  pub insert_above : (ys : List (K × V)) (v : V) → Precedes R k ys → insert_entry R ys k v ≡ (k, v) ∷ ys
  insert_above [] v h = refl
  insert_above (y ∷ ys) v h = ap (λ q. match_ordering q ((k, v) ∷ y ∷ ys) ((y.0, v) ∷ ys) (y ∷ insert_entry R ys k v)) h.0

  pub insert_here : (e : K × V) (ys : List (K × V)) (v : V) → R k e.0 ≡ Equal → insert_entry R (e ∷ ys) k v ≡ (e.0, v) ∷ ys
  insert_here e ys v h = ap (λ q. match_ordering q ((k, v) ∷ e ∷ ys) ((e.0, v) ∷ ys) (e ∷ insert_entry R ys k v)) h

  pub remove_past : (xs ys : List (K × V)) → Passes R k xs → remove_entry (is_at (R k)) (xs ++ ys) ≡ xs ++ remove_entry (is_at (R k)) ys
  remove_past [] ys h = refl
  remove_past (x ∷ xs) ys h = ap (λ q. cond (is_eq q) (xs ++ ys) (x ∷ remove_entry (is_at (R k)) (xs ++ ys))) h.0 ∙ ap (λ l. x ∷ l) (remove_past xs ys h.1)

  pub remove_above : (ys : List (K × V)) → Precedes R k ys → remove_entry (is_at (R k)) ys ≡ ys
  remove_above [] h = refl
  remove_above (y ∷ ys) h = ap (λ q. cond (is_eq q) ys (y ∷ remove_entry (is_at (R k)) ys)) h.0 ∙ ap (λ l. y ∷ l) (remove_above ys h.1)

  pub remove_here : (e : K × V) (ys : List (K × V)) → R k e.0 ≡ Equal → remove_entry (is_at (R k)) (e ∷ ys) ≡ ys
  remove_here e ys h = ap (λ q. cond (is_eq q) ys (e ∷ remove_entry (is_at (R k)) ys)) h

pub cut : {X : Type 0} (xs : List X) (i : ℕ) → xs ≡ take i xs ++ drop i xs
cut xs i = grind (arith, common_steps)

pub cut_at : {X : Type 0} (xs : List X) (i : ℕ) (d : X) → i < length xs → xs ≡ take i xs ++ (get_or xs i d ∷ drop (suc i) xs)
cut_at [] i d lt = absurd (omega arith)
cut_at (x ∷ xs) zero d lt = refl
cut_at (x ∷ xs) (suc i) d lt = ap (λ l. x ∷ l) (cut_at xs i d (omega arith))

pub insert_in : {X : Type 0} (a b : List X) (n : ℕ) (e : X) → n ≡ length a → insert (a ++ b) n e ≡ a ++ (e ∷ b)
insert_in a b n e h = grind (arith, common_steps)

pub one_more : {X : Type 0} (a b : List X) (x : X) → length (a ++ x ∷ b) ≡ suc (length (a ++ b))
one_more a b x = grind (arith, common_steps)

pub take_long : {X : Type 0} (xs : List X) (n : ℕ) → n ≤ length xs → length (take n xs) ≡ n
take_long xs n le = search rules

-- the position of a key among all entries, from its position in its run
module _ {K V : Type 0} {R : K → K → Ordering} (o : IsTotalOrder R) (k : K) (fs : List K) (vs : List (Vec (K × V))) (len : ℕ) (inv : IsRuns R fs vs len) (r : ℕ) (at : IsRunFor R fs k r) where
  pub in_runs : r < length vs
  in_runs = let e = as_many fs vs inv.headed in let w = at.within in omega arith

module _ {K V : Type 0} {R : K → K → Ordering} (o : IsTotalOrder R) (k : K) (fs : List K) (vs : List (Vec (K × V))) (len : ℕ) (inv : IsRuns R fs vs len) (r : ℕ) (at : IsRunFor R fs k r) (d : Vec (K × V)) where
  abbrev run : List (K × V)
  run = (get_or vs r d).items

  abbrev front : List (K × V)
  front = entries (take r vs)

  abbrev back : List (K × V)
  back = entries (drop (suc r) vs)

  pub here_hit : (i : ℕ) (e : K × V) → IsFoundAt R run k i →
      record { split : entries vs ≡ (front ++ take i run) ++ (get_or run i e ∷ (drop (suc i) run ++ back)); before : Passes R k (front ++ take i run) }
  here_hit i e hit =
      let tail = drop (suc i) run in
      let x = get_or run i e in
      let whole : run ++ back ≡ take i run ++ (x ∷ (tail ++ back)) = ap (λ l. l ++ back) (cut_at run i e hit.within) ∙ append_assoc (take i run) (x ∷ tail) back in
      record {
        split = entries_split vs r d (in_runs o k fs vs len inv r at) ∙ ap (λ l. front ++ l) whole ∙ sym (append_assoc front (take i run) (x ∷ (tail ++ back)));
        before = all_join _ front (take i run) (before_run o k fs vs len inv r at) hit.before;
      }

  pub here_gap : (i : ℕ) → IsGap R run k i →
      record { split : entries vs ≡ (front ++ take i run) ++ (drop i run ++ back); before : Passes R k (front ++ take i run); after : Precedes R k (drop i run ++ back) }
  here_gap i gap =
      let tail = drop i run in
      let whole : run ++ back ≡ take i run ++ (tail ++ back) = ap (λ l. l ++ back) (cut run i) ∙ append_assoc (take i run) tail back in
      record {
        split = entries_split vs r d (in_runs o k fs vs len inv r at) ∙ ap (λ l. front ++ l) whole ∙ sym (append_assoc front (take i run) (tail ++ back));
        before = all_join _ front (take i run) (before_run o k fs vs len inv r at) gap.before;
        after = all_join _ tail back gap.after (after_run o k fs vs len inv r at);
      }

  pub got_hit : (i : ℕ) (e : K × V) → IsFoundAt R run k i → lookup (is_at (R k)) (entries vs) ≡ Some (get_or run i e).1
  got_hit i e hit =
      let h = here_hit i e hit in
      let x = get_or run i e in
      ap (lookup (is_at (R k))) h.split ∙ lookup_past R k (front ++ take i run) (x ∷ (drop (suc i) run ++ back)) h.before ∙ lookup_here R k x (drop (suc i) run ++ back) (hit.here e)

  pub got_gap : (i : ℕ) → IsGap R run k i → lookup (is_at (R k)) (entries vs) ≡ None
  got_gap i gap =
      let h = here_gap i gap in
      ap (lookup (is_at (R k))) h.split ∙ lookup_past R k (front ++ take i run) (drop i run ++ back) h.before ∙ lookup_above R k (drop i run ++ back) h.after

  -- the same, as the code reads the run and the entry
  module _ (is : d ≡ get_or vs r d) where
    of_run : (l : List (K × V)) → l ≡ d.items → l ≡ run
    of_run l e = e ∙ ap (λ (v : Vec (K × V)). v.items) is

    pub found : (l : List (K × V)) → l ≡ d.items → (i : ℕ) (e : K × V) → e ≡ get_or d.items i e → IsFoundAt R l k i → lookup (is_at (R k)) (entries vs) ≡ Some e.1
    found l el i e ee hit = search (rules, got_hit)

    pub missed : (l : List (K × V)) → l ≡ d.items → (i : ℕ) → IsGap R l k i → lookup (is_at (R k)) (entries vs) ≡ None
    missed l el i gap = got_gap i (subst (λ m. IsGap R m k i) (of_run l el) gap)

    pub sorted_run : (l : List (K × V)) → l ≡ d.items → IsStrictlySortedBy R (keys_of l)
    sorted_run l el = subst (λ m. IsStrictlySortedBy R (keys_of m)) (sym (of_run l el)) (run_rises o k fs vs len inv r d (in_runs o k fs vs len inv r at))

pub none_is : {K V : Type 0} (R : K → K → Ordering) → IsRuns {V = V} R [] [] 0
none_is {V = V} R = record { headed = tt; rising = rises_to {V = V} R [] tt; bounded = tt; counted = refl }

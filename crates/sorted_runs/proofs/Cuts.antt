-- Where the entries within a bound begin or end.
use Rattle.std.proofs.Common.{◌≡◌, ℕ, zero, suc, ◌+◌, ◌≤◌, List, [], ◌∷◌, ◌++◌, length, get_or, take, drop, cond, sym, ap, ◌∙◌, subst, refl, arith, append_assoc, length-append, Bool, true, false, not, ◌&&◌, rules}
use Rattle.std.proofs.lemmas.Grind.{common_steps}
use Rattle.std.specs.Global.{Vec}
use Rattle.std.specs.List.{AllByRecursion, filter}
use Rattle.std.specs.Cmp.{IsTotalOrder}
use Rattle.std.specs.declared.cmp.Ordering.{Ordering}
use Rattle.std.specs.declared.cmp.Ordering.TheVariants.{Equal}
use Rattle.std.proofs.lemmas.List.{append-nil}
use Rattle.sorted_runs.specs.Rows.{entries, IsRuns}
use Rattle.sorted_runs.specs.Edits.{offset}
use Rattle.sorted_runs.specs.Places.{IsRunFor, IsFoundAt, IsGap, IsCut, Passes, Precedes, is_after}
use Rattle.sorted_runs.proofs.Lists.{all_more, all_join, here_hit, here_gap, after_run, entries_split}
use Rattle.sorted_runs.proofs.Removed.{entry_there}
use Rattle.std.proofs.Math.Seq.{take-length}

module _ {X : Type 0} where
  front_of : (a b : List X) (n : ℕ) → n ≡ length a → take n (a ++ b) ≡ a
  front_of a b n e = grind (arith, common_steps)

  all_so : (P : X → Type 0) → ((x : X) → P x) → (xs : List X) → AllByRecursion P xs
  all_so P h [] = tt
  all_so P h (x ∷ xs) = (h x, all_so P h xs)

module _ {K V : Type 0} (test : K → Bool) where
  cut_of : (a b : List (K × V)) (n : ℕ) → n ≡ length a → AllByRecursion (λ (e : K × V). test e.0 ≡ false) a → AllByRecursion (λ (e : K × V). test e.0 ≡ true) b → IsCut test (a ++ b) n
  cut_of a b n e low high = grind (arith, common_steps)

  pub cut_start : ((q : K) → test q ≡ true) → (es : List (K × V)) → IsCut test es 0
  cut_start always es = record { before = tt; behind = all_so (λ (e : K × V). test e.0 ≡ true) (λ e. always e.0) es }

  cut_end : ((q : K) → test q ≡ false) → (es : List (K × V)) (n : ℕ) → n ≡ length es → IsCut test es n
  cut_end never es n e = grind (arith, common_steps, all_so)

  -- after the last entry of the last run
  pub cut_last : ((q : K) → test q ≡ false) → (vs : List (Vec (K × V))) (r n : ℕ) (d : Vec (K × V)) → suc r ≡ length vs → n ≡ length (get_or vs r d).items → IsCut test (entries vs) (offset vs r n)
  cut_last never vs r n d last long =
      let run = (get_or vs r d).items in
      let whole : entries vs ≡ entries (take r vs) ++ run =
      entries_split vs r d (omega arith) ∙ ap (λ (l : List (Vec (K × V))). entries (take r vs) ++ (run ++ entries l)) (no_more vs (suc r) (omega arith)) ∙ ap (λ l. entries (take r vs) ++ l) (append-nil run) in
      let sum = ap (λ l. length l) whole in
      let joint = length-append (entries (take r vs)) run in
      cut_end never (entries vs) (offset vs r n) (omega arith)
    where
      no_more : (l : List (Vec (K × V))) (m : ℕ) → length l ≤ m → drop m l ≡ []
      no_more [] zero le = refl
      no_more [] (suc m) le = refl
      no_more (x ∷ l) zero le = absurd (omega arith)
      no_more (x ∷ l) (suc m) le = no_more l m (omega arith)

-- the positions of a key, and after it
module _ {K V : Type 0} {R : K → K → Ordering} (o : IsTotalOrder R) (k : K) (fs : List K) (vs : List (Vec (K × V))) (len : ℕ) (inv : IsRuns R fs vs len) (r : ℕ) (at : IsRunFor R fs k r) (d : Vec (K × V)) (dv : d ≡ get_or vs r d) (l : List (K × V)) (ld : l ≡ d.items) where
  abbrev run : List (K × V)
  run = (get_or vs r d).items

  abbrev back : List (K × V)
  back = entries (drop (suc r) vs)

  abbrev fore : ℕ → List (K × V)
  fore i = entries (take r vs) ++ take i run

  run_is : l ≡ run
  run_is = ld ∙ ap (λ (v : Vec (K × V)). v.items) dv

  long_fore : (i : ℕ) → i ≤ length run → offset vs r i ≡ length (fore i)
  long_fore i le = grind (arith, common_steps)

  passed : (past : Bool) (es : List (K × V)) → Passes R k es → AllByRecursion (λ (e : K × V). is_after past (R k e.0) ≡ false) es
  passed past es h = search (rules, all_more)

  ahead : (past : Bool) (es : List (K × V)) → Precedes R k es → AllByRecursion (λ (e : K × V). is_after past (R k e.0) ≡ true) es
  ahead past es h = search (rules, all_more)

  pub cut_gap : (past : Bool) (i : ℕ) → IsGap R l k i → IsCut (λ q. is_after past (R k q)) (entries vs) (offset vs r i)
  cut_gap past i found =
      let gap = subst (λ m. IsGap R m k i) run_is found in
      let h = here_gap o k fs vs len inv r at d i gap in
      subst (λ es. IsCut (λ q. is_after past (R k q)) es (offset vs r i)) (sym h.split)
      (cut_of (λ q. is_after past (R k q)) (fore i) (drop i run ++ back) (offset vs r i) (long_fore i gap.within) (passed past (fore i) h.before) (ahead past (drop i run ++ back) h.after))

  module _ (past : Bool) (i : ℕ) (found : IsFoundAt R l k i) where
    hit : IsFoundAt R run k i
    hit = subst (λ m. IsFoundAt R m k i) run_is found

    e : K × V
    e = entry_there run i hit.within

    abbrev x : K × V
    x = get_or run i e

    abbrev tail : List (K × V)
    tail = drop (suc i) run ++ back

    after : AllByRecursion (λ (y : K × V). is_after past (R k y.0) ≡ true) tail
    after = ahead past tail (all_join _ (drop (suc i) run) back hit.after (after_run o k fs vs len inv r at))

    pub cut_hit : past ≡ false → IsCut (λ q. is_after past (R k q)) (entries vs) (offset vs r i)
    cut_hit at_it =
        let h = here_hit o k fs vs len inv r at d i e hit in
        let within = hit.within in
        subst (λ es. IsCut (λ q. is_after past (R k q)) es (offset vs r i)) (sym h.split)
        (cut_of (λ q. is_after past (R k q)) (fore i) (x ∷ tail) (offset vs r i) (long_fore i (omega arith)) (passed past (fore i) h.before) (ap (is_after past) (hit.here e) ∙ ap (λ (b : Bool). is_after b Equal) at_it, after))

    pub cut_behind : past ≡ true → IsCut (λ q. is_after past (R k q)) (entries vs) (offset vs r (i + 1))
    cut_behind behind_it =
        let h = here_hit o k fs vs len inv r at d i e hit in
        let within = hit.within in
        let long = long_fore i (omega arith) in
        let more = length-append (fore i) (x ∷ []) in
        subst (λ es. IsCut (λ q. is_after past (R k q)) es (offset vs r (i + 1))) (sym (h.split ∙ sym (append_assoc (fore i) (x ∷ []) tail)))
        (cut_of (λ q. is_after past (R k q)) (fore i ++ x ∷ []) tail (offset vs r (i + 1)) (omega arith)
        (all_join _ (fore i) (x ∷ []) (passed past (fore i) h.before) (ap (is_after past) (hit.here e) ∙ ap (λ (b : Bool). is_after b Equal) behind_it, tt))
        after)

-- tests of one key
pub past_end : (a b : Bool) → b ≡ true → (a && not b) ≡ false
past_end a b h = search rules

pub before_start : (a b : Bool) → a ≡ false → (a && not b) ≡ false
before_start a b h = cc

pub within : (a b : Bool) → a ≡ true → b ≡ false → (a && not b) ≡ true
within a b h k = cc

-- what lies between two cuts
module _ {K V : Type 0} (f g : K → Bool) where
  abbrev both : K × V → Bool
  both e = f e.0 && not (g e.0)

  leaves : (x : K × V) (xs : List (K × V)) → both x ≡ false → filter both (x ∷ xs) ≡ filter both xs
  leaves x xs h = ap (λ b. cond b (x ∷ filter both xs) (filter both xs)) h

  keeps : (x : K × V) (xs : List (K × V)) → both x ≡ true → filter both (x ∷ xs) ≡ x ∷ filter both xs
  keeps x xs h = ap (λ b. cond b (x ∷ filter both xs) (filter both xs)) h

  none_behind : (es : List (K × V)) → AllByRecursion (λ (e : K × V). g e.0 ≡ true) es → filter both es ≡ []
  none_behind [] h = refl
  none_behind (x ∷ es) h = leaves x es (past_end (f x.0) (g x.0) h.0) ∙ none_behind es h.1

  none_left : (p : ℕ) (es : List (K × V)) → drop p (take 0 es) ≡ []
  none_left p es = search rules

  between : (es : List (K × V)) (p q : ℕ) → AllByRecursion (λ (e : K × V). f e.0 ≡ false) (take p es) → AllByRecursion (λ (e : K × V). f e.0 ≡ true) (drop p es) → AllByRecursion (λ (e : K × V). g e.0 ≡ false) (take q es) → AllByRecursion (λ (e : K × V). g e.0 ≡ true) (drop q es) → filter both es ≡ drop p (take q es)
  between es p zero low high under over = none_behind es over ∙ sym (none_left p es)
  between [] zero (suc q) low high under over = refl
  between [] (suc p) (suc q) low high under over = refl
  between (x ∷ es) zero (suc q) low high under over = keeps x es (within (f x.0) (g x.0) high.0 under.0) ∙ ap (λ l. x ∷ l) (between es zero q tt high.1 under.1 over)
  between (x ∷ es) (suc p) (suc q) low high under over = leaves x es (before_start (f x.0) (g x.0) low.0) ∙ between es p q low.1 high under.1 over

  pub between_cuts : (es : List (K × V)) (p q : ℕ) → IsCut f es p → IsCut g es q → filter (λ (e : K × V). f e.0 && not (g e.0)) es ≡ drop p (take q es)
  between_cuts es p q from to = between es p q from.before from.behind to.before to.behind

  pub from_cut : (es : List (K × V)) (p : ℕ) → ((k : K) → g k ≡ false) → IsCut f es p → filter (λ (e : K × V). f e.0 && not (g e.0)) es ≡ drop p es
  from_cut es p never from = between_cuts es p (length es) from (cut_end g never es (length es) refl) ∙ ap (λ l. drop p l) (take-length es)

  pub to_cut : (es : List (K × V)) (q : ℕ) → ((k : K) → f k ≡ true) → IsCut g es q → filter (λ (e : K × V). f e.0 && not (g e.0)) es ≡ take q es
  to_cut es q always to = between_cuts es 0 q (cut_start f always es) to

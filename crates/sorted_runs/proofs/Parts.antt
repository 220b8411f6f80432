-- The entries between two positions, and the iterator's three parts.
use Rattle.std.proofs.Common.{◌≡◌, ℕ, zero, suc, ◌+◌, ◌-◌, ◌<◌, ◌≤◌, ◌⊎◌, ⊎_elim, List, [], ◌∷◌, ◌++◌, length, get_or, take, drop, sym, ap, ◌∙◌, refl, arith, append_assoc, length-append, Option, Some, None, rules}
use Rattle.std.proofs.lemmas.Grind.{common_steps}
use Rattle.std.specs.Global.{Vec}
use Rattle.std.proofs.Math.Seq.{take-length}
use Rattle.std.specs.Iterator.{MakesProgress, at_most}
use Rattle.std.proofs.lemmas.List.{append-nil, get_or_default}
use Rattle.sorted_runs.specs.Rows.{entries}
use Rattle.sorted_runs.specs.Edits.{offset}
use Rattle.sorted_runs.proofs.Lists.{entries_split}
use Rattle.sorted_runs.proofs.Shaped.{entries_push}

module _ {X : Type 0} where
  pub take_past : (a b : List X) (m n : ℕ) → m ≡ length a + n → take m (a ++ b) ≡ a ++ take n b
  take_past [] b m n e = ap (λ (l : ℕ). take l b) (let h : m ≡ n = omega arith in h)
  take_past (x ∷ a) b zero n e = absurd (omega arith)
  take_past (x ∷ a) b (suc m) n e = ap (λ l. x ∷ l) (take_past a b m n (omega arith))

  pub drop_past : (a b : List X) (m n : ℕ) → m ≡ length a + n → drop m (a ++ b) ≡ drop n b
  drop_past [] b m n e = ap (λ (l : ℕ). drop l b) (let h : m ≡ n = omega arith in h)
  drop_past (x ∷ a) b zero n e = absurd (omega arith)
  drop_past (x ∷ a) b (suc m) n e = drop_past a b m n (omega arith)

  pub take_within : (a b : List X) (n : ℕ) → n ≤ length a → take n (a ++ b) ≡ take n a
  take_within a b n le = grind (arith, common_steps)

  pub drop_within : (a b : List X) (n : ℕ) → n ≤ length a → drop n (a ++ b) ≡ drop n a ++ b
  drop_within a b n le = grind (arith, common_steps)

  none_between : (xs : List X) (p q : ℕ) → q ≤ p → drop p (take q xs) ≡ []
  none_between xs p q le = grind (arith, common_steps)

  take_take : (xs : List X) (r s : ℕ) → r < s → take r (take s xs) ≡ take r xs
  take_take xs r s lt = grind (arith, common_steps)

  pub at_take : (xs : List X) (r s : ℕ) (d : X) → r < s → get_or (take s xs) r d ≡ get_or xs r d
  at_take xs r s d lt = grind (arith, common_steps)

  long_take : (xs : List X) (r s : ℕ) → r < s → s ≤ length xs → r < length (take s xs)
  long_take xs r s lt le = search rules

module _ {K V : Type 0} (vs : List (Vec (K × V))) (d : Vec (K × V)) where
  -- the entries of the runs before s, as those before r, those of r and the rest
  up_to : (r s : ℕ) → r < s → s ≤ length vs → entries (take s vs) ≡ entries (take r vs) ++ ((get_or vs r d).items ++ entries (drop (suc r) (take s vs)))
  up_to r s lt le =
      let rest = entries (drop (suc r) (take s vs)) in
      entries_split (take s vs) r d (long_take vs r s lt le)
      ∙ ap (λ (l : List (Vec (K × V))). entries l ++ ((get_or (take s vs) r d).items ++ rest)) (take_take vs r s lt)
      ∙ ap (λ (v : Vec (K × V)). entries (take r vs) ++ (v.items ++ rest)) (at_take vs r s d lt)

  -- what is before a position
  taken_to : (s j : ℕ) → s < length vs → j ≤ length (get_or vs s d).items → take (offset vs s j) (entries vs) ≡ entries (take s vs) ++ take j (get_or vs s d).items
  taken_to s j lt le =
      let run = (get_or vs s d).items in
      let back = entries (drop (suc s) vs) in
      ap (λ l. take (offset vs s j) l) (entries_split vs s d lt)
      ∙ take_past (entries (take s vs)) (run ++ back) (offset vs s j) j refl
      ∙ ap (λ l. entries (take s vs) ++ l) (take_within run back j le)

  -- what is from a position on
  dropped_from : (r i : ℕ) → r < length vs → i ≤ length (get_or vs r d).items → drop (offset vs r i) (entries vs) ≡ drop i (get_or vs r d).items ++ entries (drop (suc r) vs)
  dropped_from r i lt le =
      let run = (get_or vs r d).items in
      let back = entries (drop (suc r) vs) in
      ap (λ l. drop (offset vs r i) l) (entries_split vs r d lt)
      ∙ drop_past (entries (take r vs)) (run ++ back) (offset vs r i) i refl
      ∙ drop_within run back i le

  module _ (r i s j : ℕ) (below : s < length vs) (inside : j ≤ length (get_or vs s d).items) where
    -- a position in an earlier run and one in a later run
    between_runs : r < s → i ≤ length (get_or vs r d).items → drop (offset vs r i) (take (offset vs s j) (entries vs)) ≡ drop i (get_or vs r d).items ++ (entries (drop (suc r) (take s vs)) ++ take j (get_or vs s d).items)
    between_runs lt le =
        let front = entries (take r vs) in
        let run = (get_or vs r d).items in
        let mid = entries (drop (suc r) (take s vs)) in
        let last = take j (get_or vs s d).items in
        ap (λ l. drop (offset vs r i) l) (taken_to s j below inside ∙ ap (λ l. l ++ last) (up_to r s lt (omega arith)) ∙ append_assoc front (run ++ mid) last)
        ∙ drop_past front ((run ++ mid) ++ last) (offset vs r i) i refl
        ∙ ap (λ l. drop i l) (append_assoc run mid last)
        ∙ drop_within run (mid ++ last) i le

    -- two positions in one run
    between_same : r ≡ s → drop (offset vs r i) (take (offset vs s j) (entries vs)) ≡ drop i (take j (get_or vs s d).items)
    between_same same = search (rules, taken_to, drop_past)

    -- the other way round there is nothing
    pub between_none : r < length vs → (s < r) ⊎ ((r ≡ s) × (j < i)) → drop (offset vs r i) (take (offset vs s j) (entries vs)) ≡ []
    between_none lt crossed = none_between (entries vs) (offset vs r i) (offset vs s j) (⊎_elim earlier same crossed)
      where
        earlier : s < r → offset vs s j ≤ offset vs r i
        earlier h =
            let e = ap (λ l. length l) (up_to s r h (omega arith)) in
            let a = length-append (entries (take s vs)) ((get_or vs s d).items ++ entries (drop (suc s) (take r vs))) in
            let b = length-append (get_or vs s d).items (entries (drop (suc s) (take r vs))) in
            omega arith

        same : (r ≡ s) × (j < i) → offset vs s j ≤ offset vs r i
        same h =
            let e = ap (λ (q : ℕ). length (entries (take q vs))) h.0 in
            let lt = h.1 in
            omega arith

module _ {X : Type 0} where
  abbrev nothing : List X
  nothing = []

  of_none : (n : ℕ) → take n nothing ≡ nothing
  of_none n = search rules

  -- a part of a list, as code names it
  part : (xs : List X) (i j : ℕ) → take (j - i) (drop i xs) ≡ drop i (take j xs)
  part xs zero j = ap (λ (n : ℕ). take n xs) (let h : j - 0 ≡ j = omega arith in h)
  part [] (suc i) zero = of_none (0 - suc i)
  part (x ∷ xs) (suc i) zero = ap (λ (n : ℕ). take n (drop i xs)) (let h : 0 - suc i ≡ 0 = omega arith in h)
  part [] (suc i) (suc j) = of_none (suc j - suc i)
  part (x ∷ xs) (suc i) (suc j) = ap (λ (n : ℕ). take n (drop i xs)) (let h : suc j - suc i ≡ j - i = omega arith in h) ∙ part xs i j

  rest : (xs : List X) (i : ℕ) → take (length xs - i) (drop i xs) ≡ drop i xs
  rest xs i = part xs i (length xs) ∙ ap (λ l. drop i l) (take-length xs)

module _ {K V : Type 0} (vs : List (Vec (K × V))) (a b : Vec (K × V)) (r i s j : ℕ) (below : s < length vs) (inside : j ≤ length (get_or vs s b).items) (av : a ≡ get_or vs r a) (bv : b ≡ get_or vs s b) (first last : List (K × V)) (fa : first ≡ a.items) (lb : last ≡ b.items) (earlier : r < length vs) where
  first_is : first ≡ (get_or vs r b).items
  first_is = fa ∙ ap (λ (v : Vec (K × V)). v.items) (av ∙ get_or_default vs r a b earlier)

  last_is : last ≡ (get_or vs s b).items
  last_is = lb ∙ ap (λ (v : Vec (K × V)). v.items) bv

  pub read_runs : r < s → i ≤ length (get_or vs r b).items → take (length first - i) (drop i first) ++ (entries (take (s - (r + 1)) (drop (r + 1) vs)) ++ take j last) ≡ drop (offset vs r i) (take (offset vs s j) (entries vs))
  read_runs lt le = search (rules, rest, first_is, part, between_runs)

  pub read_same : r ≡ s → take (j - i) (drop i first) ++ [] ≡ drop (offset vs r i) (take (offset vs s j) (entries vs))
  read_same same = search (rules, part, first_is, between_same)

module _ {K V : Type 0} (vs : List (Vec (K × V))) (a : Vec (K × V)) (r i : ℕ) (lt : r < length vs) (le : i ≤ length (get_or vs r a).items) (av : a ≡ get_or vs r a) (run : List (K × V)) (ra : run ≡ a.items) where
  run_is : run ≡ (get_or vs r a).items
  run_is = ra ∙ ap (λ (v : Vec (K × V)). v.items) av

  pub read_on : take (length run - i) (drop i run) ++ (entries (take (length vs - (r + 1)) (drop (r + 1) vs)) ++ []) ≡ drop (offset vs r i) (entries vs)
  read_on = search (rules, rest, dropped_from)

  pub read_to : entries (take r vs) ++ take i run ≡ take (offset vs r i) (entries vs)
  read_to = ap (λ l. entries (take r vs) ++ take i l) run_is ∙ sym (taken_to vs a r i lt le)

pub read_long : {K V : Type 0} (vs : List (Vec (K × V))) (a : Vec (K × V)) (r : ℕ) (run : List (K × V)) → a ≡ get_or vs r a → run ≡ a.items → length run ≡ length (get_or vs r a).items
read_long vs a r run av ra = ap (λ l. length l) ra ∙ ap (λ (v : Vec _). length v.items) av

-- the first run of the middle becomes the front
pub walked_on : {K V : Type 0} (front : List (K × V)) (middle rest : List (Vec (K × V))) (run : Vec (K × V)) (back new all : List (K × V)) → middle ≡ run ∷ rest → length front ≡ 0 → new ≡ run.items → front ++ (entries middle ++ back) ≡ all → new ++ (entries rest ++ back) ≡ all
walked_on front middle rest run back new all is none same whole = grind (arith, common_steps)

-- the last run of the middle becomes the back
pub walked_back : {K V : Type 0} (front : List (K × V)) (middle rest : List (Vec (K × V))) (run : Vec (K × V)) (back new all : List (K × V)) → middle ≡ rest ++ run ∷ [] → length back ≡ 0 → new ≡ run.items → front ++ (entries middle ++ back) ≡ all → front ++ (entries rest ++ new) ≡ all
walked_back front middle rest run back new all is none same whole = grind (arith, common_steps, entries_push)

-- nothing is in the middle and after it
none_behind : {K V : Type 0} (middle : List (Vec (K × V))) (back : List (K × V)) → length middle ≡ 0 → length back ≡ 0 → entries middle ++ back ≡ []
none_behind [] [] a b = refl
none_behind [] (e ∷ es) a b = absurd (omega arith)
none_behind (v ∷ vs) back a b = absurd (omega arith)

none_before : {K V : Type 0} (front : List (K × V)) (middle : List (Vec (K × V))) → length front ≡ 0 → length middle ≡ 0 → (back : List (K × V)) → front ++ (entries middle ++ back) ≡ back
none_before [] [] a b back = refl
none_before [] (v ∷ vs) a b back = absurd (omega arith)
none_before (e ∷ es) middle a b back = absurd (omega arith)

module _ {K V : Type 0} (front : List (K × V)) (middle : List (Vec (K × V))) (back rest all : List (K × V)) (e : K × V) (whole : front ++ (entries middle ++ back) ≡ all) where
  -- the last entry is taken from the back, or from the front where nothing follows it
  pub last_of_back : back ≡ rest ++ e ∷ [] → all ≡ (front ++ (entries middle ++ rest)) ++ e ∷ []
  last_of_back is =
      sym whole ∙ ap (λ l. front ++ (entries middle ++ l)) is
      ∙ ap (λ l. front ++ l) (sym (append_assoc (entries middle) rest (e ∷ [])))
      ∙ sym (append_assoc front (entries middle ++ rest) (e ∷ []))

  pub last_of_front : length middle ≡ 0 → length back ≡ 0 → front ≡ rest ++ e ∷ [] → all ≡ (rest ++ (entries middle ++ back)) ++ e ∷ []
  last_of_front a b is =
      let none = none_behind middle back a b in
      sym whole ∙ ap (λ l. front ++ l) none ∙ append-nil front ∙ is
      ∙ ap (λ l. l ++ e ∷ []) (sym (ap (λ l. rest ++ l) none ∙ append-nil rest))

  -- the first entry is taken from the front, or from the back where nothing is before it
  pub first_of_front : front ≡ e ∷ rest → all ≡ e ∷ (rest ++ (entries middle ++ back))
  first_of_front is = sym whole ∙ ap (λ l. l ++ (entries middle ++ back)) is

  pub first_of_back : length front ≡ 0 → length middle ≡ 0 → back ≡ e ∷ rest → all ≡ e ∷ (front ++ (entries middle ++ rest))
  first_of_back a b is =
      let none = none_before front middle a b in
      sym whole ∙ none back ∙ is ∙ ap (λ l. e ∷ l) (sym (none rest))

-- an entry that is taken leaves one less, and where none is left the iteration ends
module _ {A X : Type 0} where
  pub none_more : (s t : List X) (r : Option A) → r ≡ None → MakesProgress (λ (l : List X). Unit {0}) (λ (l : List X). at_most (length l)) s r t
  none_more s t r e = search rules

  pub one_less : (s t : List X) (a : A) → length s ≡ suc (length t) → MakesProgress (λ (l : List X). Unit {0}) (λ (l : List X). at_most (length l)) s (Some a) t
  one_less s t a e = search rules

pub longer_by_last : {X : Type 0} (s t : List X) (x : X) → s ≡ t ++ x ∷ [] → length s ≡ suc (length t)
longer_by_last s t x e = grind (arith, common_steps)

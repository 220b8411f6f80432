-- The effect on all entries of a removal between two positions.
use Rattle.std.proofs.Common.{◌≡◌, ℕ, zero, suc, ◌+◌, ◌-◌, ◌<◌, ◌≤◌, max, List, [], ◌∷◌, ◌++◌, length, get_or, set, take, drop, sym, ap, ◌∙◌, subst, refl, arith, append_assoc, length-append, rules}
use Rattle.std.proofs.lemmas.Grind.{common_steps}
use Rattle.std.specs.Global.{Vec}
use Rattle.std.specs.List.{remove, remove_range}
use Rattle.std.proofs.Math.Numerals.{add-one}
use Rattle.std.proofs.Math.Nat.{max-eq_left, max_comm}
use Rattle.std.proofs.lemmas.List.{append-nil, take-append-drop}
use Rattle.sorted_runs.specs.Rows.{entries, Headed, StartsWith, AllUpTo}
use Rattle.sorted_runs.specs.Edits.{IsShaped, offset, LosesBetween}
use Rattle.sorted_runs.proofs.Lists.{entries_split, entries_set}
use Rattle.sorted_runs.proofs.Parts.{take_past, drop_past, take_within, drop_within, at_take}
use Rattle.sorted_runs.proofs.Shaped.{headed_keep, headed_set, bounded_set, bounded_at, entries_cut, entries_up_to}
use Rattle.sorted_runs.proofs.Removed.{headed_gone, bounded_gone, entries_gone}
use Rattle.sorted_runs.specs.declared.edits.TheConstants.{FULL}

module _ {X : Type 0} where
  pub take_in : (xs ys : List X) (p q : ℕ) → p ≤ q → q ≤ length xs → take p (take q xs ++ ys) ≡ take p xs
  take_in xs ys p q le in_range = grind (arith, common_steps)

  drop_in : (xs ys : List X) (q : ℕ) → q ≤ length xs → drop q (take q xs ++ ys) ≡ ys
  drop_in xs ys q in_range = grind (arith, common_steps)

  -- what is removed up to a position, and then from an earlier position up to it
  cut_twice : (xs : List X) (p q r : ℕ) → p ≤ q → q ≤ length xs → remove_range (remove_range xs q r) p q ≡ remove_range xs p r
  cut_twice xs p q r le in_range = ap (λ l. l ++ drop q (remove_range xs q r)) (take_in xs (drop r xs) p q le in_range) ∙ ap (λ l. take p xs ++ l) (drop_in xs (drop r xs) q in_range)

  pub long_range : (xs : List X) (p q : ℕ) → p ≤ q → q ≤ length xs → length (remove_range xs p q) + (q - p) ≡ length xs
  long_range xs p q le in_range = grind (arith, common_steps)

  pub none_left : (xs : List X) → length xs ≡ 0 → [] ≡ xs
  none_left xs e = grind (arith, common_steps)

module _ {K V : Type 0} where
  starts_range : (f : K) (es : List (K × V)) (i j : ℕ) → StartsWith f es → (i ≡ 0 → ⊥) → StartsWith f (remove_range es i j)
  starts_range f es i j s ne = search rules

  -- a position in a run is not after the last entry
  pub place_within : (vs : List (Vec (K × V))) (r j : ℕ) (d : Vec (K × V)) → r < length vs → j ≤ length (get_or vs r d).items → offset vs r j ≤ length (entries vs)
  place_within vs r j d lt le =
      let run = (get_or vs r d).items in
      let back = entries (drop (suc r) vs) in
      let a = ap (λ l. length l) (entries_split vs r d lt) in
      let b = length-append (entries (take r vs)) (run ++ back) in
      let c = length-append run back in
      omega arith

  -- the run as the code reads it, the run afterwards, and what is asked of both
  module _ (fs : List K) (vs : List (Vec (K × V))) (r i j : ℕ) (m w : Vec (K × V)) (h : IsShaped fs vs) (lt : r < length vs) (mv : m ≡ get_or vs r m) (rising : i ≤ j) (within : j ≤ length (get_or vs r m).items) (is : w.items ≡ remove_range m.items i j) where
    left_is : w.items ≡ remove_range (get_or vs r m).items i j
    left_is = is ∙ ap (λ (x : Vec (K × V)). remove_range x.items i j) mv

    shorter : length w.items ≤ FULL
    shorter = search (rules, bounded_at, long_range)

    pub cut_loses : LosesBetween vs (offset vs r i) (offset vs r j) (set vs r w)
    cut_loses =
        let run = (get_or vs r m).items in
        let front = entries (take r vs) in
        let back = entries (drop (suc r) vs) in
        let first : take (offset vs r i) (entries vs) ≡ front ++ take i run = ap (λ l. take (offset vs r i) l) (entries_split vs r m lt) ∙ take_past front (run ++ back) (offset vs r i) i refl ∙ ap (λ l. front ++ l) (take_within run back i (omega arith)) in
        let last : drop (offset vs r j) (entries vs) ≡ drop j run ++ back = ap (λ l. drop (offset vs r j) l) (entries_split vs r m lt) ∙ drop_past front (run ++ back) (offset vs r j) j refl ∙ drop_within run back j within in
        entries_set vs r w lt
        ∙ ap (λ l. front ++ (l ++ back)) left_is
        ∙ ap (λ l. front ++ l) (append_assoc (take i run) (drop j run) back)
        ∙ sym (append_assoc front (take i run) (drop j run ++ back))
        ∙ sym (ap (λ l. l ++ drop (offset vs r j) (entries vs)) first ∙ ap (λ l. (front ++ take i run) ++ l) last)

    pub cut_all_loses : length w.items ≡ 0 → LosesBetween vs (offset vs r i) (offset vs r j) (remove (set vs r w) r)
    cut_all_loses none = search (rules, entries_gone, none_left, entries_set, cut_loses)

    pub cut_behind : (i ≡ 0 → ⊥) → IsShaped fs (set vs r w)
    cut_behind ne = record {
      headed = headed_keep fs vs r m w h.headed lt (λ f s. subst (StartsWith f) (sym left_is) (starts_range f (get_or vs r m).items i j s ne));
      bounded = bounded_set vs r FULL w h.bounded shorter;
    }

    pub cut_first : (x : K × V) → 0 < length w.items → x ≡ get_or w.items 0 x → IsShaped (set fs r x.0) (set vs r w)
    cut_first x some at = search (rules, headed_set, bounded_set, shorter)

    pub cut_all : IsShaped (remove fs r) (remove (set vs r w) r)
    cut_all = record { headed = headed_gone fs vs r w h.headed lt; bounded = bounded_gone vs r FULL w h.bounded lt }

  -- the runs before it stay
  pub set_before : (vs : List (Vec (K × V))) (r : ℕ) (w : Vec (K × V)) → take r (set vs r w) ≡ take r vs
  set_before vs zero w = refl
  set_before [] (suc r) w = refl
  set_before (v ∷ vs) (suc r) w = ap (λ l. v ∷ l) (set_before vs r w)

  pub gone_before : (vs : List (Vec (K × V))) (r : ℕ) (w : Vec (K × V)) → take r (remove (set vs r w) r) ≡ take r vs
  gone_before vs zero w = refl
  gone_before [] (suc r) w = refl
  gone_before (v ∷ vs) (suc r) w = ap (λ l. v ∷ l) (gone_before vs r w)

  -- how many entries are left
  pub cut_counted : (vs new : List (Vec (K × V))) (p q len : ℕ) → LosesBetween vs p q new → p ≤ q → q ≤ length (entries vs) → len ≡ length (entries vs) → len - (q - p) ≡ length (entries new)
  cut_counted vs new p q len loses le in_range counted = grind (arith, common_steps)

  -- whole runs
  entries_join : (vs ws : List (Vec (K × V))) → entries (vs ++ ws) ≡ entries vs ++ entries ws
  entries_join [] ws = refl
  entries_join (v ∷ vs) ws = ap (λ l. v.items ++ l) (entries_join vs ws) ∙ sym (append_assoc v.items (entries vs) (entries ws))

  taken_before : (vs : List (Vec (K × V))) (r : ℕ) → take (offset vs r 0) (entries vs) ≡ entries (take r vs)
  taken_before vs r =
      let front = entries (take r vs) in
      ap (λ l. take (offset vs r 0) l) (entries_cut vs r) ∙ take_past front (entries (drop r vs)) (offset vs r 0) 0 refl ∙ append-nil front

  left_behind : (vs : List (Vec (K × V))) (r : ℕ) → drop (offset vs r 0) (entries vs) ≡ entries (drop r vs)
  left_behind vs r = ap (λ l. drop (offset vs r 0) l) (entries_cut vs r) ∙ drop_past (entries (take r vs)) (entries (drop r vs)) (offset vs r 0) 0 refl

  pub whole_loses : (vs : List (Vec (K × V))) (a b : ℕ) → LosesBetween vs (offset vs a 0) (offset vs b 0) (remove_range vs a b)
  whole_loses vs a b = search (rules, entries_join, taken_before, left_behind)

  headed_range : (fs : List K) (vs : List (Vec (K × V))) (a b : ℕ) → a ≤ b → Headed fs vs → Headed (remove_range fs a b) (remove_range vs a b)
  headed_range fs vs zero zero le h = h
  headed_range [] [] zero (suc b) le h = tt
  headed_range [] (v ∷ vs) a b le h = absurd h
  headed_range (f ∷ fs) [] a b le h = absurd h
  headed_range (f ∷ fs) (v ∷ vs) zero (suc b) le h = headed_range fs vs zero b (omega arith) h.1
  headed_range fs vs (suc a) zero le h = absurd (omega arith)
  headed_range [] [] (suc a) (suc b) le h = tt
  headed_range (f ∷ fs) (v ∷ vs) (suc a) (suc b) le h = (h.0, headed_range fs vs a b (omega arith) h.1)

  bounded_range : (vs : List (Vec (K × V))) (a b most : ℕ) → a ≤ b → AllUpTo most vs → AllUpTo most (remove_range vs a b)
  bounded_range vs zero zero most le h = h
  bounded_range [] zero (suc b) most le h = tt
  bounded_range (v ∷ vs) zero (suc b) most le h = bounded_range vs zero b most (omega arith) h.1
  bounded_range vs (suc a) zero most le h = absurd (omega arith)
  bounded_range [] (suc a) (suc b) most le h = tt
  bounded_range (v ∷ vs) (suc a) (suc b) most le h = (h.0, bounded_range vs a b most (omega arith) h.1)

  pub shaped_range : (fs : List K) (vs : List (Vec (K × V))) (a b : ℕ) → a ≤ b → IsShaped fs vs → IsShaped (remove_range fs a b) (remove_range vs a b)
  shaped_range fs vs a b le h = record { headed = headed_range fs vs a b le h.headed; bounded = bounded_range vs a b FULL le h.bounded }

module _ {X : Type 0} where
  drop_on : (xs : List X) (a n m : ℕ) → m ≡ a + n → drop n (drop a xs) ≡ drop m xs
  drop_on xs a n m e = grind (arith, common_steps)

  all_dropped : (xs : List X) (i : ℕ) → length xs ≤ i → drop i xs ≡ []
  all_dropped xs i le = grind (arith, common_steps)

-- the entries before the run a, those of the runs from it on and up to the run b, and the rest
module _ {K V : Type 0} where
  two_parts : (vs : List (Vec (K × V))) (r : ℕ) → length (entries vs) ≡ length (entries (take r vs)) + length (entries (drop r vs))
  two_parts vs r = ap (λ l. length l) (entries_cut vs r) ∙ length-append (entries (take r vs)) (entries (drop r vs))

  pub three_parts : (vs : List (Vec (K × V))) (a b : ℕ) → a ≤ b → length (entries vs) ≡ offset vs a 0 + (length (entries (take (b - a) (drop a vs))) + length (entries (drop b vs)))
  three_parts vs a b le = search (rules, two_parts, drop_on)

  pub none_counted : (vs : List (Vec (K × V))) (i : ℕ) → length vs ≤ i → length (entries (drop i vs)) ≡ 0
  none_counted vs i le = ap (λ (l : List (Vec (K × V))). length (entries l)) (all_dropped vs i le)

  pub whole_counted : (vs : List (Vec (K × V))) (a b left : ℕ) → left ≡ offset vs a 0 + length (entries (drop b vs)) → left ≡ length (entries (remove_range vs a b))
  whole_counted vs a b left is = grind (arith, common_steps, entries_join)

-- runs that begin alike
module _ {X : Type 0} where
  take_up_to : (xs : List X) (r s : ℕ) → r ≤ s → take r (take s xs) ≡ take r xs
  take_up_to xs r s le = grind (arith, common_steps)

  module _ (xs ys : List X) (s : ℕ) (kept : take s xs ≡ take s ys) where
    kept_up_to : (r : ℕ) → r ≤ s → take r xs ≡ take r ys
    kept_up_to r le = sym (take_up_to xs r s le) ∙ ap (λ l. take r l) kept ∙ take_up_to ys r s le

    kept_long : s ≤ length ys → s ≤ length xs
    kept_long le = grind (arith, common_steps)

    kept_at : (r : ℕ) (d : X) → r < s → get_or xs r d ≡ get_or ys r d
    kept_at r d lt = sym (at_take xs r s d lt) ∙ ap (λ l. get_or l r d) kept ∙ at_take ys r s d lt

module _ {K V : Type 0} where
  offset_rises : (vs : List (Vec (K × V))) (r s : ℕ) → r ≤ s → offset vs r 0 ≤ offset vs s 0
  offset_rises vs r s le =
      let a = two_parts (take s vs) r in
      let b = ap (λ (l : List (Vec (K × V))). length (entries l)) (take_up_to vs r s le) in
      omega arith

  behind_run : (vs : List (Vec (K × V))) (r n : ℕ) (d : Vec (K × V)) → r < length vs → n ≡ length (get_or vs r d).items → offset vs r n ≡ offset vs (r + 1) 0
  behind_run vs r n d lt end =
      let a = ap (λ l. length l) (entries_up_to vs r d lt) in
      let b = length-append (entries (take r vs)) (get_or vs r d).items in
      let c = ap (λ (m : ℕ). length (entries (take m vs))) (add-one r) in
      omega arith

  same_offset : (vs ws : List (Vec (K × V))) (r i : ℕ) → take r vs ≡ take r ws → offset vs r i ≡ offset ws r i
  same_offset vs ws r i same = ap (λ (l : List (Vec (K × V))). length (entries l) + i) same

  -- the runs in turn: the last has lost its first entries, then those before it have gone, and then the first has lost its last entries
  module _ (vs one two : List (Vec (K × V))) (a b : ℕ) (below : a < b) (within : b < length vs) (same : take b one ≡ take b vs) (again : take (a + 1) two ≡ take (a + 1) one) where
    pub one_long : b ≤ length one
    one_long = kept_long one vs b same (omega arith)

    pub two_long : a < length two
    two_long = let h = one_long in let k = kept_long two one (a + 1) again (omega arith) in omega arith

    -- the run that loses its last entries has lost none yet
    pub still_there : (d : Vec (K × V)) → get_or two a d ≡ get_or vs a d
    still_there d = kept_at two one (a + 1) again a d (omega arith) ∙ kept_at one vs b same a d below

    pub over_loses : (i j n : ℕ) (d : Vec (K × V)) (new : List (Vec (K × V))) → i ≤ length (get_or vs a d).items → n ≡ length (get_or two a d).items
        → LosesBetween vs (offset vs b 0) (offset vs b j) one → LosesBetween one (offset one (a + 1) 0) (offset one b 0) two → LosesBetween two (offset two a i) (offset two a n) new
        → LosesBetween vs (offset vs a i) (offset vs b j) new
    over_loses i j n d new inside end last middle first =
        let p = offset vs a i in
        let q = offset vs (a + 1) 0 in
        let r = offset vs b 0 in
        let s = offset vs b j in
        let at_q : offset one (a + 1) 0 ≡ q = same_offset one vs (a + 1) 0 (kept_up_to one vs b same (a + 1) (omega arith)) in
        let at_r : offset one b 0 ≡ r = same_offset one vs b 0 same in
        let at_p : offset two a i ≡ p = same_offset two one a i (kept_up_to two one (a + 1) again a (omega arith)) ∙ same_offset one vs a i (kept_up_to one vs b same a (omega arith)) in
        let at_end : offset two a n ≡ q = behind_run two a n d two_long end ∙ same_offset two one (a + 1) 0 again ∙ at_q in
        let p_q = behind_run vs a (length (get_or vs a d).items) d (omega arith) refl in
        let q_r = offset_rises vs (a + 1) b (omega arith) in
        let r_in = place_within vs b 0 d within (omega arith) in
        first
        ∙ ap (λ (m : ℕ). remove_range (entries two) m (offset two a n)) at_p
        ∙ ap (λ (m : ℕ). remove_range (entries two) p m) at_end
        ∙ ap (λ l. remove_range l p q) (middle ∙ ap (λ (m : ℕ). remove_range (entries one) m (offset one b 0)) at_q ∙ ap (λ (m : ℕ). remove_range (entries one) q m) at_r ∙ ap (λ l. remove_range l q r) last ∙ cut_twice (entries vs) q r s q_r r_in)
        ∙ cut_twice (entries vs) p q s (omega arith) (omega arith)

-- positions in order, and positions that cross
module _ {K V : Type 0} (vs : List (Vec (K × V))) where
  pub over_rises : (r i s j : ℕ) (d : Vec (K × V)) → r < s → s < length vs → i ≤ length (get_or vs r d).items → offset vs r i ≤ offset vs s j
  over_rises r i s j d lt within inside = search (rules, behind_run, offset_rises)

  pub same_run : (r s j : ℕ) → r ≡ s → offset vs r j ≡ offset vs s j
  same_run r s j same = ap (λ (n : ℕ). offset vs n j) same

  pub none_lost : (p q : ℕ) → q ≤ p → LosesBetween vs p (max p q) vs
  none_lost p q le = sym (ap (λ (m : ℕ). remove_range (entries vs) p m) (max-eq_left le) ∙ take-append-drop p (entries vs))

  pub lost_up_to : (p q : ℕ) (new : List (Vec (K × V))) → p ≤ q → LosesBetween vs p q new → LosesBetween vs p (max p q) new
  lost_up_to p q new le loses = loses ∙ sym (ap (λ (m : ℕ). remove_range (entries vs) p m) (max_comm p q ∙ max-eq_left le))

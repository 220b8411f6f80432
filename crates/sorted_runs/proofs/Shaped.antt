-- Edits of one run.
use Rattle.std.proofs.lemmas.Grind.{common_steps}
use Rattle.std.proofs.Math.Numerals.{add-one}
use Rattle.std.specs.Result.{IsOk, is_ok}
use Rattle.std.proofs.Common.{cond, Result, OnErr, ◌≡◌, ℕ, zero, suc, ◌+◌, ◌-◌, ◌<◌, ◌≤◌, List, [], ◌∷◌, ◌++◌, length, get_or, set, take, drop, sym, ap, ◌∙◌, subst, refl, arith, append_assoc, length-append, rules}
use Rattle.std.specs.Global.{Vec}
use Rattle.std.specs.List.{insert}
use Rattle.std.proofs.lemmas.List.{append-nil, take-append-drop}
use Rattle.std.proofs.lemmas.List.Edits.{insert-append_left, insert-append_right}
use Rattle.sorted_runs.specs.Rows.{entries, Headed, StartsWith, AllUpTo}
use Rattle.sorted_runs.specs.Edits.{IsShaped, offset, GainsAt, Splits}
use Rattle.sorted_runs.proofs.Lists.{entries_split, entries_set, insert_in, take_long}
use Rattle.sorted_runs.specs.declared.edits.TheConstants.{FULL}

module _ {K V : Type 0} where
  pub headed_set : (fs : List K) (vs : List (Vec (K × V))) (r : ℕ) (f : K) (w : Vec (K × V)) → Headed fs vs → r < length vs → StartsWith f w.items → Headed (set fs r f) (set vs r w)
  headed_set [] [] r f w h lt s = absurd (omega arith)
  headed_set [] (v ∷ vs) r f w h lt s = absurd h
  headed_set (g ∷ fs) [] r f w h lt s = absurd h
  headed_set (g ∷ fs) (v ∷ vs) zero f w h lt s = (s, h.1)
  headed_set (g ∷ fs) (v ∷ vs) (suc r) f w h lt s = (h.0, headed_set fs vs r f w h.1 (omega arith) s)

  pub headed_keep : (fs : List K) (vs : List (Vec (K × V))) (r : ℕ) (d w : Vec (K × V)) → Headed fs vs → r < length vs → ((f : K) → StartsWith f (get_or vs r d).items → StartsWith f w.items) → Headed fs (set vs r w)
  headed_keep [] [] r d w h lt s = absurd (omega arith)
  headed_keep [] (v ∷ vs) r d w h lt s = absurd h
  headed_keep (g ∷ fs) [] r d w h lt s = absurd h
  headed_keep (g ∷ fs) (v ∷ vs) zero d w h lt s = (s g h.0, h.1)
  headed_keep (g ∷ fs) (v ∷ vs) (suc r) d w h lt s = (h.0, headed_keep fs vs r d w h.1 (omega arith) s)

  pub bounded_set : (vs : List (Vec (K × V))) (r m : ℕ) (w : Vec (K × V)) → AllUpTo m vs → length w.items ≤ m → AllUpTo m (set vs r w)
  bounded_set [] r m w h le = tt
  bounded_set (v ∷ vs) zero m w h le = (le, h.1)
  bounded_set (v ∷ vs) (suc r) m w h le = (h.0, bounded_set vs r m w h.1 le)

  headed_insert : (fs : List K) (vs : List (Vec (K × V))) (r : ℕ) (f : K) (w : Vec (K × V)) → Headed fs vs → StartsWith f w.items → Headed (insert fs r f) (insert vs r w)
  headed_insert fs vs zero f w h s = (s, h)
  headed_insert [] [] (suc r) f w h s = (s, tt)
  headed_insert [] (v ∷ vs) (suc r) f w h s = absurd h
  headed_insert (g ∷ fs) [] (suc r) f w h s = absurd h
  headed_insert (g ∷ fs) (v ∷ vs) (suc r) f w h s = (h.0, headed_insert fs vs r f w h.1 s)

  bounded_insert : (vs : List (Vec (K × V))) (r m : ℕ) (w : Vec (K × V)) → AllUpTo m vs → length w.items ≤ m → AllUpTo m (insert vs r w)
  bounded_insert vs zero m w h le = (le, h)
  bounded_insert [] (suc r) m w h le = (le, tt)
  bounded_insert (v ∷ vs) (suc r) m w h le = (h.0, bounded_insert vs r m w h.1 le)

  entries_insert : (vs : List (Vec (K × V))) (r : ℕ) (w : Vec (K × V)) → entries (insert vs r w) ≡ entries (take r vs) ++ (w.items ++ entries (drop r vs))
  entries_insert vs zero w = refl
  entries_insert [] (suc r) w = refl
  entries_insert (v ∷ vs) (suc r) w = ap (λ l. v.items ++ l) (entries_insert vs r w) ∙ sym (append_assoc v.items (entries (take r vs)) (w.items ++ entries (drop r vs)))

  pub entries_cut : (vs : List (Vec (K × V))) (r : ℕ) → entries vs ≡ entries (take r vs) ++ entries (drop r vs)
  entries_cut vs zero = refl
  entries_cut [] (suc r) = refl
  entries_cut (v ∷ vs) (suc r) = ap (λ l. v.items ++ l) (entries_cut vs r) ∙ sym (append_assoc v.items (entries (take r vs)) (entries (drop r vs)))

  pub bounded_at : (vs : List (Vec (K × V))) (r m : ℕ) (d : Vec (K × V)) → AllUpTo m vs → r < length vs → length (get_or vs r d).items ≤ m
  bounded_at [] r m d h lt = absurd (omega arith)
  bounded_at (v ∷ vs) zero m d h lt = h.0
  bounded_at (v ∷ vs) (suc r) m d h lt = bounded_at vs r m d h.1 (omega arith)

  pub entries_up_to : (vs : List (Vec (K × V))) (r : ℕ) (d : Vec (K × V)) → r < length vs → entries (take (suc r) vs) ≡ entries (take r vs) ++ (get_or vs r d).items
  entries_up_to [] r d lt = absurd (omega arith)
  entries_up_to (v ∷ vs) zero d lt = append-nil v.items
  entries_up_to (v ∷ vs) (suc r) d lt = ap (λ l. v.items ++ l) (entries_up_to vs r d (omega arith)) ∙ sym (append_assoc v.items (entries (take r vs)) (get_or vs r d).items)

  pub entries_push : (vs : List (Vec (K × V))) (w : Vec (K × V)) → entries (vs ++ w ∷ []) ≡ entries vs ++ w.items
  entries_push [] w = append-nil w.items
  entries_push (v ∷ vs) w = ap (λ l. v.items ++ l) (entries_push vs w) ∙ sym (append_assoc v.items (entries vs) w.items)

  starts_insert : (f : K) (es : List (K × V)) (i : ℕ) (e : K × V) → StartsWith f es → (i ≡ 0 → ⊥) → StartsWith f (insert es i e)
  starts_insert f es i e s ne = search rules

  -- an entry has been inserted into the run r, after its first
  pub added_behind : (fs : List K) (vs : List (Vec (K × V))) (r i : ℕ) (e : K × V) (d w : Vec (K × V)) → IsShaped fs vs → r < length vs → i ≤ length (get_or vs r d).items → length (get_or vs r d).items < FULL → w.items ≡ insert (get_or vs r d).items i e → (i ≡ 0 → ⊥) → IsShaped fs (set vs r w)
  added_behind fs vs r i e d w h lt le room is ne = grind (arith, common_steps, headed_keep, starts_insert, bounded_set)

  pub added_first : (fs : List K) (vs : List (Vec (K × V))) (r : ℕ) (e : K × V) (d w : Vec (K × V)) → IsShaped fs vs → r < length vs → length (get_or vs r d).items < FULL → w.items ≡ insert (get_or vs r d).items 0 e → IsShaped (set fs r e.0) (set vs r w)
  added_first fs vs r e d w h lt room is = search (rules, headed_set, bounded_set)

  pub added_gains : (vs : List (Vec (K × V))) (r i : ℕ) (e : K × V) (d w : Vec (K × V)) → r < length vs → i ≤ length (get_or vs r d).items → w.items ≡ insert (get_or vs r d).items i e → GainsAt vs r i e (set vs r w)
  added_gains vs r i e d w lt le is =
      let front = entries (take r vs) in
      let run = (get_or vs r d).items in
      let back = entries (drop (suc r) vs) in
      let n = length front in
      let place : n + i - n ≡ i = omega arith in
      entries_set vs r w lt
      ∙ ap (λ l. front ++ (l ++ back)) is
      ∙ ap (λ l. front ++ l) (sym (insert-append_left run back i e le))
      ∙ ap (λ (j : ℕ). front ++ insert (run ++ back) j e) (sym place)
      ∙ sym (insert-append_right front (run ++ back) n (n + i) e refl (omega arith))
      ∙ ap (λ l. insert l (n + i) e) (sym (entries_split vs r d lt))

  -- nothing has changed but the block of a run
  pub same_items : (fs : List K) (vs : List (Vec (K × V))) (r : ℕ) (d w : Vec (K × V)) → IsShaped fs vs → r < length vs → length (get_or vs r d).items ≤ FULL → w.items ≡ (get_or vs r d).items → IsShaped fs (set vs r w) × (entries (set vs r w) ≡ entries vs)
  same_items fs vs r d w h lt le is = grind (arith, common_steps, headed_keep, bounded_set, entries_set, entries_split)

  -- a run of one entry is opened before the run r
  pub opened_shape : (fs : List K) (vs : List (Vec (K × V))) (r : ℕ) (e : K × V) (w : Vec (K × V)) → IsShaped fs vs → w.items ≡ e ∷ [] → IsShaped (insert fs r e.0) (insert vs r w)
  opened_shape fs vs r e w h is = search (rules, headed_insert, bounded_insert)

  pub opened_gains : (vs : List (Vec (K × V))) (r : ℕ) (e : K × V) (w : Vec (K × V)) → w.items ≡ e ∷ [] → GainsAt vs r 0 e (insert vs r w)
  opened_gains vs r e w is =
      let front = entries (take r vs) in
      let back = entries (drop r vs) in
      entries_insert vs r w
      ∙ ap (λ l. front ++ (l ++ back)) is
      ∙ sym (insert_in front back (offset vs r 0) e (omega arith))
      ∙ ap (λ l. insert l (offset vs r 0) e) (sym (entries_cut vs r))

  -- the position after a run is the first of the next
  pub gains_behind : (vs new : List (Vec (K × V))) (r i : ℕ) (e : K × V) (d : Vec (K × V)) → r < length vs → i ≡ length (get_or vs r d).items → GainsAt vs (r + 1) 0 e new → GainsAt vs r i e new
  gains_behind vs new r i e d lt end is =
      let up_to = ap (λ l. length l) (entries_up_to vs r d lt) in
      let joint = length-append (entries (take r vs)) (get_or vs r d).items in
      let next = ap (λ (n : ℕ). length (entries (take n vs))) (add-one r) in
      let same : offset vs (r + 1) 0 ≡ offset vs r i = omega arith in
      is ∙ ap (λ (n : ℕ). insert (entries vs) n e) same

-- a run is split
abbrev pub parted : {K V : Type 0} → List (Vec (K × V)) → ℕ → Vec (K × V) → Vec (K × V) → List (Vec (K × V))
parted vs r a b = insert (set vs r a) (suc r) b

module _ {K V : Type 0} where
  pub entries_part : (vs : List (Vec (K × V))) (r : ℕ) (d a b : Vec (K × V)) → r < length vs → a.items ++ b.items ≡ (get_or vs r d).items → entries (parted vs r a b) ≡ entries vs
  entries_part [] r d a b lt is = absurd (omega arith)
  entries_part (v ∷ vs) zero d a b lt is = sym (append_assoc a.items b.items (entries vs)) ∙ ap (λ l. l ++ entries vs) is
  entries_part (v ∷ vs) (suc r) d a b lt is = ap (λ l. v.items ++ l) (entries_part vs r d a b (omega arith) is)

  long_part : (vs : List (Vec (K × V))) (r : ℕ) (a b : Vec (K × V)) → r < length vs → r < length (parted vs r a b)
  long_part vs r a b lt = grind (arith, common_steps)

  first_part : (vs : List (Vec (K × V))) (r : ℕ) (a b : Vec (K × V)) → r < length vs → take r (parted vs r a b) ≡ take r vs
  first_part vs r a b lt = grind (arith, common_steps)

  at_first : (vs : List (Vec (K × V))) (r : ℕ) (d a b : Vec (K × V)) → r < length vs → get_or (parted vs r a b) r d ≡ a
  at_first [] r d a b lt = absurd (omega arith)
  at_first (v ∷ vs) zero d a b lt = refl
  at_first (v ∷ vs) (suc r) d a b lt = at_first vs r d a b (omega arith)

  starts_take : (f : K) (es : List (K × V)) (n : ℕ) → 0 < n → StartsWith f es → StartsWith f (take n es)
  starts_take f es n some s = search rules

  pub starts_here : (es : List (K × V)) (x : K × V) → 0 < length es → x ≡ get_or es 0 x → StartsWith x.0 es
  starts_here es x lt e = search rules

  pub split_shape : (fs : List K) (vs : List (Vec (K × V))) (r n : ℕ) (x : K × V) (d a b : Vec (K × V)) → IsShaped fs vs → r < length vs → 0 < n → n < length (get_or vs r d).items → length (get_or vs r d).items ≤ FULL → a.items ≡ take n (get_or vs r d).items → b.items ≡ drop n (get_or vs r d).items → x ≡ get_or b.items 0 x → IsShaped (insert fs (suc r) x.0) (parted vs r a b)
  split_shape fs vs r n x d a b h lt some within bound ea eb ex =
      let run = (get_or vs r d).items in
      let la : length a.items ≡ n = ap (λ l. length l) ea ∙ take_long run n (omega arith) in
      let both : a.items ++ b.items ≡ run = ap (λ l. l ++ b.items) ea ∙ ap (λ l. take n run ++ l) eb ∙ take-append-drop n run in
      let sum = ap (λ l. length l) both in
      let joint = length-append a.items b.items in
      record {
        headed = headed_insert fs (set vs r a) (suc r) x.0 b (headed_keep fs vs r d a h.headed lt (λ f s. subst (StartsWith f) (sym ea) (starts_take f run n some s))) (starts_here b.items x (omega arith) ex);
        bounded = bounded_insert (set vs r a) (suc r) FULL b (bounded_set vs r FULL a h.bounded (omega arith)) (omega arith);
      }

  pub split_is : (vs : List (Vec (K × V))) (r n : ℕ) (d a b : Vec (K × V)) → r < length vs → n < length (get_or vs r d).items → a.items ≡ take n (get_or vs r d).items → b.items ≡ drop n (get_or vs r d).items → (entries (parted vs r a b) ≡ entries vs) × Splits vs r n (parted vs r a b)
  split_is vs r n d a b lt within ea eb = search (rules, entries_part, take-append-drop, long_part, first_part, at_first)

-- the same, as the code reads the run
module _ {K V : Type 0} (vs : List (Vec (K × V))) (r : ℕ) (d : Vec (K × V)) (dv : d ≡ get_or vs r d) where
  pub inserted_there : (i : ℕ) (e : K × V) (w : Vec (K × V)) → w.items ≡ insert d.items i e → w.items ≡ insert (get_or vs r d).items i e
  inserted_there i e w is = is ∙ ap (λ (v : Vec (K × V)). insert v.items i e) dv

  pub kept_there : (w : Vec (K × V)) → w.items ≡ d.items → w.items ≡ (get_or vs r d).items
  kept_there w is = is ∙ ap (λ (v : Vec (K × V)). v.items) dv

pub always_err : {T E P : Type 0} (r : Result T E) → P → OnErr r P
always_err r p = search rules

pub kept_ok : {X T E : Type 0} (r : Result T E) (x y z : X) → IsOk r → z ≡ cond (is_ok r) x y → z ≡ x
kept_ok r x y z h e = cc

module _ {K V : Type 0} where
  pub split_all : (fs fs0 : List K) (vs vs0 : List (Vec (K × V))) (r n : ℕ) (x : K × V) (d a b : Vec (K × V)) (fs' : List K) (vs' : List (Vec (K × V))) → IsShaped fs0 vs0 → fs ≡ fs0 → vs ≡ vs0 → r < length vs0 → d ≡ get_or vs r d → 0 < n → n < length (get_or vs0 r d).items → a.items ≡ take n d.items → b.items ≡ drop n d.items → x ≡ get_or b.items 0 x → fs' ≡ insert fs (r + 1) x.0 → vs' ≡ insert (set vs r a) (r + 1) b → record { shaped : IsShaped fs' vs'; same : entries vs' ≡ entries vs0; splits : Splits vs0 r n vs' }
  split_all fs fs0 vs vs0 r n x d a b fs' vs' h efs ev lt dv some within ea eb ex ef ew =
      let run_d : d.items ≡ (get_or vs0 r d).items = ap (λ (v : Vec (K × V)). v.items) dv ∙ ap (λ (l : List (Vec (K × V))). (get_or l r d).items) ev in
      let fa : a.items ≡ take n (get_or vs0 r d).items = ea ∙ ap (λ l. take n l) run_d in
      let fb : b.items ≡ drop n (get_or vs0 r d).items = eb ∙ ap (λ l. drop n l) run_d in
      let fs_is : fs' ≡ insert fs0 (suc r) x.0 = ef ∙ ap (λ l. insert l (r + 1) x.0) efs ∙ ap (λ (m : ℕ). insert fs0 m x.0) (add-one r) in
      let vs_is : vs' ≡ parted vs0 r a b = ew ∙ ap (λ (l : List (Vec (K × V))). insert (set l r a) (r + 1) b) ev ∙ ap (λ (m : ℕ). insert (set vs0 r a) m b) (add-one r) in
      let is = split_is vs0 r n d a b lt within fa fb in
      record {
        shaped = subst (λ l. IsShaped l vs') (sym fs_is) (subst (λ l. IsShaped (insert fs0 (suc r) x.0) l) (sym vs_is) (split_shape fs0 vs0 r n x d a b h lt some within (bounded_at vs0 r FULL d h.bounded lt) fa fb ex));
        same = ap (λ l. entries l) vs_is ∙ is.0;
        splits = subst (λ l. Splits vs0 r n l) (sym vs_is) is.1;
      }

  -- the run that is to be cut, as the code reads it
  module _ (vs vs0 : List (Vec (K × V))) (r : ℕ) (d : Vec (K × V)) (ev : vs ≡ vs0) (dv : d ≡ get_or vs r d) where
    run_read : d.items ≡ (get_or vs0 r d).items
    run_read = ap (λ (v : Vec (K × V)). v.items) dv ∙ ap (λ (l : List (Vec (K × V))). (get_or l r d).items) ev

    pub cut_in : (n : ℕ) → n < length (get_or vs0 r d).items → n < length d.items
    cut_in n within = let e = ap (λ l. length l) run_read in omega arith

    pub split_failed : (fs fs0 : List K) (w : Vec (K × V)) → IsShaped fs0 vs0 → fs ≡ fs0 → r < length vs0 → w.items ≡ d.items → IsShaped fs (set vs r w) × (entries (set vs r w) ≡ entries vs0)
    split_failed fs fs0 w h efs lt is =
        rw (efs, ev) (same_items fs0 vs0 r d w h lt (bounded_at vs0 r FULL d h.bounded lt) (is ∙ run_read))

-- Copies of runs are runs of the same form.
use Rattle.std.proofs.Common.{◌≡◌, ℕ, zero, suc, ◌+◌, ◌<◌, List, [], ◌∷◌, ◌++◌, length, get_or, take, sym, ap, ◌∙◌, subst, refl, arith, rules}
use Rattle.std.specs.Global.{Vec}
use Rattle.std.specs.List.{AllZip}
use Rattle.std.specs.Map.{keys_of}
use Rattle.std.specs.declared.cmp.Ordering.{Ordering}
use Rattle.sorted_runs.specs.Rows.{entries, Headed, StartsWith, AllUpTo, IsRuns}
use Rattle.sorted_runs.specs.Copies.{IsEntryCopy, IsRunCopy}

-- one more of a list and its copy
pub zip_more : {X Y : Type 0} (P : X → Y → Type 0) (xs : List X) (i : ℕ) (x : X) (ys : List Y) (y : Y) → i < length xs → x ≡ get_or xs i x → P x y → AllZip P (take i xs) ys → AllZip P (take (i + 1) xs) (ys ++ y ∷ [])
zip_more P [] i x ys y lt at p h = absurd (omega arith)
zip_more P (z ∷ xs) zero x [] y lt at p h = (subst (λ w. P w y) at p, tt)
zip_more P (z ∷ xs) zero x (w ∷ ys) y lt at p h = absurd h
zip_more P (z ∷ xs) (suc i) x [] y lt at p h = absurd h
zip_more P (z ∷ xs) (suc i) x (w ∷ ys) y lt at p h =
    let more : suc i + 1 ≡ suc (i + 1) = omega arith in
    subst (λ (n : ℕ). AllZip P (take n (z ∷ xs)) (w ∷ (ys ++ y ∷ []))) (sym more) (h.0, zip_more P xs i x ys y (omega arith) at p h.1)

module _ {X Y : Type 0} (P : X → Y → Type 0) where
  zip_join : (xs : List X) (ys : List Y) (xs' : List X) (ys' : List Y) → AllZip P xs ys → AllZip P xs' ys' → AllZip P (xs ++ xs') (ys ++ ys')
  zip_join [] [] xs' ys' h k = k
  zip_join [] (y ∷ ys) xs' ys' h k = absurd h
  zip_join (x ∷ xs) [] xs' ys' h k = absurd h
  zip_join (x ∷ xs) (y ∷ ys) xs' ys' h k = (h.0, zip_join xs ys xs' ys' h.1 k)

  zip_long : (xs : List X) (ys : List Y) → AllZip P xs ys → length ys ≡ length xs
  zip_long [] [] h = refl
  zip_long [] (y ∷ ys) h = absurd h
  zip_long (x ∷ xs) [] h = absurd h
  zip_long (x ∷ xs) (y ∷ ys) h = ap suc (zip_long xs ys h.1)

module _ {K V : Type 0} (C : V → V → Type 0) where
  pub entries_copied : (vs ws : List (Vec (K × V))) → AllZip (IsRunCopy C) vs ws → AllZip (IsEntryCopy C) (entries vs) (entries ws)
  entries_copied [] [] h = tt
  entries_copied [] (w ∷ ws) h = absurd h
  entries_copied (v ∷ vs) [] h = absurd h
  entries_copied (v ∷ vs) (w ∷ ws) h = zip_join (IsEntryCopy C) v.items w.items (entries vs) (entries ws) h.0 (entries_copied vs ws h.1)

  keys_copied : (es fs : List (K × V)) → AllZip (IsEntryCopy C) es fs → keys_of fs ≡ keys_of es
  keys_copied [] [] h = refl
  keys_copied [] (f ∷ fs) h = absurd h
  keys_copied (e ∷ es) [] h = absurd h
  keys_copied (e ∷ es) (f ∷ fs) h = ap (λ (k : K). k ∷ keys_of fs) h.0.0 ∙ ap (λ (l : List K). e.0 ∷ l) (keys_copied es fs h.1)

  starts_copied : (k : K) (es fs : List (K × V)) → AllZip (IsEntryCopy C) es fs → StartsWith k es → StartsWith k fs
  starts_copied k es fs h s = search rules

  headed_copied : (ks : List K) (vs ws : List (Vec (K × V))) → AllZip (IsRunCopy C) vs ws → Headed ks vs → Headed ks ws
  headed_copied [] [] [] h s = tt
  headed_copied ks [] (w ∷ ws) h s = absurd h
  headed_copied ks (v ∷ vs) [] h s = absurd h
  headed_copied [] (v ∷ vs) (w ∷ ws) h s = absurd s
  headed_copied (k ∷ ks) [] [] h s = absurd s
  headed_copied (k ∷ ks) (v ∷ vs) (w ∷ ws) h s = (starts_copied k v.items w.items h.0 s.0, headed_copied ks vs ws h.1 s.1)

  bounded_copied : (most : ℕ) (vs ws : List (Vec (K × V))) → AllZip (IsRunCopy C) vs ws → AllUpTo most vs → AllUpTo most ws
  bounded_copied most [] [] h b = tt
  bounded_copied most [] (w ∷ ws) h b = absurd h
  bounded_copied most (v ∷ vs) [] h b = absurd h
  bounded_copied most (v ∷ vs) (w ∷ ws) h b =
      let long = zip_long (IsEntryCopy C) v.items w.items h.0 in
      let short = b.0 in
      (omega arith, bounded_copied most vs ws h.1 b.1)

  pub runs_copied : (R : K → K → Ordering) (ks ks' : List K) (vs ws : List (Vec (K × V))) (len : ℕ) → IsRuns R ks vs len → ks' ≡ ks → AllZip (IsRunCopy C) vs ws → IsRuns R ks' ws len
  runs_copied R ks ks' vs ws len inv same h = search (rules, entries_copied, headed_copied, keys_copied, bounded_copied, zip_long)

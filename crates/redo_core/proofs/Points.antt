-- The least of the readers' points.
use Rattle.std.proofs.lemmas.Grind.{common_steps}
use Rattle.std.proofs.Common.{◌≡◌, ℕ, zero, suc, ◌-◌, ◌<◌, ◌≤◌, List, [], ◌∷◌, length, get_or, sym, ◌∙◌, subst, arith}
use Rattle.std.proofs.Math.Nat.{min-le_left, le-min}
use Rattle.std.specs.List.{AllZip, Contains}
use Rattle.std.proofs.lemmas.List.{ext_get_or}
use Rattle.std.proofs.lemmas.List.Elements.{AllZip-get_or}
use Rattle.redo_core.specs.Roster.{IsReader, point_of, least}

-- the least is at most each
least_at : (ps : List ℕ) (i : ℕ) → i < length ps → least ps ≤ get_or ps i 0
least_at [] i l = absurd (omega (arith, l))
least_at (p ∷ []) zero l = omega arith
least_at (p ∷ []) (suc i) l = absurd (omega (arith, l))
least_at (p ∷ q ∷ ps) zero l = min-le_left p (least (q ∷ ps))
least_at (p ∷ q ∷ ps) (suc i) l =
    let b : least (q ∷ ps) ≤ get_or (q ∷ ps) i 0 = least_at (q ∷ ps) i (omega (arith, l)) in
    omega arith

-- what is at most each is at most the least
least_above : (ps : List ℕ) (m : ℕ) → 0 < length ps → ((i : ℕ) → i < length ps → m ≤ get_or ps i 0) → m ≤ least ps
least_above [] m l h = absurd (omega (arith, l))
least_above (p ∷ []) m l h = h 0 (omega arith)
least_above (p ∷ q ∷ ps) m l h = le-min (h 0 (omega arith)) (least_above (q ∷ ps) m (omega arith) (λ i k. h (suc i) (omega (arith, k))))

pub least_le : (roster : ℕ) (ps : List ℕ) (reader : ℕ) → length ps ≡ roster → IsReader roster reader → least ps ≤ point_of ps reader
least_le roster ps reader e r = least_at ps (reader - 1) (omega (arith, e, r.0, r.1))

pub least_ge : (roster : ℕ) (ps : List ℕ) (m : ℕ) → length ps ≡ roster → 1 ≤ roster → ((reader : ℕ) → IsReader roster reader → m ≤ point_of ps reader)
    → m ≤ least ps
least_ge roster ps m e one h =
    least_above ps m (omega (arith, e, one))
    (λ i l. subst (λ j. m ≤ get_or ps j 0) (let t : suc i - 1 ≡ i = omega arith in t) (h (suc i) (omega arith, omega (arith, e, l))))

-- two lists with the same points are one
pub same_points : (roster : ℕ) (ps qs : List ℕ) → length ps ≡ roster → length qs ≡ roster
    → ((reader : ℕ) → IsReader roster reader → point_of ps reader ≡ point_of qs reader) → ps ≡ qs
same_points roster ps qs e f h =
    ext_get_or 0 ps qs (e ∙ sym f)
    (λ i l. subst (λ j. get_or ps j 0 ≡ get_or qs j 0) (let t : suc i - 1 ≡ i = omega arith in t) (h (suc i) (omega arith, omega (arith, e, l))))

pub least_mono : (roster : ℕ) (ps qs : List ℕ) → length ps ≡ roster → length qs ≡ roster
    → ((reader : ℕ) → IsReader roster reader → point_of ps reader ≤ point_of qs reader) → least ps ≤ least qs
least_mono roster [] qs e f h = omega arith
least_mono roster (p ∷ ps) qs e f h =
    let one : 1 ≤ roster = omega (arith, e) in
    least_ge roster qs (least (p ∷ ps)) f one
    (λ reader r. let a : least (p ∷ ps) ≤ point_of (p ∷ ps) reader = least_le roster (p ∷ ps) reader e r in
    omega arith)

-- points compared reader by reader
pub zip_of : (roster : ℕ) (ps qs : List ℕ) → length ps ≡ roster → length qs ≡ roster
    → ((reader : ℕ) → IsReader roster reader → point_of ps reader ≤ point_of qs reader) → AllZip (λ p q. p ≤ q) ps qs
zip_of roster ps qs e f h =
    at ps qs (e ∙ sym f)
    (λ i l. subst (λ j. get_or ps j 0 ≤ get_or qs j 0) (let t : suc i - 1 ≡ i = omega arith in t) (h (suc i) (omega arith, omega (arith, e, l))))
  where
    at : (xs ys : List ℕ) → length xs ≡ length ys → ((i : ℕ) → i < length xs → get_or xs i 0 ≤ get_or ys i 0) → AllZip (λ p q. p ≤ q) xs ys
    at [] [] e h = tt
    at [] (y ∷ ys) e h = absurd (omega (arith, e))
    at (x ∷ xs) [] e h = absurd (omega (arith, e))
    at (x ∷ xs) (y ∷ ys) e h = (h 0 (omega arith), at xs ys (omega (arith, e)) (λ i l. h (suc i) (omega (arith, l))))

pub zip_at : (roster : ℕ) (ps qs : List ℕ) → length ps ≡ roster → AllZip (λ p q. p ≤ q) ps qs → (reader : ℕ) → IsReader roster reader
    → point_of ps reader ≤ point_of qs reader
zip_at roster ps qs e z reader r = AllZip-get_or (λ p q. p ≤ q) ps qs (reader - 1) 0 0 z (omega (arith, e, r.0, r.1))

-- the one of the points that none is below
pub get_or_any : (xs : List ℕ) (i x y : ℕ) → i < length xs → get_or xs i x ≡ get_or xs i y
get_or_any xs i x y l = grind (arith, common_steps)

pub least_is : (ps : List ℕ) (n : ℕ) → Contains ps n → ((p : ℕ) → Contains ps p → n ≤ p) → n ≡ least ps
least_is ps n h all =
    let at : least ps ≤ get_or ps h.0 0 = least_at ps h.0 h.1 in
    let is : get_or ps h.0 0 ≡ n = get_or_any ps h.0 0 n h.1 ∙ h.2 in
    let up : n ≤ least ps = least_above ps n (omega (arith, h.1)) (λ i l. all (get_or ps i 0) (i, l, get_or_any ps i (get_or ps i 0) 0 l)) in
    omega arith

-- Remainders by 8.
use Rattle.std.proofs.Common.{◌≡◌, ℕ, ◌+◌, ◌-◌, ◌*◌, ◌/◌, ◌%◌, ◌<◌, ◌≤◌, sym, ap, ◌∙◌, arith}
use Rattle.std.proofs.Math.Nat.{div-add-mod, add-mul-mod_self_right, mod-lt, mod-eq_of_lt}

-- two LSNs of one page are a multiple of 8 apart
pub same_remainder_apart : (m i : ℕ) → m < i → m % 8 ≡ i % 8 → m + 8 ≤ i
same_remainder_apart m i lt e = let a = div-add-mod m 8 in let b = div-add-mod i 8 in omega (arith, a, b, e, lt)

pub remainder_8_below : (i : ℕ) → 8 ≤ i → (i - 8) % 8 ≡ i % 8
remainder_8_below i l = let a : (i - 8 + 1 * 8) % 8 ≡ (i - 8) % 8 = add-mul-mod_self_right (i - 8) 1 8 in let b : i - 8 + 1 * 8 ≡ i = omega (arith, l) in
    sym a ∙ ap (λ (x : ℕ). x % 8) b

pub remainder_at_most : (m : ℕ) → m % 8 ≤ m
remainder_at_most m = let a = div-add-mod m 8 in omega (arith, a)

pub remainder_below : (m : ℕ) → m % 8 < 8
remainder_below m = mod-lt m (omega arith)

-- the greatest LSN up to h of page r
pub last_has_page : (h r : ℕ) → r < 8 → r ≤ h → (h - (h - r) % 8) % 8 ≡ r
last_has_page h r small l =
    let a = div-add-mod (h - r) 8 in
    let e : h - (h - r) % 8 ≡ r + (h - r) / 8 * 8 = omega (arith, a, l) in
    ap (λ (x : ℕ). x % 8) e ∙ (add-mul-mod_self_right r ((h - r) / 8) 8 ∙ mod-eq_of_lt small)

pub last_is_greatest : (h r m : ℕ) → r ≤ h → m ≤ h → m % 8 ≡ r → m ≤ h - (h - r) % 8
last_is_greatest h r m l u e =
    let a = div-add-mod (h - r) 8 in
    let b = div-add-mod m 8 in
    let s = remainder_below (h - r) in
    omega (arith, a, b, s, l, u, e)

pub half_at_most : (n : ℕ) → n / 2 ≤ n
half_at_most n = let a = div-add-mod n 2 in omega (arith, a)

pub half_positive : (n : ℕ) → 2 ≤ n → 1 ≤ n / 2
half_positive n l = let a = div-add-mod n 2 in let b : n % 2 < 2 = mod-lt n (omega arith) in omega (arith, a, b, l)

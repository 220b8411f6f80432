-- Fields that are numbers within limits.
use Rattle.std.proofs.Common.{◌≡◌, ℕ, ◌≤◌, inl, inr, true, List, [], ◌∷◌, map, length, Option, Some, None, refl, ap, ◌∙◌, subst, arith, rules}
use Rattle.std.specs.Prelude.{bytes_eq}
use Rattle.std.specs.Fmt.{decimal}
use Rattle.std.specs.List.{AllByRecursion, AllZip}
use Rattle.text.specs.Number.{digits_of, decimal_value}
use Rattle.text.specs.Parts.{◌>>=◌, parts_at}
use Rattle.text.specs.Fields.{numbers_of, of_two, of_three, of_five, Form, read_by}
use Rattle.text.specs.Wording.{worded, EncodesForm, EncodesBy}
use Rattle.text.proofs.Numbers.{numbers_are_decimals, decimal_is_read, largest, lacks_space}
use Rattle.text.proofs.Options.{here, some_is, bind_some, either, true_is}
use Rattle.text.proofs.Split.{AllLack, parts_joined, joined_parts, lacks}

-- limits that any number within them is below 2^48
abbrev pub AreLimits : List ℕ → Type 0
AreLimits limits = AllByRecursion (λ limit. limit ≤ largest) limits

-- each number is within its limit
abbrev pub AreWithin : List ℕ → List ℕ → Type 0
AreWithin ns limits = AllZip (λ n limit. n ≤ limit) ns limits

-- ---- how many there are

none_left : (o : Option ℕ) (os : Option (List ℕ)) → os ≡ None → (o >>= (λ n. os >>= (λ ns. here (n ∷ ns)))) ≡ None
none_left o os e = search rules

pub numbers_apart : (limits : List ℕ) (fields : List (List ℕ)) → (length fields ≡ length limits → ⊥) → numbers_of limits fields ≡ None
numbers_apart [] [] ne = absurd (ne refl)
numbers_apart [] (word ∷ words) ne = refl
numbers_apart (limit ∷ limits) [] ne = refl
numbers_apart (limit ∷ limits) (word ∷ words) ne = none_left (decimal_value limit word) (numbers_of limits words)
    (numbers_apart limits words (λ e. ne (omega (arith, e))))

-- ---- what is read is encoded

pub both_same : (x y : List ℕ) (xs ys : List (List ℕ)) → x ≡ y → xs ≡ ys → x ∷ xs ≡ y ∷ ys
both_same x y xs ys p q = cc

pub numbers_are : (limits : List ℕ) (fields : List (List ℕ)) (ns : List ℕ) → AreLimits limits → numbers_of limits fields ≡ Some ns
    → (fields ≡ map decimal ns) × AreWithin ns limits
numbers_are [] [] [] small h = (refl, tt)
numbers_are [] [] (n ∷ ns) small h = absurd cc
numbers_are [] (word ∷ words) ns small h = absurd cc
numbers_are (limit ∷ limits) [] ns small h = absurd cc
numbers_are (limit ∷ limits) (word ∷ words) ns small h =
    let one = bind_some (decimal_value limit word) (λ n. numbers_of limits words >>= (λ others. Some (n ∷ others))) ns h in
    let more = bind_some (numbers_of limits words) (λ others. Some (one.0 ∷ others)) ns one.2 in
    let n = (numbers_are_decimals limit one.0 word (omega (arith, small.0))).0 one.1 in
    let others = numbers_are limits words more.0 small.1 more.1 in
    subst (λ (t : List ℕ). (word ∷ words ≡ map decimal t) × AreWithin t (limit ∷ limits)) (some_is (one.0 ∷ more.0) ns more.2)
    (both_same word (decimal one.0) words (map decimal more.0) n.0 others.0, (n.1, others.1))

-- ---- what is encoded is read

pub numbers_are_read : (limits ns : List ℕ) → AreLimits limits → AreWithin ns limits → numbers_of limits (map decimal ns) ≡ Some ns
numbers_are_read [] [] small h = refl
numbers_are_read [] (n ∷ ns) small h = absurd h
numbers_are_read (limit ∷ limits) [] small h = absurd h
numbers_are_read (limit ∷ limits) (n ∷ ns) small h = rw (decimal_is_read limit n (omega (arith, small.0)) h.0, numbers_are_read limits ns small.1 h.1) refl

pub numbers_lack_space : (limits ns : List ℕ) → AreLimits limits → AreWithin ns limits → AllLack 32 (map decimal ns)
numbers_lack_space [] [] small h = tt
numbers_lack_space [] (n ∷ ns) small h = absurd h
numbers_lack_space (limit ∷ limits) [] small h = absurd h
numbers_lack_space (limit ∷ limits) (n ∷ ns) small h = (lacks_space n (omega (arith, small.0, h.0)), numbers_lack_space limits ns small.1 h.1)

-- the fields of a line of a word and numbers
pub worded_fields : (line word limits ns : List ℕ) → AreLimits limits → AreWithin ns limits → lacks 32 word ≡ true → line ≡ worded word ns
    → parts_at 32 line ≡ word ∷ map decimal ns
worded_fields line word limits ns small h space e = ap (parts_at 32) e ∙ joined_parts 32 word (map decimal ns) (space, numbers_lack_space limits ns small h)

-- ---- what so many numbers make

pub two_is : {A : Type 0} (make : ℕ → ℕ → Option A) (ns : List ℕ) (x : A) → of_two make ns ≡ Some x
    → (a : ℕ) × (b : ℕ) × (ns ≡ a ∷ b ∷ []) × (make a b ≡ Some x)
two_is make ns x h = search rules

pub three_is : {A : Type 0} (make : ℕ → ℕ → ℕ → Option A) (ns : List ℕ) (x : A) → of_three make ns ≡ Some x
    → (a : ℕ) × (b : ℕ) × (c : ℕ) × (ns ≡ a ∷ b ∷ c ∷ []) × (make a b c ≡ Some x)
three_is make ns x h = search rules

pub five_is : {A : Type 0} (make : ℕ → ℕ → ℕ → ℕ → ℕ → Option A) (ns : List ℕ) (x : A) → of_five make ns ≡ Some x
    → (a : ℕ) × (b : ℕ) × (c : ℕ) × (d : ℕ) × (e : ℕ) × (ns ≡ a ∷ b ∷ c ∷ d ∷ e ∷ []) × (make a b c d e ≡ Some x)
five_is make ns x h = search rules

-- ---- forms

-- what a form reads of a line has P
pub record Reads {A : Type 0} (P : List ℕ → A → Type 0) (f : Form A) : Type 0 where
  pub small : AreLimits f.limits
  pub each : (line : List ℕ) (ns : List ℕ) (x : A) → line ≡ worded f.word ns → AreWithin ns f.limits → f.made ns ≡ Some x → P line x

-- what is read by forms that each have P has P
pub read_has : {A : Type 0} (P : List ℕ → A → Type 0) (forms : List (Form A)) (line : List ℕ) (parts : List (List ℕ)) (x : A)
    → AllByRecursion (Reads P) forms → parts_at 32 line ≡ parts → read_by forms parts ≡ Some x → P line x
read_has P [] line [] x all e h = absurd cc
read_has P [] line (word ∷ fields) x all e h = absurd cc
read_has P (f ∷ forms) line [] x all e h = absurd cc
read_has P (f ∷ forms) line (word ∷ fields) x all e h =
    elim (either (bytes_eq word f.word) (numbers_of f.limits fields >>= f.made) (read_by forms (word ∷ fields)) x h) [
      | inl is ↦
          let o = bind_some (numbers_of f.limits fields) f.made x is.1 in
          let ns = numbers_are f.limits fields o.0 (all.0).small o.1 in
          let whole : word ∷ fields ≡ f.word ∷ map decimal o.0 = both_same word f.word fields (map decimal o.0) (true_is word f.word is.0) ns.0 in
          (all.0).each line o.0 x (parts_joined 32 line (f.word ∷ map decimal o.0) (e ∙ whole)) ns.1 o.2
      | inr other ↦ read_has P forms line (word ∷ fields) x all.1 e other.1
    ]

-- ---- limits

within_limit : (limit n : ℕ) (word : List ℕ) → decimal_value limit word ≡ Some n → n ≤ limit
unfolding digits_of
within_limit limit n word h = search rules

-- the numbers that are read are within their limits, whatever these are
pub numbers_within : (limits : List ℕ) (fields : List (List ℕ)) (ns : List ℕ) → numbers_of limits fields ≡ Some ns → AreWithin ns limits
numbers_within [] [] [] h = tt
numbers_within [] [] (n ∷ ns) h = absurd cc
numbers_within [] (word ∷ words) ns h = absurd cc
numbers_within (limit ∷ limits) [] ns h = absurd cc
numbers_within (limit ∷ limits) (word ∷ words) ns h =
    let one = bind_some (decimal_value limit word) (λ n. numbers_of limits words >>= (λ others. Some (n ∷ others))) ns h in
    let more = bind_some (numbers_of limits words) (λ others. Some (one.0 ∷ others)) ns one.2 in
    subst (λ (t : List ℕ). AreWithin t (limit ∷ limits)) (some_is (one.0 ∷ more.0) ns more.2)
    (within_limit limit one.0 word one.1, numbers_within limits words more.0 more.1)

-- ---- a line of a form

pub formed : (line word limits ns ms : List ℕ) → ns ≡ ms → line ≡ worded word ns → AreWithin ns limits → EncodesForm line word limits ms
formed line word limits ns ms e all h = subst (EncodesForm line word limits) e (record { all = all; limited = h })

-- its fields, and the numbers that they encode
pub record FormFields (line word limits ns : List ℕ) : Type 0 where
  pub fields : parts_at 32 line ≡ word ∷ map decimal ns
  pub numbers : numbers_of limits (map decimal ns) ≡ Some ns

pub form_fields : (line word limits ns : List ℕ) → AreLimits limits → EncodesForm line word limits ns → lacks 32 word ≡ true → FormFields line word limits ns
form_fields line word limits ns small s space = search (rules, worded_fields, numbers_are_read)

pub formed_by : {A : Type 0} (f : Form A) (line ns ms : List ℕ) → ns ≡ ms → line ≡ worded f.word ns → AreWithin ns f.limits → EncodesBy f line ms
formed_by f line ns ms e all h = formed line f.word f.limits ns ms e all h

pub fields_by : {A : Type 0} (f : Form A) (line ns : List ℕ) → AreLimits f.limits → EncodesBy f line ns → lacks 32 f.word ≡ true
    → FormFields line f.word f.limits ns
fields_by f line ns small s space = form_fields line f.word f.limits ns small s space

-- the numbers of a line's fields
pub said_form : (line word limits : List ℕ) (fields : List (List ℕ)) (ns : List ℕ) → AreLimits limits → parts_at 32 line ≡ word ∷ fields
    → numbers_of limits fields ≡ Some ns → EncodesForm line word limits ns
said_form line word limits fields ns small e h =
    let is = numbers_are limits fields ns small h in
    record { all = parts_joined 32 line (word ∷ map decimal ns) (e ∙ ap (λ (t : List (List ℕ)). word ∷ t) is.0); limited = is.1 }

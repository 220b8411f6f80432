-- What the options of a drill encode, and what is read of them.
use Rattle.std.proofs.Common.{◌≡◌, ◌∙◌, ◌<◌, ◌^◌, ℕ, List, Option, Some, None, Result, Ok, Err, IfSome, option_map, refl, sym, ap}
use Rattle.std.specs.Borrow.{Bor}
use Rattle.std.specs.Str.Parse.{ParsesUnsigned}
use Rattle.clap.specs.Words.{ReadsOne}
use Rattle.fleet_drill.specs.declared.running.Size.{Size}
use Rattle.fleet_tool.specs.DrillLine.{EncodesNumber, size_name}

-- a number that was read is encoded
pub read_is_encoded : (E : Type 0) (G : List ℕ → Result ℕ E → Type 0) (text : Option (List ℕ)) (r : Option ℕ)
    → ((u : List ℕ) (x : Result ℕ E) → G u x → ParsesUnsigned 64 10 u x) → (text ≡ None → r ≡ None)
    → ((t : List ℕ) → text ≡ Some t → ReadsOne G t r) → IfSome r (EncodesNumber text)
read_is_encoded E G None r only none value = rw (none refl) tt
read_is_encoded E G (Some t) None only none value = tt
read_is_encoded E G (Some t) (Some v) only none value =
    let p = only t (Ok v) (value t refl) in (t, refl, p.0.0, sym p.1)

-- a number that is encoded, and not too large, is read
pub encoded_is_read : (E : Type 0) (G : List ℕ → Result ℕ E → Type 0) (text : Option (List ℕ)) (r : Option ℕ) (n : ℕ)
    → ((u : List ℕ) (x : Result ℕ E) → G u x → ParsesUnsigned 64 10 u x)
    → ((t : List ℕ) → text ≡ Some t → ReadsOne G t r) → n < 2 ^ 64 → EncodesNumber text n → r ≡ Some n
encoded_is_read E G text (Some v) n only value small h =
    let p = only h.0 (Ok v) (value h.0 h.1) in ap Some (p.1 ∙ h.3)
encoded_is_read E G text None n only value small h =
    let p = value h.0 h.1 in absurd (only h.0 (Err p.0) p.1 (h.2, rw h.3 small))

-- ---- options that are there, or not

pub none_is_some : {A : Type 0} (o : Option A) (x : A) → o ≡ None → o ≡ Some x → ⊥
none_is_some o x none some = absurd cc

-- the text of an option, which was found by its entry and is in its row
pub given_text : (o : Option (Bor (List ℕ))) (s : Bor (List ℕ)) (text row : Option (List ℕ)) → option_map (λ b. b.now) o ≡ text → text ≡ row → o ≡ Some s
    → row ≡ Some s.now
given_text o s text row given same is = sym same ∙ sym given ∙ ap (λ (x : Option (Bor (List ℕ))). option_map (λ b. b.now) x) is

pub no_text : (o : Option (Bor (List ℕ))) (text row : Option (List ℕ)) → option_map (λ b. b.now) o ≡ text → text ≡ row → o ≡ None → row ≡ None
no_text o text row given same is = sym same ∙ sym given ∙ ap (λ (x : Option (Bor (List ℕ))). option_map (λ b. b.now) x) is

-- a size that a text names
pub size_is_named : (r : Option Size) (text : Option (List ℕ)) (name : List ℕ) → text ≡ Some name → IfSome r (λ size. name ≡ size_name size)
    → IfSome r (λ size. text ≡ Some (size_name size))
size_is_named (Some size) text name is h = is ∙ ap Some h
size_is_named None text name is h = tt

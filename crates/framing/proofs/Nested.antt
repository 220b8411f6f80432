-- Frames inside the bytes of another frame.
use Rattle.std.proofs.Common.{◌≡◌, ℕ, ◌+◌, ◌*◌, ◌<◌, ◌≤◌, ◌^◌, List, [], ◌∷◌, ◌++◌, length, take, drop, map, inl, refl, sym, ap, ◌∙◌, subst, append_assoc, append-nil, arith, length-append, take-append-drop}
use Rattle.std.proofs.lemmas.Grind.{common_steps}
use Rattle.std.specs.List.{All, concat}
use Rattle.std.proofs.lemmas.List.Elements.{All-head, All-tail, All-push}
use Rattle.framing.specs.Frames.{header, framed, IsShort, IsBegun}
use Rattle.framing.specs.Inside.{AreInside}
use Rattle.framing.proofs.FramesAnswered.{joined}
use Rattle.framing.proofs.Headers.{length-header, begun, whole, same_front, one_reading}

-- ---- a length, and the bytes after it
module _ (bytes head behind : List ℕ) (n : ℕ) (front : head ≡ take 4 bytes) (back : behind ≡ drop 4 bytes) (says : header n ≡ head) where
  both : header n ++ behind ≡ bytes
  both = ap (λ (l : List ℕ). l ++ behind) (says ∙ front) ∙ ap (λ (l : List ℕ). take 4 bytes ++ l) back ∙ take-append-drop 4 bytes

  pub too_few : n < 2 ^ 32 → length behind < n → IsBegun bytes
  too_few short few = subst IsBegun both (begun n behind short few)

  pub enough : (frame rest : List ℕ) → n ≤ length behind → frame ≡ take n behind → rest ≡ drop n behind → bytes ≡ framed frame ++ rest
  enough frame rest le is others = grind (arith, common_steps)

-- ---- what is left of them
pub shorter : (rest frame behind : List ℕ) → rest ≡ framed frame ++ behind → length behind < length rest
shorter rest frame behind e = grind (arith, common_steps, length-header)

-- the first of the frames is the one that the bytes begin with
pub first_inside : (rest frame behind : List ℕ) (frames : List (List ℕ)) → AreInside rest frames → rest ≡ framed frame ++ behind → IsShort frame
    → (others : List (List ℕ)) × (frames ≡ frame ∷ others) × AreInside behind others
first_inside rest frame behind [] h e short =
    absurd (omega (arith, ap length (sym h.encoded ∙ e), length-append (framed frame) behind, length-append (header (length frame)) frame, length-header (length frame)))
first_inside rest frame behind (x ∷ xs) h e short =
    let first = same_front frame x behind (concat (map framed xs)) short (All-head IsShort x xs h.short) (sym e ∙ h.encoded) in
    (xs, ap (λ (l : List ℕ). l ∷ xs) (sym first.0), record { encoded = first.1; short = All-tail IsShort x xs h.short })

pub none_inside : (rest : List ℕ) (frames : List (List ℕ)) → AreInside rest frames → IsBegun rest → frames ≡ []
none_inside rest [] h b = refl
none_inside rest (x ∷ xs) h b = absurd (whole x (concat (map framed xs)) (All-head IsShort x xs h.short) (subst IsBegun h.encoded b))

-- ---- their count
-- `count` frames precede the rest
pub record Counted (bytes rest : List ℕ) (count : ℕ) : Type 0 where
  pub frames : List (List ℕ)
  pub short : All IsShort frames
  pub encoded : bytes ≡ concat (map framed frames) ++ rest
  pub many : length frames ≡ count
  pub few : 4 * count + length rest ≤ length bytes

pub counted_more : (bytes rest : List ℕ) (count : ℕ) (frame behind : List ℕ) → Counted bytes rest count → rest ≡ framed frame ++ behind → IsShort frame
    → Counted bytes behind (count + 1)
counted_more bytes rest count frame behind h e short = record {
  frames = h.frames ++ frame ∷ [];
  short = All-push IsShort h.frames frame h.short short;
  encoded = h.encoded ∙ ap (λ (l : List ℕ). concat (map framed h.frames) ++ l) e ∙ sym (append_assoc (concat (map framed h.frames)) (framed frame) behind)
      ∙ ap (λ (l : List ℕ). l ++ behind) (sym (joined h.frames frame));
  many = omega (arith, h.many, length-append h.frames (frame ∷ []));
  few = omega (arith, h.few, ap length e, length-append (framed frame) behind, length-append (header (length frame)) frame, length-header (length frame));
}

pub counted_not : (bytes rest : List ℕ) (count : ℕ) → Counted bytes rest count → IsBegun rest → 0 < length rest → (frames : List (List ℕ))
    → AreInside bytes frames → ⊥
counted_not bytes rest count h b some frames inside =
    let same = one_reading bytes h.frames frames rest [] (record { encoded = h.encoded; short = h.short; begun = b })
    (record { encoded = inside.encoded ∙ sym (append-nil (concat (map framed frames))); short = inside.short; begun = inl (omega arith) }) in
    omega (arith, some, ap length same.1)

-- The fields of an advance: two numbers, or three.
use Rattle.std.proofs.Common.{◌≡◌, ℕ, ◌<◌, inl, inr, List, [], ◌∷◌, get_or, Some, refl, ◌∙◌, zero, suc, arith}
use Rattle.std.specs.Prelude.{Result, Ok, Err, IfErr}
use Rattle.redo_core.specs.Data.{advance_of}
use Rattle.redo_core.specs.Shape.{advance_fault}
use Rattle.redo_core.specs.declared.facts.Fact.TheVariants.{Advance}
use Rattle.text.specs.Fields.{numbers_of}
use Rattle.script_text.specs.FactLine.{shaped, advance_line}
use Rattle.script_text.specs.declared.reasons.LineReason.{LineReason}
use Rattle.script_text.specs.declared.reasons.LineReason.TheVariants.{CarriageReturn, UnknownWord, FieldCount, AdvanceFieldCount, Field, Zero, PastPage, ManyPatches, Patch, Shape}
use Rattle.script_text.specs.FieldReasons.{IsWrongField}
use Rattle.script_text.specs.FactReasons.{IsShape, IsAdvanceReason, point_limits, advance_limits}
use Rattle.script_text.proofs.FactLines.{two_fields, three_fields, many_numbers}

pub two_read : (fields : List (List ℕ)) (epoch point : ℕ) → numbers_of point_limits fields ≡ Some (epoch ∷ point ∷ [])
    → advance_line fields ≡ shaped (Advance (advance_of epoch 1 point))
two_read fields epoch point e = two_fields fields (many_numbers point_limits fields (epoch ∷ point ∷ []) e) ∙ rw e refl

pub three_read : (fields : List (List ℕ)) (epoch point reader : ℕ) → numbers_of advance_limits fields ≡ Some (epoch ∷ point ∷ reader ∷ [])
    → advance_line fields ≡ shaped (Advance (advance_of epoch reader point))
three_read fields epoch point reader e =
    let three = many_numbers advance_limits fields (epoch ∷ point ∷ reader ∷ []) e in
    three_fields fields (λ two. absurd (omega (arith, two, three))) ∙ rw e refl

pub two_shape : (fields : List (List ℕ)) (epoch point : ℕ) (reason : LineReason) → numbers_of point_limits fields ≡ Some (epoch ∷ point ∷ [])
    → IsShape (advance_fault (advance_of epoch 1 point)) reason → IsAdvanceReason fields reason
two_shape fields epoch point (Shape fault) e h = record { epoch = epoch; point = point; reader = 1; numbers = inl (e, refl); faulty = h }
two_shape fields epoch point _ e h = absurd h

pub three_shape : (fields : List (List ℕ)) (epoch point reader : ℕ) (reason : LineReason) → numbers_of advance_limits fields ≡ Some (epoch ∷ point ∷ reader ∷ [])
    → IsShape (advance_fault (advance_of epoch reader point)) reason → IsAdvanceReason fields reason
three_shape fields epoch point reader (Shape fault) e h = record { epoch = epoch; point = point; reader = reader; numbers = inr e; faulty = h }
three_shape fields epoch point reader _ e h = absurd h

pub two_result : {X : Type 0} (fields : List (List ℕ)) (epoch point : ℕ) (r : Result X LineReason) → numbers_of point_limits fields ≡ Some (epoch ∷ point ∷ [])
    → IfErr r (IsShape (advance_fault (advance_of epoch 1 point))) → IfErr r (IsAdvanceReason fields)
two_result fields epoch point (Ok x) e h = tt
two_result fields epoch point (Err reason) e h = two_shape fields epoch point reason e h

pub three_result : {X : Type 0} (fields : List (List ℕ)) (epoch point reader : ℕ) (r : Result X LineReason)
    → numbers_of advance_limits fields ≡ Some (epoch ∷ point ∷ reader ∷ [])
    → IfErr r (IsShape (advance_fault (advance_of epoch reader point))) → IfErr r (IsAdvanceReason fields)
three_result fields epoch point reader (Ok x) e h = tt
three_result fields epoch point reader (Err reason) e h = three_shape fields epoch point reader reason e h

-- the limits of two numbers are the first of three
same_limit : (k : ℕ) → k < 2 → get_or point_limits k 0 ≡ get_or advance_limits k 0
same_limit zero lt = refl
same_limit (suc zero) lt = refl
same_limit (suc (suc k)) lt = absurd (omega (arith, lt))

pub two_wrong : (fields : List (List ℕ)) (reason : LineReason) → IsWrongField point_limits fields reason → IsAdvanceReason fields reason
two_wrong fields (Field at fault) h =
    let limit = same_limit h.before (omega (arith, h.limited)) in
    record { before = h.before; number = h.number; limited = omega (arith, h.limited); within = h.within; faulty = rw limit at h.faulty }
two_wrong fields CarriageReturn h = absurd h
two_wrong fields UnknownWord h = absurd h
two_wrong fields (FieldCount wanted) h = absurd h
two_wrong fields AdvanceFieldCount h = absurd h
two_wrong fields (Zero at) h = absurd h
two_wrong fields PastPage h = absurd h
two_wrong fields ManyPatches h = absurd h
two_wrong fields (Patch at fault) h = absurd h
two_wrong fields (Shape fault) h = absurd h

pub three_wrong : (fields : List (List ℕ)) (reason : LineReason) → IsWrongField advance_limits fields reason → IsAdvanceReason fields reason
three_wrong fields (Field at fault) h = h
three_wrong fields CarriageReturn h = absurd h
three_wrong fields UnknownWord h = absurd h
three_wrong fields (FieldCount wanted) h = absurd h
three_wrong fields AdvanceFieldCount h = absurd h
three_wrong fields (Zero at) h = absurd h
three_wrong fields PastPage h = absurd h
three_wrong fields ManyPatches h = absurd h
three_wrong fields (Patch at fault) h = absurd h
three_wrong fields (Shape fault) h = absurd h

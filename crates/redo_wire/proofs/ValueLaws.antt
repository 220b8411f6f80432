-- The laws of encodings, of values of any kind.
use Rattle.std.proofs.Common.{◌≡◌, Bool, cond, [], ◌∷◌, ◌++◌, Result, Ok, Err, refl, ap, ◌∙◌, arith, rules}
use Rattle.redo_wire.specs.declared.faults.WireFault.{WireFault}
use Rattle.redo_wire.specs.declared.faults.WireFault.TheVariants.{Rest, TooLong}
use Rattle.redo_wire.specs.declared.values.WireValue.{WireValue}
use Rattle.redo_wire.specs.Values.{EncodesValue, valued, decoded_value}
use Rattle.redo_wire.specs.Laws.{HasOneEncoding, HasOneValue, BeginsNoOther, ReadsEncodings, NeverTooLong}
use Rattle.redo_wire.proofs.Encodings.{bytes_from_All}
use Rattle.redo_wire.proofs.ValueReaders.{value_from_read, value_from_encoded}
use Rattle.redo_wire.proofs.Locality.{decoded_fact_reads, decoded_summary_reads, decoded_delta_reads, decoded_piece_reads, value_rest}

pub value_one_encoding : HasOneEncoding EncodesValue
value_one_encoding = search rules

same_found : (v w : WireValue) (r : Result WireValue WireFault) → r ≡ Ok v → r ≡ Ok w → v ≡ w
same_found v w r e f = cc

pub value_one_value : HasOneValue EncodesValue
value_one_value v w x p q = same_found v w (decoded_value x) (value_from_encoded x v p) (value_from_encoded x w q)

pub value_begins_no_other : BeginsNoOther EncodesValue
value_begins_no_other v w x y [] p q e = refl
value_begins_no_other v w x y (b ∷ bytes) p q e =
    let rest : decoded_value (x ++ (b ∷ bytes)) ≡ Err Rest = value_rest x (b ∷ bytes) v (omega arith) (value_from_encoded x v p) in
    let found : decoded_value (x ++ (b ∷ bytes)) ≡ Ok w = ap decoded_value e ∙ value_from_encoded y w q in
    absurd cc

pub value_reads_encodings : ReadsEncodings EncodesValue decoded_value
value_reads_encodings v bytes all = (λ e. value_from_read bytes v (bytes_from_All bytes all) e, λ encoded. value_from_encoded bytes v encoded)

abbrev IsReading : {A : Type 0} → Result A WireFault → Type 0
IsReading r = r ≡ Err TooLong → ⊥

pub value_never_too_long : NeverTooLong decoded_value
value_never_too_long = search (rules, decoded_fact_reads, decoded_piece_reads, decoded_delta_reads, decoded_summary_reads)

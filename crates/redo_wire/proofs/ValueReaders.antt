-- Values of any kind: what is read is encoded so, and what is encoded so is read.
use Rattle.std.proofs.Common.{◌≡◌, ℕ, ◌⊎◌, ⊎_elim, Bool, cond, List, [], ◌∷◌, ◌++◌, Result, Ok, refl, ap, subst, ◌∙◌, rules}
use Rattle.std.specs.Prelude.{IfOk}
use Rattle.redo_wire.specs.declared.faults.WireFault.{WireFault}
use Rattle.redo_wire.specs.declared.faults.WireError.{WireError}
use Rattle.redo_core.specs.declared.facts.Fact as fact
use Rattle.redo_wire.specs.declared.values.WireValue.{WireValue}
use Rattle.redo_wire.specs.declared.values.WireValue.TheVariants.{Fact, Summary, Delta, Piece}
use Rattle.redo_wire.specs.Outcomes.{GivesRead}
use Rattle.redo_wire.specs.Forms.{form_bytes}
use Rattle.redo_wire.specs.Facts.{IsWireFact, fact_bytes}
use Rattle.redo_wire.specs.FactReading.{fact_at, decoded_fact}
use Rattle.messages.specs.Books.{has_many}
use Rattle.redo_wire.specs.Summaries.{IsWireSummary, summary_part_bytes, summary_bytes}
use Rattle.redo_wire.specs.SummaryReading.{summary_at, decoded_summary}
use Rattle.redo_wire.specs.Deltas.{IsWireDelta, delta_part_bytes, delta_bytes}
use Rattle.redo_wire.specs.DeltaReading.{delta_at, decoded_delta}
use Rattle.redo_wire.specs.Pieces.{IsWirePiece, is_for_many, piece_part_bytes, piece_bytes}
use Rattle.redo_wire.specs.PieceReading.{piece_at, decoded_piece}
use Rattle.redo_wire.specs.Values.{EncodesValue, is_summary_tag, is_delta_tag, is_piece_tag, valued, decoded_value}
use Rattle.redo_wire.proofs.Readers.{IsBytes}
use Rattle.redo_wire.proofs.FactReaders.{fact_reads}
use Rattle.redo_wire.proofs.SummaryReaders.{summary_reads}
use Rattle.redo_wire.proofs.DeltaReaders.{delta_reads}
use Rattle.redo_wire.proofs.PieceReaders.{piece_reads}
use Rattle.redo_wire.proofs.Encodings.{encoded_from_read, read_from_encoded}

valued_ok : {A : Type 0} (kind : A → WireValue) (r : Result A WireFault) (v : WireValue) → valued kind r ≡ Ok v → (x : A) × (r ≡ Ok x) × (kind x ≡ v)
valued_ok kind r v e = search rules

chosen : {A : Type 0} (b : Bool) (p q : Result A WireFault) (v : A) → cond b p q ≡ Ok v → (p ≡ Ok v) ⊎ (q ≡ Ok v)
chosen b p q v e = search rules

-- what is read from all of the bytes is encoded by them
pub value_from_read : (bytes : List ℕ) (v : WireValue) → IsBytes bytes → decoded_value bytes ≡ Ok v → EncodesValue v bytes
value_from_read [] v fits e = absurd cc
value_from_read (tag ∷ rest) v fits e =
    let bytes = tag ∷ rest in
    let fact = valued Fact (decoded_fact bytes) in
    let piece = valued Piece (decoded_piece bytes) in
    let delta = valued Delta (decoded_delta bytes) in
    ⊎_elim
    (λ (h : valued Summary (decoded_summary bytes) ≡ Ok v).
    let x = valued_ok Summary (decoded_summary bytes) v h in
    subst (λ (u : WireValue). EncodesValue u bytes) x.2 (encoded_from_read summary_at summary_bytes IsWireSummary summary_reads bytes x.0 fits x.1))
    (λ (h : cond (is_delta_tag tag) delta (cond (is_piece_tag tag) piece fact) ≡ Ok v).
    ⊎_elim
    (λ (g : delta ≡ Ok v).
    let x = valued_ok Delta (decoded_delta bytes) v g in
    subst (λ (u : WireValue). EncodesValue u bytes) x.2 (encoded_from_read delta_at delta_bytes IsWireDelta delta_reads bytes x.0 fits x.1))
    (λ (g : cond (is_piece_tag tag) piece fact ≡ Ok v).
    ⊎_elim
    (λ (f : piece ≡ Ok v).
    let x = valued_ok Piece (decoded_piece bytes) v f in
    subst (λ (u : WireValue). EncodesValue u bytes) x.2 (encoded_from_read piece_at piece_bytes IsWirePiece piece_reads bytes x.0 fits x.1))
    (λ (f : fact ≡ Ok v).
    let x = valued_ok Fact (decoded_fact bytes) v f in
    subst (λ (u : WireValue). EncodesValue u bytes) x.2 (encoded_from_read fact_at fact_bytes IsWireFact fact_reads bytes x.0 fits x.1))
    (chosen (is_piece_tag tag) piece fact v g))
    (chosen (is_delta_tag tag) delta (cond (is_piece_tag tag) piece fact) v h))
    (chosen (is_summary_tag tag) (valued Summary (decoded_summary bytes)) (cond (is_delta_tag tag) delta (cond (is_piece_tag tag) piece fact)) v e)

-- ---- the decoder that the first byte of an encoding names

summary_first : (many : Bool) (text : List ℕ)
    → decoded_value (form_bytes 16 32 many ++ text) ≡ valued Summary (decoded_summary (form_bytes 16 32 many ++ text))
summary_first many text = search rules

delta_first : (many : Bool) (text : List ℕ) → decoded_value (form_bytes 17 33 many ++ text) ≡ valued Delta (decoded_delta (form_bytes 17 33 many ++ text))
delta_first many text = search rules

piece_first : (many : Bool) (text : List ℕ) → decoded_value (form_bytes 18 34 many ++ text) ≡ valued Piece (decoded_piece (form_bytes 18 34 many ++ text))
piece_first many text = search rules

record_first : (full : Bool) (text : List ℕ) → decoded_value (form_bytes 1 6 full ++ text) ≡ valued Fact (decoded_fact (form_bytes 1 6 full ++ text))
record_first full text = search rules

fact_first : (f : fact.Fact) → decoded_value (fact_bytes f) ≡ valued Fact (decoded_fact (fact_bytes f))
fact_first f = search (rules, record_first)

-- what all of the bytes encode is read from them
pub value_from_encoded : (bytes : List ℕ) (v : WireValue) → EncodesValue v bytes → decoded_value bytes ≡ Ok v
value_from_encoded bytes (Summary s) encoded =
    let found = read_from_encoded summary_at summary_bytes IsWireSummary summary_reads (summary_bytes s) s (encoded.0, refl) in
    ap decoded_value encoded.1 ∙ summary_first (has_many s.book) (summary_part_bytes (has_many s.book) s) ∙ ap (valued Summary) found
value_from_encoded bytes (Delta d) encoded =
    let found = read_from_encoded delta_at delta_bytes IsWireDelta delta_reads (delta_bytes d) d (encoded.0, refl) in
    ap decoded_value encoded.1 ∙ delta_first (has_many d.book) (delta_part_bytes (has_many d.book) d) ∙ ap (valued Delta) found
value_from_encoded bytes (Piece p) encoded =
    let found = read_from_encoded piece_at piece_bytes IsWirePiece piece_reads (piece_bytes p) p (encoded.0, refl) in
    let many = is_for_many p.content in
    ap decoded_value encoded.1 ∙ piece_first many (piece_part_bytes many p) ∙ ap (valued Piece) found
value_from_encoded bytes (Fact f) encoded =
    let found = read_from_encoded fact_at fact_bytes IsWireFact fact_reads (fact_bytes f) f (encoded.0, refl) in
    ap decoded_value encoded.1 ∙ fact_first f ∙ ap (valued Fact) found

-- ---- a call that answers what reading gives

pub value_is_encoded : (bytes : List ℕ) (r : Result WireValue WireError) → IsBytes bytes → GivesRead r (decoded_value bytes) → IfOk r (λ v. EncodesValue v bytes)
value_is_encoded bytes r fits given = search (rules, value_from_read)

pub encoded_is_value : (bytes : List ℕ) (r : Result WireValue WireError) → GivesRead r (decoded_value bytes) → (v : WireValue) → EncodesValue v bytes
    → GivesRead r (Ok v)
encoded_is_value bytes r given v encoded = subst (λ (q : Result WireValue WireFault). GivesRead r q) (value_from_encoded bytes v encoded) given

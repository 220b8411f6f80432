-- Lines that begin with a word.
use Rattle.std.proofs.Common.{◌≡◌, ℕ, List, ◌∷◌, ◌++◌, codes, ap}
use Rattle.text.specs.Parts.{parts_at}
use Rattle.text.specs.Fields.{made_by}
use Rattle.script_text.specs.FactLine.{record_line, fact_line, fact_of}
use Rattle.script_text.specs.StepLine.{take_form, step_line, step_of}

-- a line that begins with the word of a record
pub record_parts : (line fields : List ℕ) → line ≡ codes "rec " ++ fields → parts_at 32 line ≡ codes "rec" ∷ parts_at 32 fields
record_parts line fields e = ap (parts_at 32) e

-- and with that of a take
pub take_parts : (line fields : List ℕ) → line ≡ codes "take " ++ fields → parts_at 32 line ≡ codes "take" ∷ parts_at 32 fields
take_parts line fields e = ap (parts_at 32) e

-- what is read of them
pub record_is_first : (line fields : List ℕ) → line ≡ codes "rec " ++ fields → fact_of line ≡ record_line (parts_at 32 fields)
unfolding fact_line
record_is_first line fields e = ap fact_line (record_parts line fields e)

pub take_is_first : (facts : ℕ) (line fields : List ℕ) → line ≡ codes "take " ++ fields → step_of facts line ≡ made_by (take_form facts) (parts_at 32 fields)
unfolding step_line
take_is_first facts line fields e = ap (step_line facts) (take_parts line fields e)

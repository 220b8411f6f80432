-- What the words of the command line ask for.
use Rattle.std.specs.Prelude.{ℕ, List, [], ◌∷◌, Option, Some, None, option_map, codes, if◌then◌else◌}
use Rattle.std.specs.Str.{bytes_eq}
use Rattle.text.specs.Number.{decimal_value}
use Rattle.node_stream.specs.GuardReading.{max_wide}
use Rattle.node_stream.specs.declared.job.Form.{Form}
use Rattle.node_stream.specs.declared.job.Form.TheVariants.{Lines, Frames}
use Rattle.node_stream.specs.declared.job.Job.{Job}
use Rattle.node_stream.specs.declared.job.Job.TheVariants.{Serve, Help, Version}

-- the one word after the program's name
abbrev pub named : List ℕ → Option Job
named word =
    if bytes_eq word (codes "--frames") then Some (Serve Frames 0)
    else if bytes_eq word (codes "--help") then Some Help
    else if bytes_eq word (codes "-h") then Some Help
    else if bytes_eq word (codes "--version") then Some Version
    else if bytes_eq word (codes "-V") then Some Version
    else None

-- a node of this birth
abbrev pub born : Form → List ℕ → List ℕ → Option Job
born form word number =
    if bytes_eq word (codes "--birth") then option_map (λ birth. Serve form birth) (decimal_value max_wide number) else None

-- the same after the word for frames
abbrev pub framed_born : List ℕ → List ℕ → List ℕ → Option Job
framed_born first word number = if bytes_eq first (codes "--frames") then born Frames word number else None

-- the program's name alone asks for answers to lines, of a node of birth 0
abbrev pub job_in : List (List ℕ) → Option Job
job_in (program ∷ []) = Some (Serve Lines 0)
job_in (program ∷ word ∷ []) = named word
job_in (program ∷ word ∷ number ∷ []) = born Lines word number
job_in (program ∷ first ∷ word ∷ number ∷ []) = framed_born first word number
job_in words = None

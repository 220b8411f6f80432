-- What the engine of the sample run emits: epoch 1, one mini-transaction, and an advance to its commit point once that is durable.
use Rattle.std.specs.Prelude.{ℕ, zero, suc, ◌≤◌, List, [], ◌∷◌, false, nat_lt, if◌then◌else◌}
use Rattle.redo_core.specs.Data.{RecordData, AdvanceData, record_with, advance_of, cut_of}
use Rattle.redo_core.specs.declared.facts.Fact.{Fact}
use Rattle.redo_core.specs.declared.facts.Fact.TheVariants.{Record, Advance}
use Rattle.volume_theorems.specs.Stopping.{FollowsUntil}
use Rattle.volume_theorems.specs.ByMoment.{IsDurableBy}
use Rattle.volume_theorems.specs.Sample.{sample_run}
use Rattle.volume_logs.specs.Histories.{History}
use Rattle.redo_writer.specs.Layout.{commit_patch, number_patch}
use Rattle.volume_logs.specs.Emitting.{IsEmitted}
use Rattle.volume_logs.specs.Readers.{IsCounted}

-- the record of page 0, whose number is the commit point
abbrev pub sample_record : RecordData
sample_record = record_with 1 7 0 0 0 false (commit_patch 2 1 [] ∷ number_patch 7 ∷ [])

abbrev pub sample_advance : AdvanceData
sample_advance = advance_of 1 1 7

-- the record before moment 6, and the advance before moment 8
abbrev pub sample_facts : ℕ → List Fact
sample_facts t =
    if nat_lt t 6 then []
    else if nat_lt t 8 then Record sample_record ∷ []
    else Record sample_record ∷ Advance sample_advance ∷ []

abbrev pub sample_written : ℕ → ℕ → List Fact
sample_written t zero = []
sample_written t (suc zero) = sample_facts t
sample_written t (suc (suc k)) = []

abbrev pub sample_history : History
sample_history = record {
  readers = 1;
  cuts = λ k. cut_of k 0 6;
  newest = λ t. if nat_lt t 5 then 0 else 1;
  written = sample_written;
}

-- The rules about what is emitted can be kept, with a record and an advance to a point that is durable, at which a reader counts the node.
abbrev pub SomeHistory : Type 0
SomeHistory =
    (stop : ℕ) → 8 ≤ stop
    → FollowsUntil sample_run stop × IsEmitted sample_run sample_history stop × IsDurableBy sample_run stop 0 1 7
    × IsCounted sample_run sample_history 7 0 1 7

-- A run with two engines: the second one opens epoch 2 and writes, and then the first one, which knows nothing of it, writes once more.
use Rattle.std.specs.Prelude.{◌≡◌, ℕ, zero, suc, List, [], ◌∷◌, true, false, Some, None, nat_lt, if◌then◌else◌}
use Rattle.redo_core.specs.Data.{RecordData, CutData, record_with, cut_of}
use Rattle.redo_core.specs.declared.facts.Fact.{Fact}
use Rattle.redo_core.specs.declared.facts.Fact.TheVariants.{Record, Cut}
use Rattle.volume_theorems.specs.Nodes.{Content, VolumeNode, volume_node}
use Rattle.volume_theorems.specs.Runs.{Engine, Move, VolumeRun}
use Rattle.volume_theorems.specs.Runs.Move.{Rests, Learns, IsCreated, IsFenced, Accepts}
use Rattle.volume_theorems.specs.Stopping.{FollowsUntil}
use Rattle.volume_theorems.specs.Sample.{sample_cut, content_of, member_with, voter_with, nothing, is_zero, sample_engine}
use Rattle.volume_logs.specs.Histories.{History, log_at}
use Rattle.redo_writer.specs.Layout.{commit_patch, number_patch}
use Rattle.volume_logs.specs.Emitting.{IsEmitted}
use Rattle.volume_logs.specs.Sample.{sample_record}

-- the second engine keeps commit point 7
abbrev pub later_cut : CutData
later_cut = cut_of 2 7 20

abbrev pub later_engine : Engine
later_engine = record {
  generation = 3;
  quorum = is_zero;
  fenced = λ i. 7;
  gathered = 8;
  cuts = λ epoch. cut_of epoch 7 20;
  opens = 2;
}

abbrev pub two_engines : ℕ → Engine
two_engines zero = sample_engine
two_engines (suc e) = later_engine

abbrev pub two_moves : ℕ → Move
two_moves zero = IsCreated
two_moves (suc zero) = IsFenced 0
two_moves (suc (suc zero)) = Rests
two_moves (suc (suc (suc zero))) = Rests
two_moves (suc (suc (suc (suc zero)))) = Accepts 0 1
two_moves (suc (suc (suc (suc (suc zero))))) = Learns
two_moves (suc (suc (suc (suc (suc (suc zero)))))) = Learns
two_moves (suc (suc (suc (suc (suc (suc (suc zero))))))) = IsFenced 1
two_moves (suc (suc (suc (suc (suc (suc (suc (suc zero)))))))) = Rests
two_moves (suc (suc (suc (suc (suc (suc (suc (suc (suc zero))))))))) = Rests
two_moves (suc (suc (suc (suc (suc (suc (suc (suc (suc (suc zero)))))))))) = Accepts 1 2
two_moves (suc (suc (suc (suc (suc (suc (suc (suc (suc (suc (suc zero))))))))))) = Learns
two_moves (suc (suc (suc (suc (suc (suc (suc (suc (suc (suc (suc (suc t)))))))))))) = Rests

abbrev pub committed : Content
committed = content_of 1 (0 ∷ 7 ∷ []) (sample_cut ∷ [])

abbrev pub reopened : Content
reopened = content_of 2 (0 ∷ 7 ∷ []) (sample_cut ∷ later_cut ∷ [])

-- a member of generation 3 with the vote for the truncation, of this generation
abbrev pub third_with : ℕ → CutData → Content → VolumeNode
third_with generation cut content = volume_node 0 true 3 (Some (record { generation = generation; cut = cut })) content

abbrev pub two_node : ℕ → VolumeNode
two_node zero = volume_node 0 false 0 None nothing
two_node (suc zero) = member_with 1 nothing
two_node (suc (suc zero)) = member_with 2 nothing
two_node (suc (suc (suc zero))) = member_with 2 nothing
two_node (suc (suc (suc (suc zero)))) = member_with 2 nothing
two_node (suc (suc (suc (suc (suc zero))))) = voter_with nothing
two_node (suc (suc (suc (suc (suc (suc zero)))))) = voter_with (content_of 1 (0 ∷ []) (sample_cut ∷ []))
two_node (suc (suc (suc (suc (suc (suc (suc zero))))))) = voter_with committed
two_node (suc (suc (suc (suc (suc (suc (suc (suc zero)))))))) = third_with 2 sample_cut committed
two_node (suc (suc (suc (suc (suc (suc (suc (suc (suc zero))))))))) = third_with 2 sample_cut committed
two_node (suc (suc (suc (suc (suc (suc (suc (suc (suc (suc zero)))))))))) = third_with 2 sample_cut committed
two_node (suc (suc (suc (suc (suc (suc (suc (suc (suc (suc (suc zero))))))))))) = third_with 3 later_cut committed
two_node (suc (suc (suc (suc (suc (suc (suc (suc (suc (suc (suc (suc t)))))))))))) = third_with 3 later_cut reopened

abbrev pub two_nodes : ℕ → ℕ → VolumeNode
two_nodes t zero = two_node t
two_nodes t (suc i) = two_node 0

abbrev pub two_run : VolumeRun
two_run = record {
  roster = 1;
  quorum = 1;
  engines = two_engines;
  actor = λ t. 0;
  moves = two_moves;
  nodes = two_nodes;
}

-- ---- what is emitted
-- the first engine's second record, and the second engine's first one: both link to commit point 7
abbrev pub old_record : RecordData
old_record = record_with 1 8 7 0 7 false (commit_patch 2 1 [] ∷ number_patch 8 ∷ [])

abbrev pub new_record : RecordData
new_record = record_with 2 21 7 0 7 false (commit_patch 3 2 [] ∷ number_patch 21 ∷ [])

abbrev pub two_cuts : ℕ → CutData
two_cuts zero = cut_of 0 0 6
two_cuts (suc zero) = sample_cut
two_cuts (suc (suc k)) = cut_of (suc (suc k)) 7 20

abbrev pub old_facts : ℕ → List Fact
old_facts t =
    if nat_lt t 6 then []
    else if nat_lt t 13 then Record sample_record ∷ []
    else Record sample_record ∷ Record old_record ∷ []

abbrev pub new_facts : ℕ → List Fact
new_facts t = if nat_lt t 12 then [] else Record new_record ∷ []

abbrev pub two_written : ℕ → ℕ → List Fact
two_written t zero = []
two_written t (suc zero) = old_facts t
two_written t (suc (suc zero)) = new_facts t
two_written t (suc (suc (suc k))) = []

abbrev pub two_history : History
two_history = record {
  readers = 1;
  cuts = two_cuts;
  newest = λ t. if nat_lt t 5 then 0 else if nat_lt t 11 then 1 else 2;
  written = two_written;
}

-- The rules can be kept while an engine of an earlier epoch still writes: here its record comes after one of the later epoch.
abbrev pub TwoWriters : Type 0
TwoWriters =
    (stop : ℕ)
    → FollowsUntil two_run stop × IsEmitted two_run two_history stop
    × (log_at two_history 12 ≡ Cut sample_cut ∷ Record sample_record ∷ Cut later_cut ∷ Record new_record ∷ [])
    × (log_at two_history 13 ≡ Cut sample_cut ∷ Record sample_record ∷ Record old_record ∷ Cut later_cut ∷ Record new_record ∷ [])

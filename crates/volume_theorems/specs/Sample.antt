-- A run that follows the rules: one node, which is a quorum by itself, and one engine that opens epoch 1 and makes commit point 7 durable.
use Rattle.std.specs.Prelude.{ℕ, zero, suc, Bool, true, false, List, [], ◌∷◌, Some, None}
use Rattle.redo_core.specs.Data.{CutData, cut_of}
use Rattle.volume_theorems.specs.Nodes.{Content, VolumeNode, volume_node}
use Rattle.volume_theorems.specs.Runs.{Engine, Move, VolumeRun}
use Rattle.volume_theorems.specs.Runs.Move.{Rests, Learns, IsCreated, IsFenced, Accepts}
use Rattle.volume_theorems.specs.Protocol.{FollowsProtocol}
use Rattle.volume_theorems.specs.Lasting.{IsDurable}

-- the truncation of epoch 1: nothing is kept, and numbers up to 6 are not used again
abbrev pub sample_cut : CutData
sample_cut = cut_of 1 0 6

abbrev pub content_of : ℕ → List ℕ → List CutData → Content
content_of epoch points cuts = record { epoch = epoch; points = points; cuts = cuts }

abbrev pub member_with : ℕ → Content → VolumeNode
member_with generation content = volume_node 0 true generation None content

-- a member of generation 2 that has accepted the truncation
abbrev pub voter_with : Content → VolumeNode
voter_with content = volume_node 0 true 2 (Some (record { generation = 2; cut = sample_cut })) content

abbrev pub sample_moves : ℕ → Move
sample_moves zero = IsCreated
sample_moves (suc zero) = IsFenced 0
sample_moves (suc (suc zero)) = Rests
sample_moves (suc (suc (suc zero))) = Rests
sample_moves (suc (suc (suc (suc zero)))) = Accepts 0 1
sample_moves (suc (suc (suc (suc (suc zero))))) = Learns
sample_moves (suc (suc (suc (suc (suc (suc zero)))))) = Learns
sample_moves (suc (suc (suc (suc (suc (suc (suc t))))))) = Rests

abbrev pub nothing : Content
nothing = content_of 0 (0 ∷ []) []

-- node 0 at each moment
abbrev pub sample_node : ℕ → VolumeNode
sample_node zero = volume_node 0 false 0 None nothing
sample_node (suc zero) = member_with 1 nothing
sample_node (suc (suc zero)) = member_with 2 nothing
sample_node (suc (suc (suc zero))) = member_with 2 nothing
sample_node (suc (suc (suc (suc zero)))) = member_with 2 nothing
sample_node (suc (suc (suc (suc (suc zero))))) = voter_with nothing
sample_node (suc (suc (suc (suc (suc (suc zero)))))) = voter_with (content_of 1 (0 ∷ []) (sample_cut ∷ []))
sample_node (suc (suc (suc (suc (suc (suc (suc t))))))) = voter_with (content_of 1 (0 ∷ 7 ∷ []) (sample_cut ∷ []))

abbrev pub is_zero : ℕ → Bool
is_zero zero = true
is_zero (suc i) = false

-- it was fenced at moment 1, has asked at moment 2, and proposes from moment 4 on
abbrev pub sample_engine : Engine
sample_engine = record {
  generation = 2;
  quorum = is_zero;
  fenced = λ i. 1;
  gathered = 2;
  cuts = λ epoch. cut_of epoch 0 6;
  opens = 1;
}

abbrev pub sample_nodes : ℕ → ℕ → VolumeNode
sample_nodes t zero = sample_node t
sample_nodes t (suc i) = sample_node 0

abbrev pub sample_run : VolumeRun
sample_run = record {
  roster = 1;
  quorum = 1;
  engines = λ e. sample_engine;
  actor = λ t. 0;
  moves = sample_moves;
  nodes = sample_nodes;
}

-- The rules can be followed.
abbrev pub SomeRun : Type 0
SomeRun = FollowsProtocol sample_run × IsDurable sample_run 0 1 7

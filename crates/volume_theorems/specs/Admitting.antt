-- A run with an admission: three nodes, of which two are a quorum. Engine 0 opens epoch 1 with nodes 0 and 1, and makes commit point 7 durable.
-- Node 1 comes back with nothing. Engine 1 recovers from nodes 0 and 2, admits node 1 in its new birth, and opens epoch 2 with nodes 0 and 1.
use Rattle.std.specs.Prelude.{ℕ, zero, suc, Bool, true, false, List, [], ◌∷◌, Option, Some, None, ◌==◌, if◌then◌else◌}
use Rattle.redo_core.specs.Data.{CutData, cut_of}
use Rattle.volume_theorems.specs.Nodes.{Content, Vote, VolumeNode, volume_node}
use Rattle.volume_theorems.specs.Runs.{Engine, Move, VolumeRun, MakesMove}
use Rattle.volume_theorems.specs.Runs.Move.{Rests, ComesFresh, Learns, IsCreated, IsFenced, Accepts, IsAdmitted}
use Rattle.volume_theorems.specs.Protocol.{FollowsProtocol}
use Rattle.volume_theorems.specs.Choosing.{HasOpened}
use Rattle.volume_theorems.specs.Lasting.{IsDurable}
use Rattle.volume_theorems.specs.Sample.{sample_cut, content_of, nothing}

-- ---- moves
-- the node makes the move, and is this after it
pub record MoveMade : Type 0 where
  pub actor : ℕ
  pub move : Move
  pub node : VolumeNode

abbrev pub as_move : ℕ → Move → VolumeNode → MoveMade
as_move actor move node = record { actor = actor; move = move; node = node }

-- the truncation of epoch 2: it keeps the durable commit point
abbrev pub next_cut : CutData
next_cut = cut_of 2 7 9

abbrev pub kept_content : Content
kept_content = content_of 1 (0 ∷ 7 ∷ []) (sample_cut ∷ [])

abbrev pub first_vote : Option Vote
first_vote = Some (record { generation = 2; cut = sample_cut })

abbrev pub next_vote : Option Vote
next_vote = Some (record { generation = 3; cut = next_cut })

abbrev pub member_of : ℕ → ℕ → Option Vote → Content → VolumeNode
member_of birth generation accepted content = volume_node birth true generation accepted content

abbrev pub fresh_with : ℕ → Content → VolumeNode
fresh_with birth content = volume_node birth false 0 None content

abbrev pub admitting_moves : List MoveMade
admitting_moves =
    as_move 0 IsCreated (member_of 0 1 None nothing) ∷ as_move 1 IsCreated (member_of 0 1 None nothing) ∷ as_move 2 IsCreated (member_of 0 1 None nothing)
    -- engine 0, from moment 3 on
    ∷ as_move 0 (IsFenced 0) (member_of 0 2 None nothing) ∷ as_move 1 (IsFenced 0) (member_of 0 2 None nothing)
    ∷ as_move 0 Rests (member_of 0 2 None nothing) ∷ as_move 0 Rests (member_of 0 2 None nothing)
    ∷ as_move 0 (Accepts 0 1) (member_of 0 2 first_vote nothing) ∷ as_move 1 (Accepts 0 1) (member_of 0 2 first_vote nothing)
    ∷ as_move 0 Learns (member_of 0 2 first_vote kept_content) ∷ as_move 1 Learns (member_of 0 2 first_vote kept_content)
    -- node 1 loses its files at moment 11
    ∷ as_move 1 ComesFresh (fresh_with 1 nothing)
    -- engine 1, from moment 12 on
    ∷ as_move 0 (IsFenced 1) (member_of 0 3 first_vote kept_content) ∷ as_move 2 (IsFenced 1) (member_of 0 3 None nothing)
    ∷ as_move 0 Rests (member_of 0 3 first_vote kept_content) ∷ as_move 2 Learns (member_of 0 3 None kept_content)
    ∷ as_move 1 Learns (fresh_with 1 kept_content) ∷ as_move 1 (IsAdmitted 1) (member_of 1 3 first_vote kept_content)
    ∷ as_move 0 (Accepts 1 2) (member_of 0 3 next_vote kept_content) ∷ as_move 1 (Accepts 1 2) (member_of 1 3 next_vote kept_content) ∷ []

-- the move of the moment, if there is one
abbrev pub move_at : List MoveMade → ℕ → Option MoveMade
move_at [] t = None
move_at (m ∷ moves) zero = Some m
move_at (m ∷ moves) (suc t) = move_at moves t

abbrev pub actor_of : Option MoveMade → ℕ
actor_of None = 0
actor_of (Some m) = m.actor

abbrev pub move_of : Option MoveMade → Move
move_of None = Rests
move_of (Some m) = m.move

abbrev pub after_move : Option MoveMade → ℕ → VolumeNode → VolumeNode
after_move None i old = old
after_move (Some m) i old = if m.actor == i then m.node else old

abbrev pub admitting_nodes : ℕ → ℕ → VolumeNode
admitting_nodes zero i = fresh_with 0 nothing
admitting_nodes (suc t) i = after_move (move_at admitting_moves t) i (admitting_nodes t i)

-- ---- engines
abbrev pub is_low : ℕ → Bool
is_low zero = true
is_low (suc zero) = true
is_low (suc (suc i)) = false

abbrev pub is_end : ℕ → Bool
is_end zero = true
is_end (suc zero) = false
is_end (suc (suc zero)) = true
is_end (suc (suc (suc i))) = false

abbrev pub first_fenced : ℕ → ℕ
first_fenced zero = 3
first_fenced (suc i) = 4

abbrev pub next_fenced : ℕ → ℕ
next_fenced zero = 12
next_fenced (suc i) = 13

abbrev pub admitting_engine : ℕ → Engine
admitting_engine zero =
    record { generation = 2; quorum = is_low; fenced = first_fenced; gathered = 5; cuts = λ epoch. cut_of epoch 0 6; opens = 1 }
admitting_engine (suc e) =
    record { generation = 3; quorum = is_end; fenced = next_fenced; gathered = 14; cuts = λ epoch. cut_of epoch 7 9; opens = 2 }

abbrev pub admitting_run : VolumeRun
admitting_run = record {
  roster = 3;
  quorum = 2;
  engines = admitting_engine;
  actor = λ t. actor_of (move_at admitting_moves t);
  moves = λ t. move_of (move_at admitting_moves t);
  nodes = admitting_nodes;
}

-- The rules can be followed where a node is admitted, and then makes an opening's quorum.
abbrev pub SomeAdmission : Type 0
SomeAdmission =
    FollowsProtocol admitting_run × MakesMove admitting_run 17 1 (IsAdmitted 1) × IsDurable admitting_run 0 1 7 × HasOpened admitting_run 1 2

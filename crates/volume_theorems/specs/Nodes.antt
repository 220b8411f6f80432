-- A node of a volume: what its guard keeps, and what its segment has.
use Rattle.std.specs.Prelude.{◌≡◌, ℕ, ◌<◌, ◌≤◌, ◌⊎◌, Bool, List, [], ◌∷◌, Option, Some, None, IsTrue}
use Rattle.std.specs.List.{Contains}
use Rattle.redo_core.specs.Data.{CutData}

-- What a segment has: its complete epoch, its commit points in the view of that epoch, at or below its complete point, and its truncations.
-- The point 0, at which nothing has been committed yet, counts as a commit point of each.
pub record Content : Type 0 where
  pub epoch : ℕ
  pub points : List ℕ
  pub cuts : List CutData

-- a truncation that was accepted, and the generation that it was proposed under
pub record Vote : Type 0 where
  pub generation : ℕ
  pub cut : CutData

pub record VolumeNode : Type 0 where
  pub birth : ℕ
  pub is_member : Bool
  pub generation : ℕ
  pub accepted : Option Vote
  pub content : Content

-- a node that came back with nothing
pub record HasNothing (n : VolumeNode) : Type 0 where
  pub member : ¬ (IsTrue n.is_member)
  pub generation : n.generation ≡ 0
  pub accepted : n.accepted ≡ None
  pub epoch : n.content.epoch ≡ 0
  pub points : n.content.points ≡ 0 ∷ []
  pub cuts : n.content.cuts ≡ []

-- the node is a member of just this generation
abbrev pub IsOfGeneration : VolumeNode → ℕ → Type 0
IsOfGeneration n generation = IsTrue n.is_member × (n.generation ≡ generation)

-- ---- orders
-- The first vote is at or below the second one, by generation and then by epoch, or there is none.
abbrev pub VoteUpTo : Option Vote → Option Vote → Type 0
VoteUpTo None after = Unit {0}
VoteUpTo (Some before) None = ⊥
VoteUpTo (Some before) (Some after) =
    (before.generation < after.generation)
    ⊎ ((before.generation ≡ after.generation) × (before.cut.epoch ≤ after.cut.epoch))

-- More facts of one log: the epoch does not fall, no truncation goes, and no commit point but those that a truncation since then annuls.
pub record GrowsTo (old new : Content) : Type 0 where
  pub epoch : old.epoch ≤ new.epoch
  pub cuts : (c : CutData) → Contains old.cuts c → Contains new.cuts c
  pub points : (p : ℕ) → Contains old.points p
      → ((c : CutData) → Contains new.cuts c → old.epoch < c.epoch → c.epoch ≤ new.epoch → p ≤ c.lo) → Contains new.points p

-- ---- what a move changes
abbrev pub volume_node : ℕ → Bool → ℕ → Option Vote → Content → VolumeNode
volume_node birth is_member generation accepted content =
    record { birth = birth; is_member = is_member; generation = generation; accepted = accepted; content = content }

abbrev pub with_content : VolumeNode → Content → VolumeNode
with_content n content = volume_node n.birth n.is_member n.generation n.accepted content

abbrev pub with_generation : VolumeNode → ℕ → VolumeNode
with_generation n generation = volume_node n.birth n.is_member generation n.accepted n.content

abbrev pub with_vote : VolumeNode → ℕ → CutData → VolumeNode
with_vote n generation cut =
    volume_node n.birth n.is_member n.generation (Some (record { generation = generation; cut = cut })) n.content

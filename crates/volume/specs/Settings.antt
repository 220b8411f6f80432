-- The settings of a volume.
use Rattle.std.specs.Prelude.{ℕ, ◌<◌, ◌≤◌, ◌+◌}

-- how many readers the log has, how many nodes the volume, and how many of them a write quorum takes
pub record SettingsData : Type 0 where
  pub roster : ℕ
  pub nodes : ℕ
  pub quorum : ℕ

abbrev pub settings_of : ℕ → ℕ → ℕ → SettingsData
settings_of roster nodes quorum = record { roster = roster; nodes = nodes; quorum = quorum }

-- two quorums have a node in common
pub record IsSettings (nodes quorum : ℕ) : Type 0 where
  pub some : 0 < nodes
  pub most : nodes ≤ 15
  pub within : quorum ≤ nodes
  pub meet : nodes < quorum + quorum

-- A volume's machine as contracts see it.
use Rattle.std.specs.Prelude.{ℕ}
use Rattle.volume.specs.declared.phases.Phase.{Phase}
use Rattle.volume.specs.Settings.{SettingsData}

-- the settings, the generation of the last opening or creation, and what the machine is at
pub record VolumeData : Type 0 where
  pub settings : SettingsData
  pub generation : ℕ
  pub phase : Phase

abbrev pub volume_of : SettingsData → ℕ → Phase → VolumeData
volume_of settings generation phase = record { settings = settings; generation = generation; phase = phase }

-- the machine in another phase
abbrev pub at_phase : VolumeData → Phase → VolumeData
at_phase v phase = volume_of v.settings v.generation phase

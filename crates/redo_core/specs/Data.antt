-- Facts as contracts see them: plain data.
use Rattle.std.specs.Prelude.{ℕ, Bool, false, List, map}
use Rattle.redo_core.specs.Writes.{WriteData}
use Rattle.redo_core.specs.declared.patches.Patch.{Patch}
use Rattle.redo_core.specs.declared.patches.Patch.TheVariants.{Bytes}

-- A redo record. Its key is (epoch, number), where number is the LSN; `back` is its segment backlink, `block_back` its block
-- backlink. With `init` its page starts from zeros.
pub record RecordData : Type 0 where
  pub epoch : ℕ
  pub number : ℕ
  pub back : ℕ
  pub page : ℕ
  pub block_back : ℕ
  pub init : Bool
  pub patches : List Patch

-- A truncation: with it its epoch begins. It annuls what earlier epochs have above `lo`; its own epoch's LSNs are above `hi`.
pub record CutData : Type 0 where
  pub epoch : ℕ
  pub lo : ℕ
  pub hi : ℕ

-- an advance of a reader's point
pub record AdvanceData : Type 0 where
  pub epoch : ℕ
  pub reader : ℕ
  pub point : ℕ

abbrev pub record_with : ℕ → ℕ → ℕ → ℕ → ℕ → Bool → List Patch → RecordData
record_with epoch number back page block_back init patches = record {
  epoch = epoch;
  number = number;
  back = back;
  page = page;
  block_back = block_back;
  init = init;
  patches = patches;
}

-- writes alone
abbrev pub plain : List WriteData → List Patch
plain writes = map Bytes writes

-- a record of writes alone
abbrev pub record_of : ℕ → ℕ → ℕ → ℕ → ℕ → List WriteData → RecordData
record_of epoch number back page block_back writes = record_with epoch number back page block_back false (plain writes)

abbrev pub cut_of : ℕ → ℕ → ℕ → CutData
cut_of epoch lo hi = record { epoch = epoch; lo = lo; hi = hi }

abbrev pub advance_of : ℕ → ℕ → ℕ → AdvanceData
advance_of epoch reader point = record { epoch = epoch; reader = reader; point = point }

-- Books: the part that summaries, deltas and heads of pieces share. Which have bytes, and the one encoding of each.
use Rattle.std.specs.Prelude.{ℕ, ◌<◌, ◌^◌, Bool, List, ◌++◌, length, nat_le, ◌||◌}
use Rattle.std.specs.List.{AllByRecursion, flat_map}
use Rattle.redo_core.specs.Book.{BookData, IsBook}
use Rattle.redo_wire.specs.Limits.{count16_end, count32_end}
use Rattle.redo_wire.specs.Fields.{u16, u32, u48}
use Rattle.redo_wire.specs.Forms.{byte_in}
use Rattle.redo_wire.specs.Facts.{IsWireAdvance, cut_bytes, advance_bytes}

-- ---- which have bytes

-- A book, whose waiting advances have the fields that their type holds, and whose lists are no longer than their count fields hold.
pub record IsWireBook (b : BookData) : Type 0 where
  pub shape : IsBook b
  pub each_wait : AllByRecursion IsWireAdvance b.waits
  pub cut_count : length b.cuts < 2 ^ 16
  pub wait_count : length b.waits < 2 ^ 32

-- a list is longer than its count field holds
abbrev pub is_long_book : BookData → Bool
is_long_book b = nat_le count16_end (length b.cuts) || nat_le count32_end (length b.waits)

-- ---- encoding

-- the points; for several readers their count comes before them
abbrev pub points_bytes : Bool → List ℕ → List ℕ
points_bytes many points = byte_in many (length points) ++ flat_map u48 points

-- a book in the form for one reader or for several; the complete epoch has no bytes, for it follows from the truncations
abbrev pub book_bytes : Bool → BookData → List ℕ
book_bytes many b =
    u16 (length b.cuts) ++ flat_map cut_bytes b.cuts ++ points_bytes many b.points ++ u32 (length b.waits) ++ flat_map (advance_bytes many) b.waits

-- Reading books. The order of the lines is the order of the faults.
use Rattle.std.specs.Prelude.{ℕ, ◌+◌, Bool, List, [], ◌∷◌, Ok, nat_lt, ◌==◌, if◌then◌else◌}
use Rattle.redo_core.specs.Data.{CutData, AdvanceData}
use Rattle.redo_core.specs.Book.{BookData, book_of}
use Rattle.redo_core.specs.Shape.{max_readers}
use Rattle.redo_wire.specs.Reading.{◌>>=◌, Read, ordered}
use Rattle.redo_wire.specs.Fields.{u16_at, u32_at, u48_at}
use Rattle.redo_wire.specs.Lists.{each_at}
use Rattle.redo_wire.specs.Places.{WaitPlace, is_wait_above}
use Rattle.redo_wire.specs.Forms.{within_at}
use Rattle.redo_wire.specs.FactReading.{cut_at, advance_at}

-- the complete epoch of truncations that rise from above k, where those up to k are known
abbrev pub complete_from : ℕ → List CutData → ℕ
complete_from k [] = k
complete_from k (c ∷ cs) = if c.epoch == k + 1 then complete_from (k + 1) cs else k

-- the complete epoch of truncations that rise
abbrev pub complete : List CutData → ℕ
complete cs = complete_from 0 cs

abbrev pub cut_epoch : ℕ → CutData → ℕ
cut_epoch last c = c.epoch

-- a truncation after one of the epoch `last`
abbrev pub next_cut_at : ℕ → List ℕ → Read CutData
next_cut_at last bytes = ordered (λ c. nat_lt last c.epoch) (cut_at bytes)

-- a reader's point, whatever the one before it
abbrev pub next_point_at : ℕ → List ℕ → Read ℕ
next_point_at last bytes = u48_at bytes

abbrev pub last_point : ℕ → ℕ → ℕ
last_point last p = p

abbrev pub wait_place : WaitPlace → AdvanceData → WaitPlace
wait_place last a = (a.epoch, a.reader, a.point)

-- an advance that waits while k is the complete epoch, of one of so many readers, after one at the position `last`
abbrev pub next_wait_at : Bool → ℕ → ℕ → WaitPlace → List ℕ → Read AdvanceData
next_wait_at many k readers last bytes = ordered (λ a. is_wait_above last (a.epoch, a.reader, a.point)) (advance_at many (k + 1) 1 readers bytes)

-- a book in the form for one reader or for several, with the complete epoch of its truncations
unfoldable pub book_at : Bool → List ℕ → Read BookData
book_at many bytes = do
  cut_count ← u16_at bytes
  cuts ← each_at next_cut_at cut_epoch cut_count.0 0 cut_count.1
  readers ← within_at many 1 2 max_readers cuts.1
  points ← each_at next_point_at last_point readers.0 0 readers.1
  wait_count ← u32_at points.1
  waits ← each_at (next_wait_at many (complete cuts.0) readers.0) wait_place wait_count.0 (0, 0, 0) wait_count.1
  Ok (book_of cuts.0 (complete cuts.0) points.0 waits.0, waits.1)

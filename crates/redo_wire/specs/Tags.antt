-- The first byte of each form, and the kinds of patches and pieces. A further form takes a tag of its own here; every other byte is unknown.
use Rattle.std.specs.Prelude.{ℕ}

-- records: of writes alone, and with flags and kinds of patches
abbrev pub record_tag : ℕ
record_tag = 1

abbrev pub full_record_tag : ℕ
full_record_tag = 6

abbrev pub cut_tag : ℕ
cut_tag = 2

-- advances: of reader 1, and of the others
abbrev pub advance_tag : ℕ
advance_tag = 3

abbrev pub reader_advance_tag : ℕ
reader_advance_tag = 5

-- summaries: for a roster of one reader, and of more
abbrev pub summary_tag : ℕ
summary_tag = 16

abbrev pub roster_summary_tag : ℕ
roster_summary_tag = 32

-- deltas: the same
abbrev pub delta_tag : ℕ
delta_tag = 17

abbrev pub roster_delta_tag : ℕ
roster_delta_tag = 33

-- pieces of snapshots: the head for a roster of more than one reader, and every other
abbrev pub piece_tag : ℕ
piece_tag = 18

abbrev pub roster_piece_tag : ℕ
roster_piece_tag = 34

-- ---- kinds of patches

abbrev pub bytes_kind : ℕ
bytes_kind = 0

abbrev pub fill_kind : ℕ
fill_kind = 1

-- ---- kinds of pieces

abbrev pub head_kind : ℕ
head_kind = 0

abbrev pub page_kind : ℕ
page_kind = 1

abbrev pub records_kind : ℕ
records_kind = 2

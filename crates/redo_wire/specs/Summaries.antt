-- Summaries: which have bytes, and the one encoding of each.
use Rattle.std.specs.Prelude.{◌≡◌, ℕ, ◌<◌, ◌^◌, Bool, List, ◌++◌, length, nat_le, ◌||◌}
use Rattle.std.specs.List.{AllByRecursion, flat_map}
use Rattle.messages.specs.Books.{has_many}
use Rattle.messages.specs.Summaries.{SummaryData, IsSummary}
use Rattle.redo_wire.specs.Fields.{u16, u32, u48}
use Rattle.redo_wire.specs.Limits.{count32_end}
use Rattle.redo_wire.specs.Tags.{summary_tag, roster_summary_tag}
use Rattle.redo_wire.specs.Forms.{form_bytes}
use Rattle.redo_wire.specs.Books.{IsWireBook, is_long_book, book_bytes}
use Rattle.redo_core.specs.declared.keys.Key.{Key}

-- Its elements have the fields that their types hold, and its lists are no longer than their count fields hold.
pub record IsWireSummary (s : SummaryData) : Type 0 where
  pub shape : IsSummary s
  pub book : IsWireBook s.book
  pub each_key : AllByRecursion (λ k. k.epoch < 2 ^ 16) s.keys
  pub key_count : length s.keys < 2 ^ 32

-- a list is longer than its count field holds
abbrev pub is_long_summary : SummaryData → Bool
is_long_summary s = is_long_book s.book || nat_le count32_end (length s.keys)

-- ---- encoding

abbrev pub key_bytes : Key → List ℕ
key_bytes k = u16 k.epoch ++ u48 k.number

-- a summary after its tag, in the form for one reader or for several
abbrev pub summary_part_bytes : Bool → SummaryData → List ℕ
summary_part_bytes many s = book_bytes many s.book ++ u48 s.anchor ++ u32 (length s.keys) ++ flat_map key_bytes s.keys

abbrev pub summary_bytes : SummaryData → List ℕ
summary_bytes s = form_bytes summary_tag roster_summary_tag (has_many s.book) ++ summary_part_bytes (has_many s.book) s

-- the bytes encode the summary
abbrev pub EncodesSummary : SummaryData → List ℕ → Type 0
EncodesSummary s bytes = IsWireSummary s × (bytes ≡ summary_bytes s)

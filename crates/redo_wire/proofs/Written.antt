-- What is appended piece by piece, and lists that are no longer than their count fields hold.
use Rattle.std.proofs.Common.{◌≡◌, ◌<◌, ◌^◌, ◌||◌, ℕ, false, nat_le, List, ◌++◌, length, refl, append_assoc}
use Rattle.std.proofs.lemmas.Bool.{leb-false, or_parts}
use Rattle.messages.specs.Summaries.{SummaryData}
use Rattle.messages.specs.Deltas.{DeltaData}
use Rattle.redo_core.specs.Book.{BookData}
use Rattle.redo_wire.specs.Limits.{count16_end, count32_end}
use Rattle.redo_wire.specs.Books.{is_long_book}
use Rattle.redo_wire.specs.Summaries.{is_long_summary}
use Rattle.redo_wire.specs.Deltas.{is_long_delta}

pub delta_behind : (out form a b c d e f : List ℕ) → out ++ form ++ a ++ b ++ c ++ d ++ e ++ f ≡ out ++ (form ++ (a ++ b ++ c ++ d ++ e ++ f))
delta_behind out form a b c d e f = simp append_assoc refl

pub few_in_book : (b : BookData) → is_long_book b ≡ false → (length b.cuts < 2 ^ 16) × (length b.waits < 2 ^ 32)
few_in_book b few =
    let parts = or_parts (nat_le count16_end (length b.cuts)) (nat_le count32_end (length b.waits)) few in
    (leb-false count16_end (length b.cuts) parts.0, leb-false count32_end (length b.waits) parts.1)

pub few_in_summary : (s : SummaryData) → is_long_summary s ≡ false → length s.keys < 2 ^ 32
few_in_summary s few =
    let parts = or_parts (is_long_book s.book) (nat_le count32_end (length s.keys)) few in
    leb-false count32_end (length s.keys) parts.1

pub few_in_delta : (d : DeltaData) → is_long_delta d ≡ false → (length d.pages < 2 ^ 32) × (length d.records < 2 ^ 32)
few_in_delta d few =
    let parts = or_parts (is_long_book d.book || nat_le count32_end (length d.pages)) (nat_le count32_end (length d.records)) few in
    let pages = or_parts (is_long_book d.book) (nat_le count32_end (length d.pages)) parts.0 in
    (leb-false count32_end (length d.pages) pages.1, leb-false count32_end (length d.records) parts.1)

-- Values of the wire are decoded from their bytes, and their lists have room in their count fields.
use Rattle.std.proofs.Common.{◌≡◌, ℕ, ◌<◌, ◌≤◌, false, leb, ◌||◌, length, Ok, refl, arith}
use Rattle.std.proofs.lemmas.Bool.{or_from}
use Rattle.std.proofs.lemmas.Bool.Decides.{nat_tests}
use Rattle.redo_core.specs.Data.{CutData}
use Rattle.redo_core.specs.Shape.{max_number}
use Rattle.redo_core.specs.Book.{BookData}
use Rattle.redo_core.specs.declared.facts.Fact.{Fact}
use Rattle.messages.specs.Summaries.{SummaryData}
use Rattle.messages.specs.Deltas.{DeltaData}
use Rattle.redo_wire.specs.Limits.{count16_end, count32_end}
use Rattle.redo_wire.specs.Books.{IsWireBook, is_long_book}
use Rattle.redo_wire.specs.Facts.{IsWireFact, IsWireCut, fact_bytes}
use Rattle.redo_wire.specs.FactReading.{fact_at, decoded_fact}
use Rattle.redo_wire.specs.Summaries.{IsWireSummary, summary_bytes, is_long_summary}
use Rattle.redo_wire.specs.SummaryReading.{summary_at, decoded_summary}
use Rattle.redo_wire.specs.Deltas.{IsWireDelta, delta_bytes, is_long_delta}
use Rattle.redo_wire.specs.DeltaReading.{delta_at, decoded_delta}
use Rattle.redo_wire.proofs.FactReaders.{fact_reads}
use Rattle.redo_wire.proofs.SummaryReaders.{summary_reads}
use Rattle.redo_wire.proofs.DeltaReaders.{delta_reads}
use Rattle.redo_wire.proofs.Encodings.{read_from_encoded}

pub fact_decoded : (f : Fact) → IsWireFact f → decoded_fact (fact_bytes f) ≡ Ok f
fact_decoded f wire = read_from_encoded fact_at fact_bytes IsWireFact fact_reads (fact_bytes f) f (wire, refl)

pub summary_decoded : (s : SummaryData) → IsWireSummary s → decoded_summary (summary_bytes s) ≡ Ok s
summary_decoded s wire = read_from_encoded summary_at summary_bytes IsWireSummary summary_reads (summary_bytes s) s (wire, refl)

pub delta_decoded : (d : DeltaData) → IsWireDelta d → decoded_delta (delta_bytes d) ≡ Ok d
delta_decoded d wire = read_from_encoded delta_at delta_bytes IsWireDelta delta_reads (delta_bytes d) d (wire, refl)

-- ---- counts

few : (end n : ℕ) → n < end → leb end n ≡ false
few end n lt = grind (arith, nat_tests)

book_fits : (b : BookData) → IsWireBook b → is_long_book b ≡ false
book_fits b wire = or_from (leb count16_end (length b.cuts)) (leb count32_end (length b.waits)) (few count16_end (length b.cuts) (omega (arith, wire.cut_count)))
    (few count32_end (length b.waits) (omega (arith, wire.wait_count)))

pub summary_fits : (s : SummaryData) → IsWireSummary s → is_long_summary s ≡ false
summary_fits s wire = or_from (is_long_book s.book) (leb count32_end (length s.keys)) (book_fits s.book wire.book)
    (few count32_end (length s.keys) (omega (arith, wire.key_count)))

pub delta_fits : (d : DeltaData) → IsWireDelta d → is_long_delta d ≡ false
delta_fits d wire =
    or_from (is_long_book d.book || leb count32_end (length d.pages)) (leb count32_end (length d.records))
    (or_from (is_long_book d.book) (leb count32_end (length d.pages)) (book_fits d.book wire.book)
    (few count32_end (length d.pages) (omega (arith, wire.page_count)))) (few count32_end (length d.records) (omega (arith, wire.record_count)))

-- ---- truncations

-- its epoch and numbers are within the limits of fields
pub record IsInLimits (c : CutData) : Type 0 where
  pub epoch : c.epoch ≤ 65535
  pub lo : c.lo ≤ max_number
  pub hi : c.hi ≤ max_number

pub cut_limits : (c : CutData) → IsWireCut c → IsInLimits c
cut_limits c wire =
    let shape = wire.shape in
    let hi : c.hi ≤ max_number = grind (arith, nat_tests, shape) in
    let lo : c.lo ≤ c.hi = grind (arith, nat_tests, shape) in
    record { epoch = omega (arith, wire.epoch); lo = omega (arith, hi, lo); hi = hi }

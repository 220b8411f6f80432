-- Deltas: what is read is encoded so, and what is encoded so is read.
use Rattle.std.proofs.Common.{◌≡◌, ℕ, zero, suc, ◌≤◌, Bool, true, false, leb, eqb, List, [], ◌∷◌, ◌++◌, length, replicate, Ok, refl, sym, ap, subst, ◌∙◌, append_assoc, arith, inl, inr, rules}
use Rattle.std.proofs.lemmas.Grind.{common_steps}
use Rattle.std.specs.Prelude.{◌≢◌, not}
use Rattle.std.specs.List.{AllByRecursion, flat_map}
use Rattle.std.proofs.lemmas.Bool.{leb-true, le-leb, eqb-true, or_parts, not-false, cases_Bool}
use Rattle.redo_core.specs.Book.{BookData}
use Rattle.redo_core.specs.Keys.{key_in, key_of}
use Rattle.redo_core.specs.declared.keys.Key.{Key}
use Rattle.redo_core.specs.Data.{RecordData}
use Rattle.redo_core.specs.Order.{IsRising, RecordBefore}
use Rattle.redo_core.specs.Writing.{zeros}
use Rattle.redo_core.specs.Meaning.{ImageData, ImageBefore}
use Rattle.redo_wire.specs.Reading.{shaped}
use Rattle.redo_wire.specs.Fields.{bytes_at, u16_at, u32_at, u48_at, u16, u32, u48}
use Rattle.redo_wire.specs.Lists.{each_at}
use Rattle.redo_wire.specs.Places.{is_above}
use Rattle.redo_wire.specs.Records.{IsWireRecord, record_bytes}
use Rattle.redo_wire.specs.RecordReading.{record_at}
use Rattle.messages.specs.Books.{book_min, has_many}
use Rattle.redo_wire.specs.Books.{book_bytes}
use Rattle.redo_wire.specs.BookReading.{book_at}
use Rattle.messages.specs.Deltas.{DeltaData, delta_of, IsDelta}
use Rattle.messages.specs.Images.{image_of}
use Rattle.redo_wire.specs.Deltas.{IsWireImage, IsWireDelta, image_bytes, delta_part_bytes, delta_bytes}
use Rattle.redo_wire.specs.DeltaReading.{is_nonzero, may_have, image_at, page_after, next_image_at, record_place, next_record_at, delta_part_at, delta_at}
use Rattle.redo_wire.proofs.Readers.{IsBytes, bind_ok, ok_is, shaped_ok, Takes, Takes-then, Reads, ordered_reads}
use Rattle.redo_wire.proofs.FieldReaders.{u16_reads, u32_reads, u48_reads, bytes_take, bytes_again}
use Rattle.redo_wire.proofs.FormReaders.{form_then}
use Rattle.redo_wire.proofs.ListReaders.{EachFrom, each_takes, each_again}
use Rattle.redo_wire.proofs.RecordReaders.{record_reads, number_above_zero}
use Rattle.redo_wire.proofs.Orders.{All-weaker, All-both, IsNext, rising_from_each, each_from_rising, image_tests, key_tests, above_zero}
use Rattle.messages.proofs.BookMins.{min_small}
use Rattle.redo_wire.proofs.BookReaders.{book_reads}

-- ---- pages of zeros

zero_bytes : (n : ℕ) (bytes : List ℕ) → length bytes ≡ n → is_nonzero bytes ≡ false → bytes ≡ replicate n 0
zero_bytes n [] len none = ap (λ (m : ℕ). replicate m 0) len
zero_bytes n (b ∷ bytes) len all =
    let parts = or_parts (not (eqb b 0)) (is_nonzero bytes) all in
    let none : b ≡ 0 = eqb-true b 0 (not-false (eqb b 0) parts.0) in
    let rest : bytes ≡ replicate (length bytes) 0 = zero_bytes (length bytes) bytes refl parts.1 in
    ap (λ (c : ℕ). c ∷ bytes) none ∙ ap (λ (cs : List ℕ). 0 ∷ cs) rest ∙ ap (λ (m : ℕ). replicate m 0) len

zeros_nonzero : (n : ℕ) → is_nonzero (replicate n 0) ≡ false
zeros_nonzero zero = refl
zeros_nonzero (suc n) = zeros_nonzero n

zeros_is : zeros ≡ replicate 4096 0
unfolding zeros
zeros_is = refl

pub written_page : (bytes : List ℕ) → is_nonzero bytes ≡ true → bytes ≢ zeros
written_page bytes nonzero e = search (rules, zeros_is)

nonzero_page : (bytes : List ℕ) → length bytes ≡ 4096 → bytes ≢ zeros → is_nonzero bytes ≡ true
nonzero_page bytes len written =
    elim (cases_Bool (is_nonzero bytes)) [
      | inl yes' ↦ yes'
      | inr no' ↦ absurd (written (zero_bytes 4096 bytes len no' ∙ sym zeros_is))
    ]

-- ---- pages in order

abbrev pub IsReadImage : ImageData → Type 0
IsReadImage p = IsWireImage p × (is_nonzero p.bytes ≡ true)

abbrev pub IsNextImage : ℕ → ImageData → Type 0
IsNextImage least p = IsNext (λ least p. leb least p.page) IsReadImage least p

image_takes : (bytes : List ℕ) (x : ImageData × List ℕ) → IsBytes bytes → image_at bytes ≡ Ok x → Takes bytes (image_bytes x.0) x.1 × IsReadImage x.0
unfolding image_at
image_takes bytes x fits e =
    let a0 = bind_ok (u16_at bytes) _ x e in
    let a1 = bind_ok (shaped is_nonzero (bytes_at 4096 a0.0.1)) _ x a0.2 in
    let s1 = shaped_ok is_nonzero (bytes_at 4096 a0.0.1) a1.0 a1.1 in
    let t0 = u16_reads.takes bytes a0.0 fits a0.1 in
    let t1 = bytes_take 4096 a0.0.1 a1.0 t0.0.rest_fits s1.0 in
    let e1 = Takes-then bytes (u16 a0.0.0) a0.0.1 a1.0.0 a1.0.1 t0.0 t1.0 in
    let made : ImageData × List ℕ = (image_of a0.0.0 a1.0.0, a1.0.1) in
    subst (λ (y : ImageData × List ℕ). Takes bytes (image_bytes y.0) y.1 × IsReadImage y.0) (ok_is made x a1.2)
    (e1, (record { page = t0.1; size = t1.1 }, s1.1))

image_again : (p : ImageData) (rest : List ℕ) → IsReadImage p → image_at (image_bytes p ++ rest) ≡ Ok (p, rest)
unfolding image_at
image_again p rest fits =
    let regrouped : image_bytes p ++ rest ≡ u16 p.page ++ (p.bytes ++ rest) = simp append_assoc in
    ap image_at regrouped ∙ rw (u16_reads.again p.page (p.bytes ++ rest) fits.0.page, bytes_again 4096 p.bytes rest fits.0.size, fits.1) refl

pub image_reads : Reads image_at image_bytes IsReadImage
image_reads = record { takes = image_takes; again = image_again }

next_image_reads : (least : ℕ) → Reads (next_image_at least) image_bytes (IsNextImage least)
next_image_reads least = ordered_reads (λ p. leb least p.page) image_at image_bytes IsReadImage image_reads

-- ---- records in order

abbrev pub IsNextRecord : Key → RecordData → Type 0
IsNextRecord last r = IsNext (λ last r. is_above last (key_of r)) IsWireRecord last r

pub next_record_reads : (last : Key) → Reads (next_record_at last) record_bytes (IsNextRecord last)
next_record_reads last = ordered_reads (λ r. is_above last (key_of r)) record_at record_bytes IsWireRecord record_reads

-- ---- deltas

no_base_no_pages : (base : ℕ) (pages : List ImageData) → may_have base (length pages) ≡ true → base ≡ 0 → pages ≡ []
no_base_no_pages base pages e none = grind (arith, common_steps)

may_have_pages : (base : ℕ) (pages : List ImageData) → (base ≡ 0 → pages ≡ []) → may_have base (length pages) ≡ true
may_have_pages base pages rule = search rules

pub delta_steps : (many : Bool) (bytes : List ℕ) (b : BookData × List ℕ) (base page_count : ℕ × List ℕ) (pages : List ImageData × List ℕ)
    (record_count : ℕ × List ℕ) (records : List RecordData × List ℕ) → IsBytes bytes
    → book_at many bytes ≡ Ok b → u48_at b.1 ≡ Ok base → base.0 ≤ book_min b.0 → u32_at base.1 ≡ Ok page_count → may_have base.0 page_count.0 ≡ true
    → each_at next_image_at page_after page_count.0 0 page_count.1 ≡ Ok pages → u32_at pages.1 ≡ Ok record_count
    → each_at next_record_at record_place record_count.0 (key_in 0 0) record_count.1 ≡ Ok records
    → let d = delta_of b.0 base.0 pages.0 records.0 in Takes bytes (delta_part_bytes many d) records.1 × (IsWireDelta d × (has_many b.0 ≡ many))
delta_steps many bytes b base page_count pages record_count records fits e0 e1 low e2 first e3 e4 e5 =
    let t0 = (book_reads many).takes bytes b fits e0 in
    let t1 = u48_reads.takes b.1 base t0.0.rest_fits e1 in
    let t2 = u32_reads.takes base.1 page_count t1.0.rest_fits e2 in
    let t3 = each_takes next_image_at page_after image_bytes IsNextImage next_image_reads page_count.0 0 page_count.1 pages t2.0.rest_fits e3 in
    let t4 = u32_reads.takes pages.1 record_count t3.0.rest_fits e4 in
    let t5 = each_takes next_record_at record_place record_bytes IsNextRecord next_record_reads record_count.0 (key_in 0 0) record_count.1 records t4.0.rest_fits
    e5 in
    let p1 = Takes-then bytes (book_bytes many b.0) b.1 (u48 base.0) base.1 t0.0 t1.0 in
    let p2 = Takes-then bytes (book_bytes many b.0 ++ u48 base.0) base.1 (u32 page_count.0) page_count.1 p1 t2.0 in
    let p3 = Takes-then bytes (book_bytes many b.0 ++ u48 base.0 ++ u32 page_count.0) page_count.1 (flat_map image_bytes pages.0) pages.1 p2 t3.0 in
    let p4 = Takes-then bytes (book_bytes many b.0 ++ u48 base.0 ++ u32 page_count.0 ++ flat_map image_bytes pages.0) pages.1 (u32 record_count.0)
    record_count.1 p3 t4.0 in
    let p5 = Takes-then bytes (book_bytes many b.0 ++ u48 base.0 ++ u32 page_count.0 ++ flat_map image_bytes pages.0 ++ u32 record_count.0) record_count.1
    (flat_map record_bytes records.0) records.1 p4 t5.0 in
    let page_len : length pages.0 ≡ page_count.0 = t3.1 in
    let record_len : length records.0 ≡ record_count.0 = t5.1 in
    let pages_rise = rising_from_each (λ least p. leb least p.page) (λ p. page_after 0 p) ImageBefore IsReadImage image_tests 0 pages.0 t3.2 in
    let records_rise = rising_from_each (λ last r. is_above last (key_of r)) key_of RecordBefore IsWireRecord
    (key_tests key_of) (key_in 0 0) records.0 t5.2 in
    let written = All-weaker IsReadImage (λ p. p.bytes ≢ zeros) (λ p i. written_page p.bytes i.1) pages.0 pages_rise.2 in
    let shape : IsDelta (delta_of b.0 base.0 pages.0 records.0) = record {
      book = t0.1.0.shape;
      base = low;
      no_base = no_base_no_pages base.0 pages.0 (rw page_len first);
      pages = pages_rise.1;
      each_page = written;
      records = records_rise.1;
    } in
    let wire : IsWireDelta (delta_of b.0 base.0 pages.0 records.0) = record {
      shape = shape;
      book = t0.1.0;
      each_page = All-weaker IsReadImage IsWireImage (λ p i. i.0) pages.0 pages_rise.2;
      each_record = records_rise.2;
      page_count = rw page_len t2.1;
      record_count = rw record_len t4.1;
    } in
    (rw (page_len, record_len) p5, (wire, t0.1.1))

pub delta_part_takes : (many : Bool) (bytes : List ℕ) (x : DeltaData × List ℕ) → IsBytes bytes → delta_part_at many bytes ≡ Ok x
    → Takes bytes (delta_part_bytes many x.0) x.1 × (IsWireDelta x.0 × (has_many x.0.book ≡ many))
unfolding delta_part_at
delta_part_takes many bytes x fits e =
    let a0 = bind_ok (book_at many bytes) _ x e in
    let a1 = bind_ok (shaped (λ n. leb n (book_min a0.0.0)) (u48_at a0.0.1)) _ x a0.2 in
    let s1 = shaped_ok (λ n. leb n (book_min a0.0.0)) (u48_at a0.0.1) a1.0 a1.1 in
    let a2 = bind_ok (shaped (λ n. may_have a1.0.0 n) (u32_at a1.0.1)) _ x a1.2 in
    let s2 = shaped_ok (λ n. may_have a1.0.0 n) (u32_at a1.0.1) a2.0 a2.1 in
    let a3 = bind_ok (each_at next_image_at page_after a2.0.0 0 a2.0.1) _ x a2.2 in
    let a4 = bind_ok (u32_at a3.0.1) _ x a3.2 in
    let a5 = bind_ok (each_at next_record_at record_place a4.0.0 (key_in 0 0) a4.0.1) _ x a4.2 in
    let made : DeltaData × List ℕ = (delta_of a0.0.0 a1.0.0 a3.0.0 a5.0.0, a5.0.1) in
    subst (λ (y : DeltaData × List ℕ). Takes bytes (delta_part_bytes many y.0) y.1 × (IsWireDelta y.0 × (has_many y.0.book ≡ many))) (ok_is made x a5.2)
    (delta_steps many bytes a0.0 a1.0 a2.0 a3.0 a4.0 a5.0 fits a0.1 s1.0 (leb-true _ _ s1.1) s2.0 s2.1 a3.1 a4.1 a5.1)

pub read_image : (p : ImageData) → IsWireImage p × (p.bytes ≢ zeros) → IsReadImage p
read_image p both = (both.0, nonzero_page p.bytes both.0.size both.1)

each_image : (d : DeltaData) → IsWireDelta d → EachFrom IsNextImage page_after 0 d.pages
each_image d wire =
    let both = All-both IsWireImage (λ p. p.bytes ≢ zeros) d.pages wire.each_page wire.shape.each_page in
    let all = All-weaker (λ p. IsWireImage p × (p.bytes ≢ zeros)) IsReadImage read_image d.pages both in
    let first = All-weaker IsWireImage (λ p. leb 0 p.page ≡ true) (λ p w. le-leb 0 p.page (omega arith)) d.pages wire.each_page in
    each_from_rising (λ least p. leb least p.page) (λ p. page_after 0 p) ImageBefore IsReadImage image_tests 0 d.pages first wire.shape.pages all

pub each_record : (rs : List RecordData) → IsRising RecordBefore rs → AllByRecursion IsWireRecord rs → EachFrom IsNextRecord record_place (key_in 0 0) rs
each_record rs rising all =
    let first = All-weaker IsWireRecord (λ r. is_above (key_in 0 0) (key_of r) ≡ true) (λ r w. above_zero (key_of r) (number_above_zero r w))
    rs all in
    each_from_rising (λ last r. is_above last (key_of r)) key_of RecordBefore IsWireRecord
    (key_tests key_of) (key_in 0 0) rs first rising all

delta_part_again : (many : Bool) (d : DeltaData) (rest : List ℕ) → IsWireDelta d × (has_many d.book ≡ many)
    → delta_part_at many (delta_part_bytes many d ++ rest) ≡ Ok (d, rest)
unfolding delta_part_at
delta_part_again many d rest fits =
    let wire = fits.0 in
    let z4 = flat_map record_bytes d.records ++ rest in
    let z3 = u32 (length d.records) ++ z4 in
    let z2 = flat_map image_bytes d.pages ++ z3 in
    let z1 = u32 (length d.pages) ++ z2 in
    let z0 = u48 d.base ++ z1 in
    let low = wire.shape.base in
    let small = min_small d.book wire.shape.book in
    let regrouped : delta_part_bytes many d ++ rest ≡ book_bytes many d.book ++ (u48 d.base ++ (u32
    (length d.pages) ++ (flat_map image_bytes d.pages ++ (u32 (length d.records) ++ (flat_map record_bytes d.records ++ rest))))) = simp append_assoc in
    ap (delta_part_at many) regrouped
    ∙ rw (
      (book_reads many).again d.book z0 (wire.book, fits.1),
      u48_reads.again d.base z1 (omega (arith, low, small)),
      le-leb d.base (book_min d.book) low,
      u32_reads.again (length d.pages) z2 wire.page_count,
      may_have_pages d.base d.pages wire.shape.no_base,
      each_again next_image_at page_after image_bytes IsNextImage next_image_reads d.pages 0 z3 (each_image d wire),
      u32_reads.again (length d.records) z4 wire.record_count,
      each_again next_record_at record_place record_bytes IsNextRecord next_record_reads d.records
          (key_in 0 0) rest (each_record d.records wire.shape.records wire.each_record),
    ) refl

delta_part_reads : (many : Bool) → Reads (delta_part_at many) (delta_part_bytes many) (λ d. IsWireDelta d × (has_many d.book ≡ many))
delta_part_reads many = record { takes = delta_part_takes many; again = delta_part_again many }

pub delta_reads : Reads delta_at delta_bytes IsWireDelta
unfolding delta_at
delta_reads = form_then 17 33 delta_part_at delta_part_bytes (λ d. has_many d.book) IsWireDelta (λ e. omega (arith, e)) delta_part_reads

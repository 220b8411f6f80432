-- Summaries: what is read is encoded so, and what is encoded so is read.
use Rattle.std.proofs.Common.{◌≡◌, ℕ, ◌^◌, ◌<◌, ◌≤◌, Bool, ltb, leb, true, List, ◌++◌, length, Ok, refl, ap, subst, ◌∙◌, append_assoc, arith}
use Rattle.std.proofs.lemmas.Grind.{common_steps}
use Rattle.std.specs.List.{flat_map}
use Rattle.std.proofs.lemmas.Bool.{ltb-true, leb-true, le-leb}
use Rattle.redo_wire.specs.Reading.{shaped}
use Rattle.redo_wire.specs.Fields.{u16_at, u32_at, u48_at, u16, u32, u48}
use Rattle.redo_wire.specs.Lists.{each_at}
use Rattle.redo_wire.specs.Places.{is_above}
use Rattle.redo_core.specs.Book.{BookData}
use Rattle.redo_core.specs.Keys.{key_in, KeyBefore, IsKey}
use Rattle.redo_core.specs.declared.keys.Key.{Key}
use Rattle.messages.specs.Books.{book_min, has_many}
use Rattle.redo_wire.specs.Books.{book_bytes}
use Rattle.redo_wire.specs.BookReading.{book_at}
use Rattle.messages.specs.Summaries.{SummaryData, summary_of, IsSummary}
use Rattle.redo_wire.specs.Summaries.{IsWireSummary, key_bytes, summary_part_bytes, summary_bytes}
use Rattle.redo_wire.specs.SummaryReading.{key_at, key_place, next_key_at, summary_part_at, summary_at}
use Rattle.redo_wire.proofs.Readers.{IsBytes, bind_ok, ok_is, shaped_ok, Takes, Takes-then, Reads, ordered_reads}
use Rattle.redo_wire.proofs.FieldReaders.{u16_reads, u32_reads, u48_reads}
use Rattle.redo_wire.proofs.FormReaders.{form_then}
use Rattle.redo_wire.proofs.ListReaders.{EachFrom, each_takes, each_again}
use Rattle.redo_wire.proofs.Orders.{All-weaker, All-both, IsNext, rising_from_each, each_from_rising, key_tests, above_zero}
use Rattle.messages.proofs.BookMins.{min_small}
use Rattle.redo_wire.proofs.BookReaders.{book_reads}

-- ---- keys in order

abbrev pub IsWireKey : Key → Type 0
IsWireKey k = IsKey k × (k.epoch < 2 ^ 16)

abbrev pub IsNextKey : Key → Key → Type 0
IsNextKey last k = IsNext (λ last k. is_above last k) IsWireKey last k

key_takes : (bytes : List ℕ) (x : Key × List ℕ) → IsBytes bytes → key_at bytes ≡ Ok x → Takes bytes (key_bytes x.0) x.1 × IsWireKey x.0
unfolding key_at
key_takes bytes x fits e =
    let a0 = bind_ok (u16_at bytes) _ x e in
    let a1 = bind_ok (shaped (λ n. ltb 0 n) (u48_at a0.0.1)) _ x a0.2 in
    let s1 = shaped_ok (λ n. ltb 0 n) (u48_at a0.0.1) a1.0 a1.1 in
    let t0 = u16_reads.takes bytes a0.0 fits a0.1 in
    let t1 = u48_reads.takes a0.0.1 a1.0 t0.0.rest_fits s1.0 in
    let e1 = Takes-then bytes (u16 a0.0.0) a0.0.1 (u48 a1.0.0) a1.0.1 t0.0 t1.0 in
    let pos : 0 < a1.0.0 = ltb-true _ _ s1.1 in
    let made : Key × List ℕ = (record { epoch = a0.0.0; number = a1.0.0 }, a1.0.1) in
    subst (λ (y : Key × List ℕ). Takes bytes (key_bytes y.0) y.1 × IsWireKey y.0) (ok_is made x a1.2) (e1, ((pos, omega (arith, t1.1)), t0.1))

key_again : (k : Key) (rest : List ℕ) → IsWireKey k → key_at (key_bytes k ++ rest) ≡ Ok (k, rest)
unfolding key_at
key_again k rest fits = grind (arith, common_steps, u16_reads, u48_reads)

next_key_reads : (last : Key) → Reads (next_key_at last) key_bytes (IsNextKey last)
next_key_reads last = ordered_reads (λ k. is_above last k) key_at key_bytes IsWireKey (record { takes = key_takes; again = key_again })

-- ---- summaries

pub summary_steps : (many : Bool) (bytes : List ℕ) (b : BookData × List ℕ) (anchor key_count : ℕ × List ℕ) (keys : List Key × List ℕ) → IsBytes bytes
    → book_at many bytes ≡ Ok b → u48_at b.1 ≡ Ok anchor → anchor.0 ≤ book_min b.0 → u32_at anchor.1 ≡ Ok key_count
    → each_at next_key_at key_place key_count.0 (key_in 0 0) key_count.1 ≡ Ok keys
    → let s = summary_of b.0 anchor.0 keys.0 in Takes bytes (summary_part_bytes many s) keys.1 × (IsWireSummary s × (has_many b.0 ≡ many))
summary_steps many bytes b anchor key_count keys fits e0 e1 low e2 e3 =
    let t0 = (book_reads many).takes bytes b fits e0 in
    let t1 = u48_reads.takes b.1 anchor t0.0.rest_fits e1 in
    let t2 = u32_reads.takes anchor.1 key_count t1.0.rest_fits e2 in
    let t3 = each_takes next_key_at key_place key_bytes IsNextKey next_key_reads key_count.0 (key_in 0 0) key_count.1 keys t2.0.rest_fits e3 in
    let p1 = Takes-then bytes (book_bytes many b.0) b.1 (u48 anchor.0) anchor.1 t0.0 t1.0 in
    let p2 = Takes-then bytes (book_bytes many b.0 ++ u48 anchor.0) anchor.1 (u32 key_count.0) key_count.1 p1 t2.0 in
    let p3 = Takes-then bytes (book_bytes many b.0 ++ u48 anchor.0 ++ u32 key_count.0) key_count.1 (flat_map key_bytes keys.0) keys.1 p2 t3.0 in
    let key_len : length keys.0 ≡ key_count.0 = t3.1 in
    let rising = rising_from_each (λ last k. is_above last k) (λ (k : Key). k) KeyBefore IsWireKey
    (key_tests (λ (k : Key). k)) (key_in 0 0) keys.0 t3.2 in
    let shape : IsSummary (summary_of b.0 anchor.0 keys.0) = record
    { book = t0.1.0.shape; anchor = low; keys = rising.1; each_key = All-weaker IsWireKey IsKey (λ k w. w.0) keys.0 rising.2 } in (
      rw key_len p3,
      (
        record {
          shape = shape;
          book = t0.1.0;
          each_key = All-weaker IsWireKey (λ k. k.epoch < 2 ^ 16) (λ k w. w.1) keys.0 rising.2;
          key_count = rw key_len t2.1;
        },
        t0.1.1,
      ),
    )

pub summary_part_takes : (many : Bool) (bytes : List ℕ) (x : SummaryData × List ℕ) → IsBytes bytes → summary_part_at many bytes ≡ Ok x
    → Takes bytes (summary_part_bytes many x.0) x.1 × (IsWireSummary x.0 × (has_many x.0.book ≡ many))
unfolding summary_part_at
summary_part_takes many bytes x fits e =
    let a0 = bind_ok (book_at many bytes) _ x e in
    let a1 = bind_ok (shaped (λ a. leb a (book_min a0.0.0)) (u48_at a0.0.1)) _ x a0.2 in
    let s1 = shaped_ok (λ a. leb a (book_min a0.0.0)) (u48_at a0.0.1) a1.0 a1.1 in
    let a2 = bind_ok (u32_at a1.0.1) _ x a1.2 in
    let a3 = bind_ok (each_at next_key_at key_place a2.0.0 (key_in 0 0) a2.0.1) _ x a2.2 in
    let made : SummaryData × List ℕ = (summary_of a0.0.0 a1.0.0 a3.0.0, a3.0.1) in
    subst (λ (y : SummaryData × List ℕ). Takes bytes (summary_part_bytes many y.0) y.1 × (IsWireSummary y.0 × (has_many y.0.book ≡ many)))
    (ok_is made x a3.2) (summary_steps many bytes a0.0 a1.0 a2.0 a3.0 fits a0.1 s1.0 (leb-true _ _ s1.1) a2.1 a3.1)

each_key : (s : SummaryData) → IsWireSummary s → EachFrom IsNextKey key_place (key_in 0 0) s.keys
each_key s wire =
    let all = All-both IsKey (λ k. k.epoch < 2 ^ 16) s.keys wire.shape.each_key wire.each_key in
    let first = All-weaker IsKey (λ k. is_above (key_in 0 0) k ≡ true) (λ k i. above_zero k i.0) s.keys wire.shape.each_key in
    each_from_rising (λ last k. is_above last k) (λ (k : Key). k) KeyBefore IsWireKey
    (key_tests (λ (k : Key). k)) (key_in 0 0) s.keys first wire.shape.keys all

summary_part_again : (many : Bool) (s : SummaryData) (rest : List ℕ) → IsWireSummary s × (has_many s.book ≡ many)
    → summary_part_at many (summary_part_bytes many s ++ rest) ≡ Ok (s, rest)
unfolding summary_part_at
summary_part_again many s rest fits =
    let wire = fits.0 in
    let z2 = flat_map key_bytes s.keys ++ rest in
    let z1 = u32 (length s.keys) ++ z2 in
    let z0 = u48 s.anchor ++ z1 in
    let low = wire.shape.anchor in
    let small = min_small s.book wire.shape.book in
    let regrouped : summary_part_bytes many s ++ rest ≡ book_bytes many s.book ++ (u48 s.anchor ++ (u32
    (length s.keys) ++ (flat_map key_bytes s.keys ++ rest))) = simp append_assoc in
    ap (summary_part_at many) regrouped
    ∙ rw (
      (book_reads many).again s.book z0 (wire.book, fits.1),
      u48_reads.again s.anchor z1 (omega (arith, low, small)),
      le-leb s.anchor
          (book_min s.book) low,
      u32_reads.again (length s.keys) z2 wire.key_count,
      each_again next_key_at key_place key_bytes IsNextKey next_key_reads s.keys
          (key_in 0 0) rest (each_key s wire),
    ) refl

summary_part_reads : (many : Bool) → Reads (summary_part_at many) (summary_part_bytes many) (λ s. IsWireSummary s × (has_many s.book ≡ many))
summary_part_reads many = record { takes = summary_part_takes many; again = summary_part_again many }

pub summary_reads : Reads summary_at summary_bytes IsWireSummary
unfolding summary_at
summary_reads = form_then 16 32 summary_part_at summary_part_bytes (λ s. has_many s.book) IsWireSummary (λ e. omega (arith, e)) summary_part_reads

-- Books: what is read is encoded so, and what is encoded so is read.
use Rattle.std.proofs.Common.{◌≡◌, ℕ, ◌^◌, ◌+◌, ◌<◌, ◌≤◌, Bool, true, ltb, eqb, List, [], ◌∷◌, ◌++◌, length, Ok, refl, sym, ap, subst, ◌∙◌, append_assoc, arith, rules}
use Rattle.std.specs.List.{AllByRecursion, flat_map}
use Rattle.std.specs.Prelude.{None}
use Rattle.std.proofs.lemmas.Bool.{lt-ltb, eqb-false}
use Rattle.std.proofs.lemmas.List.Elements.{All-from_recursion, recursion_from_All}
use Rattle.redo_core.specs.Book.{BookData, book_of, IsBook}
use Rattle.redo_core.specs.Data.{CutData, AdvanceData}
use Rattle.redo_core.specs.Shape.{cut_fault, advance_fault, max_number, epoch_count}
use Rattle.redo_core.specs.Roster.{IsReader}
use Rattle.redo_core.specs.Order.{IsRising, CutBefore, AdvanceBefore}
use Rattle.redo_core.specs.CompleteEpoch.{IsCompleteEpoch}
use Rattle.redo_core.proofs.CompleteEpochs.{one_complete_epoch}
use Rattle.redo_wire.specs.Fields.{u16_at, u32_at, u16, u32, u48}
use Rattle.redo_wire.specs.Lists.{each_at}
use Rattle.redo_wire.specs.Places.{WaitPlace, is_wait_above}
use Rattle.redo_wire.specs.Forms.{within_at, byte_in}
use Rattle.redo_wire.specs.Facts.{IsWireCut, IsWireAdvance, cut_bytes, advance_bytes}
use Rattle.redo_wire.specs.FactReading.{cut_at, advance_at}
use Rattle.messages.specs.Books.{has_many}
use Rattle.redo_wire.specs.Books.{IsWireBook, book_bytes}
use Rattle.redo_wire.specs.BookReading.{complete, cut_epoch, last_point, wait_place, next_cut_at, next_point_at, next_wait_at, book_at}
use Rattle.redo_wire.proofs.Readers.{IsBytes, bind_ok, ok_is, Takes, Takes-then, Reads, ordered_reads}
use Rattle.redo_wire.proofs.FieldReaders.{u16_reads, u32_reads, u48_reads}
use Rattle.redo_wire.proofs.FormReaders.{IsWithin, within_reads}
use Rattle.redo_wire.proofs.ListReaders.{EachFrom, each_takes, each_again}
use Rattle.redo_wire.proofs.RecordReaders.{spared}
use Rattle.redo_wire.proofs.FactReaders.{cut_reads, advance_reads, IsReadAdvance, ranges, within_bounds, second_is, within_second}
use Rattle.redo_wire.proofs.Orders.{All-weaker, All-both, IsNext, rising_from_each, each_from_rising, cut_tests, place_of, wait_tests, wait_above_zero}
use Rattle.redo_wire.proofs.Epochs.{is_complete}

-- ---- truncations in order

abbrev pub IsNextCut : ℕ → CutData → Type 0
IsNextCut last c = IsNext (λ last c. ltb last c.epoch) IsWireCut last c

next_cut_reads : (last : ℕ) → Reads (next_cut_at last) cut_bytes (IsNextCut last)
next_cut_reads last = ordered_reads (λ c. ltb last c.epoch) cut_at cut_bytes IsWireCut cut_reads

epoch_above_zero : (c : CutData) → IsWireCut c → 0 < c.epoch
epoch_above_zero c wire = let r = spared (eqb c.epoch 0) _ _ wire.shape in omega (arith, eqb-false c.epoch 0 r.0)

-- ---- readers' points

abbrev pub IsNextPoint : ℕ → ℕ → Type 0
IsNextPoint last p = p < 2 ^ 48

next_point_reads : (last : ℕ) → Reads (next_point_at last) u48 (IsNextPoint last)
next_point_reads last = u48_reads

small_points : (last : ℕ) (ps : List ℕ) → EachFrom IsNextPoint last_point last ps → AllByRecursion (λ p. p ≤ max_number) ps
small_points last [] h = tt
small_points last (p ∷ ps) h = let lt = h.0 in (omega (arith, lt), small_points p ps h.1)

each_point : (last : ℕ) (ps : List ℕ) → AllByRecursion (λ p. p ≤ max_number) ps → EachFrom IsNextPoint last_point last ps
each_point last [] h = tt
each_point last (p ∷ ps) h = let le = h.0 in (omega (arith, le), each_point p ps h.1)

-- ---- waiting advances in order

-- an advance that waits at the complete epoch k, of one of so many readers
abbrev pub IsWait : Bool → ℕ → ℕ → AdvanceData → Type 0
IsWait many k readers a = IsReadAdvance many (k + 1) 1 readers a

abbrev pub IsNextWait : Bool → ℕ → ℕ → WaitPlace → AdvanceData → Type 0
IsNextWait many k readers last a = IsNext (λ last a. is_wait_above last (place_of a)) (IsWait many k readers) last a

next_wait_reads : (many : Bool) (k readers : ℕ) → 1 ≤ readers → readers ≤ 15 → (last : WaitPlace)
    → Reads (next_wait_at many k readers last) (advance_bytes many) (IsNextWait many k readers last)
next_wait_reads many k readers one hi last =
    ordered_reads (λ a. is_wait_above last (place_of a)) (advance_at many (k + 1) 1 readers) (advance_bytes many) (IsWait many k readers)
    (advance_reads many (k + 1) 1 readers (omega arith) one hi)

-- ---- the lists of a book, judged one by one and as a whole

cuts_rise : (cs : List CutData) → EachFrom IsNextCut cut_epoch 0 cs
    → AllByRecursion (λ c. ltb 0 c.epoch ≡ true) cs × IsRising CutBefore cs × AllByRecursion IsWireCut cs
cuts_rise cs each = rising_from_each (λ last c. ltb last c.epoch) (λ (c : CutData). c.epoch) CutBefore IsWireCut cut_tests 0 cs each

complete_is : (cs : List CutData) → IsRising CutBefore cs → AllByRecursion IsWireCut cs → IsCompleteEpoch cs (complete cs)
complete_is cs rising all = is_complete cs rising (All-weaker IsWireCut (λ c. 0 < c.epoch) epoch_above_zero cs all)

-- the truncations of a book have the fields that their type holds
wire_cuts : (b : BookData) → IsBook b → AllByRecursion IsWireCut b.cuts
wire_cuts b book = search (rules, recursion_from_All)

-- the epoch that reading computes is the one that the book has
complete_of_book : (b : BookData) → IsBook b → complete b.cuts ≡ b.complete
complete_of_book b book = one_complete_epoch b.cuts (complete b.cuts) b.complete (complete_is b.cuts book.cuts_rise (wire_cuts b book)) book.complete

-- the truncations, points and advances that were read make up a book
book_shape : (many : Bool) (cs : List CutData) (ps : List ℕ) (waits : List AdvanceData) → IsWithin many 1 2 15 (length ps)
    → EachFrom IsNextCut cut_epoch 0 cs → EachFrom IsNextPoint last_point 0 ps
    → EachFrom (IsNextWait many (complete cs) (length ps)) wait_place (0, 0, 0) waits
    → length cs < 2 ^ 16 → length waits < 2 ^ 32 → IsWireBook (book_of cs (complete cs) ps waits)
book_shape many cs ps waits roster cuts points each few_cuts few_waits =
    let rising = cuts_rise cs cuts in
    let k = complete cs in
    let n = length ps in
    let bounds = within_bounds many 2 15 n (omega arith) (omega arith) roster in
    let one = bounds.0 in
    let waiting = rising_from_each (λ last a. is_wait_above last (place_of a)) place_of AdvanceBefore (IsWait many k n) wait_tests (0, 0, 0) waits each in
    let later = All-weaker (IsWait many k n) (λ a. k < a.epoch) (λ a w. let l = w.later in omega (arith, l)) waits waiting.2 in
    let readers = All-weaker (IsWait many k n) (λ a. IsReader n a.reader)
    (λ a w. let b = within_bounds many 1 n a.reader (omega arith) one w.reader in (b.0, b.1)) waits waiting.2 in
    let cuts_shaped = All-weaker IsWireCut (λ c. cut_fault c ≡ None) (λ c w. w.shape) cs rising.2 in
    let epochs_fit = All-weaker IsWireCut (λ c. c.epoch < epoch_count) (λ c w. let e = w.epoch in omega (arith, e)) cs rising.2 in
    let waits_shaped = All-weaker (IsWait many k n) (λ a. advance_fault a ≡ None) (λ a w. w.wire.shape) waits waiting.2 in
    record {
      shape = record {
        cuts_rise = rising.1;
        cuts_shaped = All-from_recursion (λ c. cut_fault c ≡ None) cs cuts_shaped;
        epochs_fit = All-from_recursion (λ c. c.epoch < epoch_count) cs epochs_fit;
        complete = complete_is cs rising.1 rising.2;
        roster = (bounds.0, bounds.1);
        points_shaped = All-from_recursion (λ p. p ≤ max_number) ps (small_points 0 ps points);
        waits_rise = waiting.1;
        waits_shaped = All-from_recursion (λ a. advance_fault a ≡ None) waits waits_shaped;
        waits_later = All-from_recursion (λ a. k < a.epoch) waits later;
        waits_readers = All-from_recursion (λ a. IsReader n a.reader) waits readers;
      };
      each_wait = All-weaker (IsWait many k n) IsWireAdvance (λ a w. w.wire) waits waiting.2;
      cut_count = few_cuts;
      wait_count = few_waits;
    }

pub book_steps : (many : Bool) (bytes : List ℕ) (cut_count : ℕ × List ℕ) (cuts : List CutData × List ℕ) (readers : ℕ × List ℕ)
    (points : List ℕ × List ℕ) (wait_count : ℕ × List ℕ) (waits : List AdvanceData × List ℕ) → IsBytes bytes
    → u16_at bytes ≡ Ok cut_count → each_at next_cut_at cut_epoch cut_count.0 0 cut_count.1 ≡ Ok cuts → within_at many 1 2 15 cuts.1 ≡ Ok readers
    → each_at next_point_at last_point readers.0 0 readers.1 ≡ Ok points → u32_at points.1 ≡ Ok wait_count
    → each_at (next_wait_at many (complete cuts.0) readers.0) wait_place wait_count.0 (0, 0, 0) wait_count.1 ≡ Ok waits
    → let b = book_of cuts.0 (complete cuts.0) points.0 waits.0 in Takes bytes (book_bytes many b) waits.1 × (IsWireBook b × (has_many b ≡ many))
book_steps many bytes cut_count cuts readers points wait_count waits fits e0 e1 e2 e3 e4 e5 =
    let k = complete cuts.0 in
    let t0 = u16_reads.takes bytes cut_count fits e0 in
    let t1 = each_takes next_cut_at cut_epoch cut_bytes IsNextCut next_cut_reads cut_count.0 0 cut_count.1 cuts t0.0.rest_fits e1 in
    let t2 = (within_reads many 1 2 15).takes cuts.1 readers t1.0.rest_fits e2 in
    let bounds = within_bounds many 2 15 readers.0 (omega arith) (omega arith) t2.1 in
    let t3 = each_takes next_point_at last_point u48 IsNextPoint next_point_reads readers.0 0 readers.1 points t2.0.rest_fits e3 in
    let t4 = u32_reads.takes points.1 wait_count t3.0.rest_fits e4 in
    let t5 = each_takes (next_wait_at many k readers.0) wait_place (advance_bytes many) (IsNextWait many k readers.0)
    (next_wait_reads many k readers.0 bounds.0 bounds.1) wait_count.0 (0, 0, 0) wait_count.1 waits t4.0.rest_fits e5 in
    let p1 = Takes-then bytes (u16 cut_count.0) cut_count.1 (flat_map cut_bytes cuts.0) cuts.1 t0.0 t1.0 in
    let q = Takes-then cuts.1 (byte_in many readers.0) readers.1 (flat_map u48 points.0) points.1 t2.0 t3.0 in
    let p2 = Takes-then bytes (u16 cut_count.0 ++ flat_map cut_bytes cuts.0) cuts.1 (byte_in many readers.0 ++ flat_map u48 points.0) points.1 p1 q in
    let p3 = Takes-then bytes (u16 cut_count.0 ++ flat_map cut_bytes cuts.0 ++ (byte_in many readers.0 ++ flat_map u48 points.0)) points.1
    (u32 wait_count.0) wait_count.1 p2 t4.0 in
    let p4 = Takes-then bytes (u16 cut_count.0 ++ flat_map cut_bytes cuts.0 ++ (byte_in many readers.0 ++ flat_map u48 points.0) ++ u32 wait_count.0)
    wait_count.1 (flat_map (advance_bytes many) waits.0) waits.1 p3 t5.0 in
    let cut_len : length cuts.0 ≡ cut_count.0 = t1.1 in
    let point_len : length points.0 ≡ readers.0 = t3.1 in
    let wait_len : length waits.0 ≡ wait_count.0 = t5.1 in
    let each = subst (λ (n : ℕ). EachFrom (IsNextWait many k n) wait_place (0, 0, 0) waits.0) (sym point_len) t5.2 in
    let roster = subst (λ (n : ℕ). IsWithin many 1 2 15 n) (sym point_len) t2.1 in
    let book = book_shape many cuts.0 points.0 waits.0 roster t1.2 t3.2 each (rw cut_len t0.1) (rw wait_len t4.1) in
    (rw (cut_len, point_len, wait_len) p4, (book, second_is many 15 (length points.0) roster))

book_takes : (many : Bool) (bytes : List ℕ) (x : BookData × List ℕ) → IsBytes bytes → book_at many bytes ≡ Ok x
    → Takes bytes (book_bytes many x.0) x.1 × (IsWireBook x.0 × (has_many x.0 ≡ many))
unfolding book_at
book_takes many bytes x fits e =
    let a0 = bind_ok (u16_at bytes) _ x e in
    let a1 = bind_ok (each_at next_cut_at cut_epoch a0.0.0 0 a0.0.1) _ x a0.2 in
    let a2 = bind_ok (within_at many 1 2 15 a1.0.1) _ x a1.2 in
    let a3 = bind_ok (each_at next_point_at last_point a2.0.0 0 a2.0.1) _ x a2.2 in
    let a4 = bind_ok (u32_at a3.0.1) _ x a3.2 in
    let a5 = bind_ok (each_at (next_wait_at many (complete a1.0.0) a2.0.0) wait_place a4.0.0 (0, 0, 0) a4.0.1) _ x a4.2 in
    let made : BookData × List ℕ = (book_of a1.0.0 (complete a1.0.0) a3.0.0 a5.0.0, a5.0.1) in
    subst (λ (y : BookData × List ℕ). Takes bytes (book_bytes many y.0) y.1 × (IsWireBook y.0 × (has_many y.0 ≡ many))) (ok_is made x a5.2)
    (book_steps many bytes a0.0 a1.0 a2.0 a3.0 a4.0 a5.0 fits a0.1 a1.1 a2.1 a3.1 a4.1 a5.1)

each_cut : (b : BookData) → IsWireBook b → EachFrom IsNextCut cut_epoch 0 b.cuts
each_cut b wire =
    let cuts = wire_cuts b wire.shape in
    let first = All-weaker IsWireCut (λ c. ltb 0 c.epoch ≡ true) (λ c w. lt-ltb 0 c.epoch (epoch_above_zero c w)) b.cuts cuts in
    each_from_rising (λ last c. ltb last c.epoch) (λ (c : CutData). c.epoch) CutBefore IsWireCut cut_tests 0 b.cuts first wire.shape.cuts_rise cuts

-- a reader of the roster may be in the form for that roster
reader_within : (many : Bool) (readers r : ℕ) → IsWithin many 1 2 15 readers → IsReader readers r → IsWithin many 1 1 readers r
reader_within many readers r roster is = search rules

each_wait : (many : Bool) (b : BookData) → IsWireBook b → IsWithin many 1 2 15 (length b.points)
    → EachFrom (IsNextWait many (complete b.cuts) (length b.points)) wait_place (0, 0, 0) b.waits
each_wait many b wire roster =
    let k = complete b.cuts in
    let n = length b.points in
    let first = All-weaker IsWireAdvance (λ a. is_wait_above (0, 0, 0) (place_of a) ≡ true)
    (λ a w. let f = (ranges a w).first in wait_above_zero a.epoch a.reader a.point (omega (arith, f))) b.waits wire.each_wait in
    let later : AllByRecursion (λ a. k < a.epoch) b.waits = subst (λ (m : ℕ). AllByRecursion (λ a. m < a.epoch) b.waits)
    (sym (complete_of_book b wire.shape)) (recursion_from_All (λ a. b.complete < a.epoch) b.waits wire.shape.waits_later) in
    let readers = recursion_from_All (λ a. IsReader n a.reader) b.waits wire.shape.waits_readers in
    let both = All-both (λ a. k < a.epoch) (λ a. IsReader n a.reader × IsWireAdvance a) b.waits later
    (All-both (λ a. IsReader n a.reader) IsWireAdvance b.waits readers wire.each_wait) in
    let all = All-weaker (λ a. (k < a.epoch) × (IsReader n a.reader × IsWireAdvance a)) (IsWait many k n)
    (λ a h. let l = h.0 in record { later = omega (arith, l); reader = reader_within many n a.reader roster h.1.0; wire = h.1.1 }) b.waits both in
    each_from_rising (λ last a. is_wait_above last (place_of a)) place_of AdvanceBefore (IsWait many k n) wait_tests (0, 0, 0) b.waits first
    wire.shape.waits_rise all

book_again : (many : Bool) (b : BookData) (rest : List ℕ) → IsWireBook b × (has_many b ≡ many) → book_at many (book_bytes many b ++ rest) ≡ Ok (b, rest)
unfolding book_at
book_again many b rest fits =
    let wire = fits.0 in
    let n = length b.points in
    let roster = within_second many 15 n wire.shape.roster.0 wire.shape.roster.1 fits.1 in
    let z4 = flat_map (advance_bytes many) b.waits ++ rest in
    let z3 = u32 (length b.waits) ++ z4 in
    let z2 = flat_map u48 b.points ++ z3 in
    let z1 = byte_in many n ++ z2 in
    let z0 = flat_map cut_bytes b.cuts ++ z1 in
    let regrouped : book_bytes many b ++ rest ≡ u16
    (length b.cuts) ++ (flat_map cut_bytes b.cuts ++ (byte_in many n ++ (flat_map u48 b.points ++ (u32
    (length b.waits) ++ (flat_map (advance_bytes many) b.waits ++ rest))))) = simp append_assoc in
    let readers = (within_reads many 1 2 15).again n z2 roster in
    let waits = each_again (next_wait_at many (complete b.cuts) n) wait_place (advance_bytes many) (IsNextWait many (complete b.cuts) n)
    (next_wait_reads many (complete b.cuts) n wire.shape.roster.0 wire.shape.roster.1) b.waits (0, 0, 0) rest (each_wait many b wire roster) in
    ap (book_at many) regrouped
    ∙ rw (
      u16_reads.again (length b.cuts) z0 wire.cut_count,
      each_again next_cut_at cut_epoch cut_bytes IsNextCut next_cut_reads b.cuts 0 z1
          (each_cut b wire),
      readers,
      each_again next_point_at last_point u48 IsNextPoint next_point_reads b.points 0 z3
          (each_point 0 b.points (recursion_from_All (λ p. p ≤ max_number) b.points wire.shape.points_shaped)),
      u32_reads.again (length b.waits) z4 wire.wait_count,
      waits,
      complete_of_book b wire.shape,
    ) refl

pub book_reads : (many : Bool) → Reads (book_at many) (book_bytes many) (λ b. IsWireBook b × (has_many b ≡ many))
book_reads many = record { takes = book_takes many; again = book_again many }

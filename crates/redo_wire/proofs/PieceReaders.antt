-- Pieces: what is read is encoded so, and what is encoded so is read.
use Rattle.std.proofs.Common.{◌≡◌, ℕ, zero, suc, ◌<◌, ◌≤◌, Bool, true, false, cond, ltb, leb, eqb, List, [], ◌∷◌, ◌++◌, length, Ok, refl, sym, ap, subst, ◌∙◌, append_assoc, arith, rules}
use Rattle.std.specs.Prelude.{not, ◌&&◌}
use Rattle.std.specs.List.{flat_map}
use Rattle.std.proofs.lemmas.Bool.{ltb-true, leb-true, lt-ltb, le-leb, and_parts}
use Rattle.redo_core.specs.Book.{BookData}
use Rattle.redo_core.specs.Keys.{key_in, key_of}
use Rattle.redo_core.specs.Data.{RecordData}
use Rattle.redo_core.specs.Order.{RecordBefore}
use Rattle.redo_core.specs.Meaning.{ImageData}
use Rattle.messages.specs.declared.pieces.PieceContent.{PieceContent}
use Rattle.messages.specs.declared.pieces.PieceContent.TheVariants.{Head, Page, Records}
use Rattle.redo_wire.specs.Reading.{Read, shaped, known, mapped}
use Rattle.redo_wire.specs.Fields.{byte_at, u32_at, u48_at, u64_at, u32, u48, u64}
use Rattle.redo_wire.specs.Lists.{each_at}
use Rattle.redo_wire.specs.Places.{is_above}
use Rattle.redo_wire.specs.Records.{IsWireRecord, record_bytes}
use Rattle.messages.specs.Books.{book_min}
use Rattle.redo_wire.specs.Books.{book_bytes}
use Rattle.redo_wire.specs.BookReading.{book_at}
use Rattle.redo_wire.specs.Deltas.{image_bytes}
use Rattle.redo_wire.specs.DeltaReading.{image_at, record_place, next_record_at}
use Rattle.messages.specs.Pieces.{PieceData, piece_of, is_head, IsContent, IsPiece}
use Rattle.redo_wire.specs.Pieces.{IsWireContent, IsWirePiece, kind_of, is_for_many, content_bytes, piece_part_bytes, piece_bytes}
use Rattle.redo_wire.specs.PieceReading.{last_kind, is_in_place, head_content_at, records_content_at, content_at, piece_part_at, piece_at}
use Rattle.redo_wire.proofs.Readers.{IsBytes, bind_ok, ok_is, shaped_ok, mapped_ok, Takes, Takes-then, Reads}
use Rattle.redo_wire.proofs.FieldReaders.{byte_reads, u32_reads, u48_reads, u64_reads}
use Rattle.redo_wire.proofs.FormReaders.{form_then}
use Rattle.redo_wire.proofs.ListReaders.{each_takes, each_again}
use Rattle.redo_wire.proofs.Orders.{rising_from_each, key_tests}
use Rattle.messages.proofs.BookMins.{min_small}
use Rattle.redo_wire.proofs.BookReaders.{book_reads}
use Rattle.redo_wire.proofs.DeltaReaders.{IsNextRecord, next_record_reads, each_record, image_reads, read_image, written_page}

-- ---- what a piece contains

-- a content that may be read after a kind, in the form for one reader or for several
pub record IsRead (many : Bool) (kind : ℕ) (c : PieceContent) : Type 0 where
  pub kind_is : kind_of c ≡ kind
  pub many_is : is_for_many c ≡ many
  pub shape : IsContent c
  pub wire : IsWireContent c

head_steps : (many : Bool) (bytes : List ℕ) (b : BookData × List ℕ) (anchor : ℕ × List ℕ) → IsBytes bytes → book_at many bytes ≡ Ok b
    → u48_at b.1 ≡ Ok anchor → anchor.0 ≤ book_min b.0
    → let c = Head b.0 anchor.0 in Takes bytes (content_bytes many c) anchor.1 × IsRead many 0 c
head_steps many bytes b anchor fits e0 e1 low =
    let t0 = (book_reads many).takes bytes b fits e0 in
    let t1 = u48_reads.takes b.1 anchor t0.0.rest_fits e1 in
    let both = Takes-then bytes (book_bytes many b.0) b.1 (u48 anchor.0) anchor.1 t0.0 t1.0 in
    (both, record { kind_is = refl; many_is = t0.1.1; shape = (t0.1.0.shape, low); wire = t0.1.0 })

head_takes : (many : Bool) (bytes : List ℕ) (x : PieceContent × List ℕ) → IsBytes bytes → head_content_at many bytes ≡ Ok x
    → Takes bytes (content_bytes many x.0) x.1 × IsRead many 0 x.0
unfolding head_content_at
head_takes many bytes x fits e =
    let a0 = bind_ok (book_at many bytes) _ x e in
    let a1 = bind_ok (shaped (λ a. leb a (book_min a0.0.0)) (u48_at a0.0.1)) _ x a0.2 in
    let s1 = shaped_ok (λ a. leb a (book_min a0.0.0)) (u48_at a0.0.1) a1.0 a1.1 in
    let made : PieceContent × List ℕ = (Head a0.0.0 a1.0.0, a1.0.1) in
    subst (λ (y : PieceContent × List ℕ). Takes bytes (content_bytes many y.0) y.1 × IsRead many 0 y.0) (ok_is made x a1.2)
    (head_steps many bytes a0.0 a1.0 fits a0.1 s1.0 (leb-true _ _ s1.1))

head_again : (many : Bool) (b : BookData) (anchor : ℕ) (rest : List ℕ) → IsRead many 0 (Head b anchor)
    → head_content_at many (content_bytes many (Head b anchor) ++ rest) ≡ Ok (Head b anchor, rest)
unfolding head_content_at
head_again many b anchor rest fits =
    let low = fits.shape.1 in
    let small = min_small b fits.shape.0 in
    let z0 = u48 anchor ++ rest in
    let regrouped : content_bytes many (Head b anchor) ++ rest ≡ book_bytes many b ++ z0 = append_assoc (book_bytes many b) (u48 anchor) rest in
    ap (head_content_at many) regrouped
    ∙ rw (
      (book_reads many).again b z0 (fits.wire, fits.many_is),
      u48_reads.again anchor rest (omega (arith, low, small)),
      le-leb anchor (book_min b) low,
    ) refl

records_steps : (bytes : List ℕ) (count : ℕ × List ℕ) (records : List RecordData × List ℕ) → IsBytes bytes → byte_at bytes ≡ Ok count
    → (0 < count.0) × (count.0 ≤ 64) → each_at next_record_at record_place count.0 (key_in 0 0) count.1 ≡ Ok records
    → let c = Records records.0 in Takes bytes (content_bytes false c) records.1 × IsRead false 2 c
records_steps bytes count records fits e0 few e1 =
    let t0 = byte_reads.takes bytes count fits e0 in
    let t1 = each_takes next_record_at record_place record_bytes IsNextRecord next_record_reads count.0 (key_in 0 0) count.1 records t0.0.rest_fits e1 in
    let both = Takes-then bytes (count.0 ∷ []) count.1 (flat_map record_bytes records.0) records.1 t0.0 t1.0 in
    let len : length records.0 ≡ count.0 = t1.1 in
    let rise = rising_from_each (λ last r. is_above last (key_of r)) key_of RecordBefore IsWireRecord
    (key_tests key_of) (key_in 0 0) records.0 t1.2 in
    let some : 0 < length records.0 = rw len few.0 in
    let most : length records.0 ≤ 64 = rw len few.1 in
    (rw len both, record { kind_is = refl; many_is = refl; shape = (some, most, rise.1); wire = rise.2 })

records_takes : (bytes : List ℕ) (x : PieceContent × List ℕ) → IsBytes bytes → records_content_at bytes ≡ Ok x
    → Takes bytes (content_bytes false x.0) x.1 × IsRead false 2 x.0
unfolding records_content_at
records_takes bytes x fits e =
    let a0 = bind_ok (shaped (λ n. ltb 0 n && leb n 64) (byte_at bytes)) _ x e in
    let s0 = shaped_ok (λ n. ltb 0 n && leb n 64) (byte_at bytes) a0.0 a0.1 in
    let a1 = bind_ok (each_at next_record_at record_place a0.0.0 (key_in 0 0) a0.0.1) _ x a0.2 in
    let rules = and_parts _ _ s0.1 in
    let made : PieceContent × List ℕ = (Records a1.0.0, a1.0.1) in
    subst (λ (y : PieceContent × List ℕ). Takes bytes (content_bytes false y.0) y.1 × IsRead false 2 y.0) (ok_is made x a1.2)
    (records_steps bytes a0.0 a1.0 fits s0.0 (ltb-true _ _ rules.0, leb-true _ _ rules.1) a1.1)

records_again : (rs : List RecordData) (rest : List ℕ) → IsRead false 2 (Records rs)
    → records_content_at (content_bytes false (Records rs) ++ rest) ≡ Ok (Records rs, rest)
unfolding records_content_at
records_again rs rest fits = search (rules, each_again, next_record_reads, each_record)

page_takes : (bytes : List ℕ) (x : PieceContent × List ℕ) → IsBytes bytes → mapped Page (image_at bytes) ≡ Ok x
    → Takes bytes (content_bytes false x.0) x.1 × IsRead false 1 x.0
page_takes bytes x fits e =
    let m = mapped_ok Page (image_at bytes) x e in
    let t = image_reads.takes bytes (m.0, x.1) fits m.1 in
    let read : IsRead false 1 (Page m.0) = record { kind_is = refl; many_is = refl; shape = written_page m.0.bytes t.1.1; wire = t.1.0 } in
    subst (λ (c : PieceContent). Takes bytes (content_bytes false c) x.1 × IsRead false 1 c) m.2 (t.0, read)

page_again : (p : ImageData) (rest : List ℕ) → IsRead false 1 (Page p) → mapped Page (image_at (image_bytes p ++ rest)) ≡ Ok (Page p, rest)
page_again p rest fits = ap (mapped Page) (image_reads.again p rest (read_image p (fits.wire, fits.shape)))

-- a content after each kind that the form has
content_takes : (many : Bool) (kind : ℕ) → kind ≤ last_kind many → (bytes : List ℕ) (x : PieceContent × List ℕ) → IsBytes bytes
    → content_at many kind bytes ≡ Ok x → Takes bytes (content_bytes many x.0) x.1 × IsRead many kind x.0
unfolding content_at
content_takes many zero le bytes x fits e = head_takes many bytes x fits e
content_takes false (suc zero) le bytes x fits e = page_takes bytes x fits e
content_takes false (suc (suc zero)) le bytes x fits e = records_takes bytes x fits e
content_takes false (suc (suc (suc k))) le bytes x fits e = absurd (omega arith)
content_takes true (suc k) le bytes x fits e = absurd (omega arith)

content_again : (many : Bool) (c : PieceContent) (rest : List ℕ) → is_for_many c ≡ many → IsContent c → IsWireContent c
    → content_at many (kind_of c) (content_bytes many c ++ rest) ≡ Ok (c, rest)
unfolding content_at
content_again many c rest many_is shape wire = search (rules, head_again, page_again, records_again)

-- ---- kinds in order

known_ok : {A : Type 0} (rule : A → Bool) (r : Read A) (y : A × List ℕ) → known rule r ≡ Ok y → (r ≡ Ok y) × (rule y.0 ≡ true)
known_ok rule r y e = search rules

-- the last kind of a content's form is not below its own
kind_known : (many : Bool) (c : PieceContent) → is_for_many c ≡ many → kind_of c ≤ last_kind many
kind_known many c is = search rules

kind_told : (c : PieceContent) (is_zero : Bool) → cond is_zero (eqb (kind_of c) 0) (not (eqb (kind_of c) 0)) ≡ true → is_head c ≡ is_zero
kind_told c is_zero e = search rules

kind_placed : (c : PieceContent) (is_zero : Bool) → is_head c ≡ is_zero → cond is_zero (eqb (kind_of c) 0) (not (eqb (kind_of c) 0)) ≡ true
kind_placed c is_zero e = search rules

-- ---- pieces

pub piece_steps : (many : Bool) (bytes : List ℕ) (name index total kind : ℕ × List ℕ) (content : PieceContent × List ℕ) → IsBytes bytes
    → u64_at bytes ≡ Ok name → u32_at name.1 ≡ Ok index → u32_at index.1 ≡ Ok total → index.0 < total.0
    → known (λ k. leb k (last_kind many)) (byte_at total.1) ≡ Ok kind → is_in_place index.0 kind.0 ≡ true → content_at many kind.0 kind.1 ≡ Ok content
    → let p = piece_of name.0 index.0 total.0 content.0 in Takes bytes (piece_part_bytes many p) content.1 × (IsWirePiece p × (is_for_many content.0 ≡ many))
piece_steps many bytes name index total kind content fits e0 e1 e2 below e3 place e4 =
    let k = known_ok (λ k. leb k (last_kind many)) (byte_at total.1) kind e3 in
    let t0 = u64_reads.takes bytes name fits e0 in
    let t1 = u32_reads.takes name.1 index t0.0.rest_fits e1 in
    let t2 = u32_reads.takes index.1 total t1.0.rest_fits e2 in
    let t3 = byte_reads.takes total.1 kind t2.0.rest_fits k.0 in
    let t4 = content_takes many kind.0 (leb-true _ _ k.1) kind.1 content t3.0.rest_fits e4 in
    let p1 = Takes-then bytes (u64 name.0) name.1 (u32 index.0) index.1 t0.0 t1.0 in
    let p2 = Takes-then bytes (u64 name.0 ++ u32 index.0) index.1 (u32 total.0) total.1 p1 t2.0 in
    let p3 = Takes-then bytes (u64 name.0 ++ u32 index.0 ++ u32 total.0) total.1 (kind.0 ∷ []) kind.1 p2 t3.0 in
    let p4 = Takes-then bytes (u64 name.0 ++ u32 index.0 ++ u32 total.0 ++ (kind.0 ∷ [])) kind.1 (content_bytes many content.0) content.1 p3 t4.0 in
    let kind_is : kind.0 ≡ kind_of content.0 = sym t4.1.kind_is in
    let placed : is_in_place index.0 (kind_of content.0) ≡ true = subst (λ (n : ℕ). is_in_place index.0 n ≡ true) kind_is place in
    let encoded = subst (λ (n : ℕ). Takes bytes (u64 name.0 ++ u32 index.0 ++ u32 total.0 ++ (n ∷ []) ++ content_bytes many content.0) content.1) kind_is p4 in
    let shape : IsPiece (piece_of name.0 index.0 total.0 content.0) = record
    { index = below; first = kind_told content.0 (eqb index.0 0) placed; content = t4.1.shape } in
    (encoded, (record { shape = shape; name = t0.1; index = t1.1; total = t2.1; content = t4.1.wire }, t4.1.many_is))

piece_part_takes : (many : Bool) (bytes : List ℕ) (x : PieceData × List ℕ) → IsBytes bytes → piece_part_at many bytes ≡ Ok x
    → Takes bytes (piece_part_bytes many x.0) x.1 × (IsWirePiece x.0 × (is_for_many x.0.content ≡ many))
unfolding piece_part_at
piece_part_takes many bytes x fits e =
    let a0 = bind_ok (u64_at bytes) _ x e in
    let a1 = bind_ok (u32_at a0.0.1) _ x a0.2 in
    let a2 = bind_ok (shaped (λ n. ltb a1.0.0 n) (u32_at a1.0.1)) _ x a1.2 in
    let s2 = shaped_ok (λ n. ltb a1.0.0 n) (u32_at a1.0.1) a2.0 a2.1 in
    let a3 = bind_ok (shaped (λ k. is_in_place a1.0.0 k) (known (λ k. leb k (last_kind many)) (byte_at a2.0.1))) _ x a2.2 in
    let s3 = shaped_ok (λ k. is_in_place a1.0.0 k) (known (λ k. leb k (last_kind many)) (byte_at a2.0.1)) a3.0 a3.1 in
    let a4 = bind_ok (content_at many a3.0.0 a3.0.1) _ x a3.2 in
    let made : PieceData × List ℕ = (piece_of a0.0.0 a1.0.0 a2.0.0 a4.0.0, a4.0.1) in
    subst (λ (y : PieceData × List ℕ). Takes bytes (piece_part_bytes many y.0) y.1 × (IsWirePiece y.0 × (is_for_many y.0.content ≡ many))) (ok_is made x a4.2)
    (piece_steps many bytes a0.0 a1.0 a2.0 a3.0 a4.0 fits a0.1 a1.1 s2.0 (ltb-true _ _ s2.1) s3.0 s3.1 a4.1)

piece_part_again : (many : Bool) (p : PieceData) (rest : List ℕ) → IsWirePiece p × (is_for_many p.content ≡ many)
    → piece_part_at many (piece_part_bytes many p ++ rest) ≡ Ok (p, rest)
unfolding piece_part_at
piece_part_again many p rest fits =
    let wire = fits.0 in
    let z3 = content_bytes many p.content ++ rest in
    let z2 = kind_of p.content ∷ z3 in
    let z1 = u32 p.total ++ z2 in
    let z0 = u32 p.index ++ z1 in
    let regrouped : piece_part_bytes many p ++ rest ≡ u64 p.name ++ z0 = simp append_assoc in
    ap (piece_part_at many) regrouped
    ∙ rw (
      u64_reads.again p.name z0 wire.name,
      u32_reads.again p.index z1 wire.index,
      u32_reads.again p.total z2 wire.total,
      lt-ltb p.index p.total wire.shape.index,
      le-leb (kind_of p.content) (last_kind many) (kind_known many p.content fits.1),
      kind_placed p.content (eqb p.index 0) wire.shape.first,
      content_again many p.content rest fits.1 wire.shape.content wire.content,
    ) refl

piece_part_reads : (many : Bool) → Reads (piece_part_at many) (piece_part_bytes many) (λ p. IsWirePiece p × (is_for_many p.content ≡ many))
piece_part_reads many = record { takes = piece_part_takes many; again = piece_part_again many }

pub piece_reads : Reads piece_at piece_bytes IsWirePiece
unfolding piece_at
piece_reads = form_then 18 34 piece_part_at piece_part_bytes (λ p. is_for_many p.content) IsWirePiece (λ e. omega (arith, e)) piece_part_reads

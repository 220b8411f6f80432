-- How many bytes encode each part of a delta.
use Rattle.std.proofs.Common.{◌≡◌, ℕ, ◌+◌, ◌*◌, Bool, true, false, cond, Bor, List, [], ◌∷◌, ◌++◌, length, map, refl, ap, ◌∙◌, sym, ◌<◌, get_or, take, arith, length-append, length-drop}
use Rattle.std.proofs.lemmas.List.{append-nil, take_more}
use Rattle.std.proofs.lemmas.List.Concat.{flat_map-append}
use Rattle.std.specs.List.{AllByRecursion, flat_map}
use Rattle.std.specs.Int.{w64, to_be_bytes}
use Rattle.redo_core.specs.Book.{BookData}
use Rattle.redo_core.specs.Data.{CutData, AdvanceData, RecordData}
use Rattle.redo_core.specs.Meaning.{ImageData}
use Rattle.redo_core.specs.Shape.{page_len}
use Rattle.redo_core.specs.Writes.{WriteData}
use Rattle.redo_core.specs.declared.patches.Patch.TheVariants.{Bytes, Fill}
use Rattle.messages.specs.Books.{has_many}
use Rattle.messages.specs.Deltas.{DeltaData}
use Rattle.redo_wire.specs.Fields.{number, u16, u32, u48}
use Rattle.redo_wire.specs.Forms.{form_bytes, byte_in}
use Rattle.redo_wire.specs.Facts.{cut_bytes, advance_bytes}
use Rattle.redo_wire.specs.Records.{is_full, patch_bytes, body_bytes, record_bytes}
use Rattle.redo_wire.specs.Books.{book_bytes}
use Rattle.redo_wire.specs.Deltas.{image_bytes, delta_bytes}
use Rattle.redo_wire.proofs.FieldReaders.{wide16, wide32, wide64}

-- ---- fields
len16 : (n : ℕ) → length (u16 n) ≡ 2
unfolding number
len16 n = wide16.len n

len32 : (n : ℕ) → length (u32 n) ≡ 4
unfolding number
len32 n = wide32.len n

len48 : (n : ℕ) → length (u48 n) ≡ 6
unfolding u48
len48 n = let whole : length (to_be_bytes w64 n) ≡ 8 = wide64.len n in simp length-drop (omega (arith, whole))

-- the byte that only the second form has
abbrev pub extra : Bool → ℕ
extra many = cond many 1 0

len_in : (many : Bool) (n : ℕ) → length (byte_in many n) ≡ extra many
len_in true n = refl
len_in false n = refl

len_form : (first second : ℕ) (many : Bool) → length (form_bytes first second many) ≡ 1
len_form first second true = refl
len_form first second false = refl

-- elements of one length
len_each : {X : Type 0} (f : X → List ℕ) (k : ℕ) (xs : List X) → ((x : X) → length (f x) ≡ k) → length (flat_map f xs) ≡ k * length xs
len_each f k [] each = grind arith
len_each f k (x ∷ xs) each =
    let here : length (f x) ≡ k = each x in
    let rest : length (flat_map f xs) ≡ k * length xs = len_each f k xs each in
    length-append (f x) (flat_map f xs) ∙ grind (arith, here, rest)

-- one element more
pub len_more : {X : Type 0} (f : X → List ℕ) (xs : List X) (i : ℕ) (x : X) → i < length xs → x ≡ get_or xs i x
    → length (flat_map f (take (i + 1) xs)) ≡ length (flat_map f (take i xs)) + length (f x)
len_more f xs i x lt is =
    let y = get_or xs i x in
    let front = flat_map f (take i xs) in
    ap (λ l. length (flat_map f l)) (take_more xs i x lt) ∙ ap length (flat_map-append f (take i xs) (y ∷ [])) ∙ length-append front (f y ++ [])
    ∙ ap (λ n. length front + n) (ap length (append-nil (f y)) ∙ ap (λ z. length (f z)) (sym is))

-- ---- records
pub write_len : (full : Bool) (w : WriteData) → length (patch_bytes full (Bytes w)) ≡ extra full + 4 + length w.bytes
write_len full w = simp (length-append, len16, len_in) (omega arith)

pub fill_len : (full : Bool) (offset len byte : ℕ) → length (patch_bytes full (Fill offset len byte)) ≡ 6
fill_len full offset len byte = simp (length-append, len16) refl

pub body_len : (full : Bool) (r : RecordData) → length (body_bytes full r) ≡ extra full + 1 + length (flat_map (patch_bytes full) r.patches)
body_len full r = simp (length-append, len_in) (omega arith)

pub record_len : (r : RecordData) → length (record_bytes r) ≡ 23 + length (body_bytes (is_full r) r)
record_len r = simp (length-append, len_form, len16, len48) (omega arith)

pub records_len : (rs : List (Bor RecordData)) → length (flat_map (λ r. record_bytes r.now) rs) ≡ length (flat_map record_bytes (map (λ r. r.now) rs))
records_len [] = refl
records_len (r ∷ rs) =
    length-append (record_bytes r.now) (flat_map (λ (x : Bor RecordData). record_bytes x.now) rs)
    ∙ ap (λ n. length (record_bytes r.now) + n) (records_len rs)
    ∙ sym (length-append (record_bytes r.now) (flat_map record_bytes (map (λ (x : Bor RecordData). x.now) rs)))

-- ---- books
cut_len : (c : CutData) → length (cut_bytes c) ≡ 14
cut_len c = simp (length-append, len16, len48) refl

wait_len : (many : Bool) (a : AdvanceData) → length (advance_bytes many a) ≡ 8 + extra many
wait_len many a = simp (length-append, len16, len48, len_in) (omega arith)

pub book_len : (many : Bool) (b : BookData)
    → length (book_bytes many b) ≡ 6 + 14 * length b.cuts + extra many + 6 * length b.points + (8 + extra many) * length b.waits
book_len many b =
    let cuts : length (flat_map cut_bytes b.cuts) ≡ 14 * length b.cuts = len_each cut_bytes 14 b.cuts cut_len in
    let points : length (flat_map u48 b.points) ≡ 6 * length b.points = len_each u48 6 b.points len48 in
    let waits : length (flat_map (advance_bytes many) b.waits) ≡ (8 + extra many) * length b.waits =
    len_each (advance_bytes many) (8 + extra many) b.waits (wait_len many) in
    simp (length-append, len16, len32, len_in) (omega (arith, cuts, points, waits))

-- ---- deltas
abbrev pub AreLong : List ImageData → Type 0
AreLong pages = AllByRecursion (λ p. length p.bytes ≡ page_len) pages

pages_len : (pages : List ImageData) → AreLong pages → length (flat_map image_bytes pages) ≡ 4098 * length pages
pages_len [] long = grind arith
pages_len (p ∷ pages) long =
    let here : length (image_bytes p) ≡ 4098 = length-append (u16 p.page) p.bytes ∙ (let n = len16 p.page in omega (arith, n, long.0)) in
    let rest : length (flat_map image_bytes pages) ≡ 4098 * length pages = pages_len pages long.1 in
    length-append (image_bytes p) (flat_map image_bytes pages) ∙ omega (arith, here, rest)

pub delta_len : (d : DeltaData) → AreLong d.pages
    → length (delta_bytes d) ≡ 15 + length (book_bytes (has_many d.book) d.book) + 4098 * length d.pages + length (flat_map record_bytes d.records)
delta_len d long =
    let pages : length (flat_map image_bytes d.pages) ≡ 4098 * length d.pages = pages_len d.pages long in
    simp (length-append, len_form, len32, len48) (omega (arith, pages))

-- Reading looks no further than it got: with more bytes after, what was read is read again, and so is each fault but short.
-- And it never ends in the fault of encoding, a list that is too long.
use Rattle.std.proofs.Common.{◌≡◌, ℕ, zero, suc, ◌<◌, ◌⊎◌, inl, inr, Bool, true, false, cond, List, [], ◌∷◌, ◌++◌, Result, Ok, Err, refl, ltb, leb, eqb, length, take, drop, arith, rules}
use Rattle.std.proofs.lemmas.Grind.{common_steps}
use Rattle.std.specs.Int.{Width, w64, byte_len, from_be_bytes}
use Rattle.std.proofs.lemmas.List.{length-append}
use Rattle.std.proofs.lemmas.Bool.Decides.{nat_tests}
use Rattle.redo_core.specs.Keys.{key_in, key_of}
use Rattle.redo_core.specs.declared.keys.Key.{Key}
use Rattle.redo_wire.specs.declared.faults.WireFault.{WireFault}
use Rattle.redo_wire.specs.declared.faults.WireFault.TheVariants.{Short, UnknownTag, Shape, Order, Rest, TooLong}
use Rattle.redo_wire.specs.Reading.{◌>>=◌, Read, shaped, known, ordered, mapped, whole}
use Rattle.redo_wire.specs.Fields.{byte_at, bytes_at, number_at, u48_at}
use Rattle.redo_wire.specs.Lists.{each_at}
use Rattle.redo_wire.specs.Laws.{FaultsStay, BeginningsAreShort, RestIsBehind}
use Rattle.redo_wire.specs.Places.{is_above, WaitPlace}
use Rattle.redo_wire.specs.Forms.{form_at, within_at}
use Rattle.redo_wire.specs.RecordReading.{write_at, fill_at, kind_at, patch_at, left_after, head_at, record_part_at, record_at}
use Rattle.redo_wire.specs.FactReading.{cut_at, advance_at, tagged_advance_at, fact_at, decoded_fact}
use Rattle.redo_wire.specs.BookReading.{next_cut_at, cut_epoch, next_point_at, last_point, complete, next_wait_at, wait_place, book_at}
use Rattle.redo_wire.specs.SummaryReading.{key_at, next_key_at, key_place, summary_part_at, summary_at, decoded_summary}
use Rattle.redo_wire.specs.DeltaReading.{image_at, next_image_at, page_after, next_record_at, record_place, delta_part_at, delta_at, decoded_delta}
use Rattle.redo_wire.specs.PieceReading.{last_kind, is_in_place, head_content_at, records_content_at, content_at, piece_part_at, piece_at, decoded_piece}
use Rattle.redo_wire.specs.declared.values.WireValue.{WireValue}
use Rattle.redo_wire.specs.declared.values.WireValue.TheVariants.{Fact, Summary, Delta, Piece}
use Rattle.redo_wire.specs.Values.{is_summary_tag, is_delta_tag, is_piece_tag, valued, decoded_value}

-- what was read, with more bytes left
abbrev extended : {A : Type 0} → List ℕ → Read A → Read A
extended y (Ok x) = Ok (x.0, x.1 ++ y)
extended y (Err f) = Err f

-- r was read of some bytes, and s of the same with y after
abbrev Extends : {A : Type 0} → List ℕ → Read A → Read A → Type 0
Extends y r s = (r ≡ Err Short) ⊎ (s ≡ extended y r)

-- the reading does not end in the fault of encoding
abbrev IsReading : {A : Type 0} → Result A WireFault → Type 0
IsReading r = r ≡ Err TooLong → ⊥

-- both of a reading of some bytes, and of the same with y after
record Follows {A : Type 0} (y : List ℕ) (r s : Read A) : Type 0 where
  reads : IsReading r
  extends : Extends y r s

bind_ext : {A B : Type 0} (y : List ℕ) (r s : Read A) (f : A × List ℕ → Read B) → Follows y r s
    → ((v : A) (rest : List ℕ) → Follows y (f (v, rest)) (f (v, rest ++ y))) → Follows y (r >>= f) (s >>= f)
bind_ext y r s f h k = search rules

choice_ext : {A : Type 0} (y : List ℕ) (b : Bool) (p q r s : Read A) → Follows y p r → Follows y q s → Follows y (cond b p q) (cond b r s)
choice_ext y b p q r s h k = search rules

done : {A : Type 0} (y : List ℕ) (v : A) (rest : List ℕ) → Follows y (Ok (v, rest)) (Ok (v, rest ++ y))
done y v rest = record { reads = λ e. absurd cc; extends = inr refl }

abbrev fault : (A : Type 0) → WireFault → Read A
fault A f = Err f

ends_in : (A : Type 0) (y : List ℕ) (f : WireFault) → (f ≡ TooLong → ⊥) → Follows y (fault A f) (fault A f)
ends_in A y f other = record { reads = λ e. other cc; extends = inr refl }

is_short : {A : Type 0} (y : List ℕ) (s : Read A) → Follows y (Err Short) s
is_short y s = record { reads = λ e. absurd cc; extends = inl refl }

unknown_tag : (A : Type 0) (y : List ℕ) → Follows y (fault A UnknownTag) (fault A UnknownTag)
unknown_tag A y = ends_in A y UnknownTag (λ e. absurd cc)

judged_ext : {A : Type 0} (y : List ℕ) (rule : A → Bool) (f : WireFault) (r s : Read A) → (f ≡ TooLong → ⊥) → Follows y r s
    → Follows y (r >>= λ x. cond (rule x.0) (Ok x) (Err f)) (s >>= λ x. cond (rule x.0) (Ok x) (Err f))
judged_ext y rule f r s other h = search rules

shaped_is : {A : Type 0} (rule : A → Bool) (r : Read A) → shaped rule r ≡ (r >>= λ x. cond (rule x.0) (Ok x) (Err Shape))
shaped_is rule r = search rules

shaped_ext : {A : Type 0} (y : List ℕ) (rule : A → Bool) (r s : Read A) → Follows y r s → Follows y (shaped rule r) (shaped rule s)
shaped_ext y rule r s h = rw (shaped_is rule r, shaped_is rule s) (judged_ext y rule Shape r s (λ e. absurd cc) h)

ordered_is : {A : Type 0} (rule : A → Bool) (r : Read A) → ordered rule r ≡ (r >>= λ x. cond (rule x.0) (Ok x) (Err Order))
ordered_is rule r = search rules

ordered_ext : {A : Type 0} (y : List ℕ) (rule : A → Bool) (r s : Read A) → Follows y r s → Follows y (ordered rule r) (ordered rule s)
ordered_ext y rule r s h = rw (ordered_is rule r, ordered_is rule s) (judged_ext y rule Order r s (λ e. absurd cc) h)

known_is : {A : Type 0} (rule : A → Bool) (r : Read A) → known rule r ≡ (r >>= λ x. cond (rule x.0) (Ok x) (Err UnknownTag))
known_is rule r = search rules

known_ext : {A : Type 0} (y : List ℕ) (rule : A → Bool) (r s : Read A) → Follows y r s → Follows y (known rule r) (known rule s)
known_ext y rule r s h = rw (known_is rule r, known_is rule s) (judged_ext y rule UnknownTag r s (λ e. absurd cc) h)

mapped_is : {A B : Type 0} (f : A → B) (r : Read A) → mapped f r ≡ (r >>= λ x. Ok (f x.0, x.1))
mapped_is f r = search rules

mapped_ext : {A B : Type 0} (y : List ℕ) (f : A → B) (r s : Read A) → Follows y r s → Follows y (mapped f r) (mapped f s)
mapped_ext y f r s h = rw (mapped_is f r, mapped_is f s) (bind_ext y r s (λ x. Ok (f x.0, x.1)) h (λ v rest. done y (f v) rest))

byte_ext : (y bytes : List ℕ) → Follows y (byte_at bytes) (byte_at (bytes ++ y))
byte_ext y bytes = search rules

bytes_split : (y : List ℕ) (n : ℕ) (bytes : List ℕ) (b c : Bool) → ltb (length bytes) n ≡ b → ltb (length (bytes ++ y)) n ≡ c
    → Follows y (cond b (Err Short) (Ok (take n bytes, drop n bytes))) (cond c (Err Short) (Ok (take n (bytes ++ y), drop n (bytes ++ y))))
bytes_split y n bytes b c p q = grind (arith, common_steps)

bytes_ext : (y : List ℕ) (n : ℕ) (bytes : List ℕ) → Follows y (bytes_at n bytes) (bytes_at n (bytes ++ y))
bytes_ext y n bytes = bytes_split y n bytes (ltb (length bytes) n) (ltb (length (bytes ++ y)) n) refl refl

number_ext : (y : List ℕ) (w : Width) (bytes : List ℕ) → Follows y (number_at w bytes) (number_at w (bytes ++ y))
unfolding number_at
number_ext y w bytes = mapped_ext y (from_be_bytes w) _ _ (bytes_ext y (byte_len w) bytes)

u48_ext : (y bytes : List ℕ) → Follows y (u48_at bytes) (u48_at (bytes ++ y))
unfolding u48_at
u48_ext y bytes = mapped_ext y (λ text. from_be_bytes w64 (0 ∷ 0 ∷ text)) _ _ (bytes_ext y 6 bytes)

each_ext : {S A : Type 0} (y : List ℕ) (step : S → List ℕ → Read A) (next : S → A → S)
    → ((s : S) (bytes : List ℕ) → Follows y (step s bytes) (step s (bytes ++ y))) → (n : ℕ) (s : S) (bytes : List ℕ)
    → Follows y (each_at step next n s bytes) (each_at step next n s (bytes ++ y))
unfolding each_at
each_ext y step next steps zero s bytes = done y _ _
each_ext y step next steps (suc n) s bytes =
    bind_ext y _ _ _ (steps s bytes) (λ v rest. bind_ext y _ _ _ (each_ext y step next steps n (next s v) rest) (λ others left. done y _ _))

form_ext : (y : List ℕ) (first second : ℕ) (bytes : List ℕ) → Follows y (form_at first second bytes) (form_at first second (bytes ++ y))
unfolding form_at
form_ext y first second bytes = search rules

within_ext : (y : List ℕ) (second : Bool) (absent lo hi : ℕ) (bytes : List ℕ)
    → Follows y (within_at second absent lo hi bytes) (within_at second absent lo hi (bytes ++ y))
within_ext y second absent lo hi bytes = search rules

write_ext : (y : List ℕ) (left : ℕ) (bytes : List ℕ) → Follows y (write_at left bytes) (write_at left (bytes ++ y))
unfolding write_at
write_ext y left bytes = search (rules, bind_ext, number_ext, shaped_ext, bytes_ext, done)

fill_ext : (y bytes : List ℕ) → Follows y (fill_at bytes) (fill_at (bytes ++ y))
unfolding fill_at
fill_ext y bytes = search (rules, bind_ext, number_ext, shaped_ext, byte_ext, done)

kind_ext : (y : List ℕ) (kind left : ℕ) (bytes : List ℕ) → Follows y (kind_at kind left bytes) (kind_at kind left (bytes ++ y))
kind_ext y kind left bytes = search (rules, choice_ext, mapped_ext, write_ext, fill_ext, unknown_tag)

patch_ext : (y : List ℕ) (full : Bool) (left : ℕ) (bytes : List ℕ) → Follows y (patch_at full left bytes) (patch_at full left (bytes ++ y))
unfolding patch_at
patch_ext y false left bytes = mapped_ext y _ _ _ (write_ext y left bytes)
patch_ext y true left bytes = bind_ext y _ _ _ (byte_ext y bytes) (λ kind rest. kind_ext y kind left rest)

head_ext : (y bytes : List ℕ) → Follows y (head_at bytes) (head_at (bytes ++ y))
unfolding head_at
head_ext y bytes =
    bind_ext y _ _ _ (number_ext y _ bytes) (λ epoch b1.
    bind_ext y _ _ _ (shaped_ext y _ _ _ (u48_ext y b1)) (λ number b2.
    bind_ext y _ _ _ (shaped_ext y _ _ _ (u48_ext y b2)) (λ back b3.
    bind_ext y _ _ _ (number_ext y _ b3) (λ page b4.
    bind_ext y _ _ _ (shaped_ext y _ _ _ (u48_ext y b4)) (λ block_back b5. done y _ _)))))

record_part_ext : (y : List ℕ) (full : Bool) (bytes : List ℕ) → Follows y (record_part_at full bytes) (record_part_at full (bytes ++ y))
unfolding record_part_at
record_part_ext y full bytes =
    bind_ext y _ _ _ (head_ext y bytes) (λ head b1.
    bind_ext y _ _ _ (within_ext y full 0 0 1 b1) (λ flags b2.
    bind_ext y _ _ _ (shaped_ext y _ _ _ (byte_ext y b2)) (λ count b3.
    bind_ext y _ _ _ (shaped_ext y _ _ _ (each_ext y (patch_at full) left_after (patch_ext y full) count 8192 b3)) (λ patches b4. done y _ _))))

record_ext : (y bytes : List ℕ) → Follows y (record_at bytes) (record_at (bytes ++ y))
unfolding record_at
record_ext y bytes = bind_ext y _ _ _ (form_ext y 1 6 bytes) (λ full rest. record_part_ext y full rest)

cut_ext : (y bytes : List ℕ) → Follows y (cut_at bytes) (cut_at (bytes ++ y))
unfolding cut_at
cut_ext y bytes = search (rules, bind_ext, shaped_ext, number_ext, u48_ext, done)

advance_ext : (y : List ℕ) (many : Bool) (least first last : ℕ) (bytes : List ℕ)
    → Follows y (advance_at many least first last bytes) (advance_at many least first last (bytes ++ y))
unfolding advance_at
advance_ext y many least first last bytes = search (rules, bind_ext, shaped_ext, number_ext, within_ext, u48_ext, done)

tagged_advance_ext : (y bytes : List ℕ) → Follows y (tagged_advance_at bytes) (tagged_advance_at (bytes ++ y))
unfolding tagged_advance_at
tagged_advance_ext y bytes = bind_ext y _ _ _ (form_ext y 3 5 bytes) (λ many rest. advance_ext y many 0 2 15 rest)

fact_ext : (y bytes : List ℕ) → Follows y (fact_at bytes) (fact_at (bytes ++ y))
unfolding fact_at
fact_ext y [] = is_short y _
fact_ext y (b ∷ bytes) =
    choice_ext y _ _ _ _ _ (mapped_ext y _ _ _ (record_ext y (b ∷ bytes)))
    (choice_ext y _ _ _ _ _ (mapped_ext y _ _ _ (cut_ext y bytes)) (mapped_ext y _ _ _ (tagged_advance_ext y (b ∷ bytes))))

next_cut_ext : (y : List ℕ) (last : ℕ) (bytes : List ℕ) → Follows y (next_cut_at last bytes) (next_cut_at last (bytes ++ y))
next_cut_ext y last bytes = ordered_ext y (λ c. ltb last c.epoch) _ _ (cut_ext y bytes)

next_point_ext : (y : List ℕ) (last : ℕ) (bytes : List ℕ) → Follows y (next_point_at last bytes) (next_point_at last (bytes ++ y))
next_point_ext y last bytes = u48_ext y bytes

next_wait_ext : (y : List ℕ) (many : Bool) (k readers : ℕ) (last : WaitPlace) (bytes : List ℕ)
    → Follows y (next_wait_at many k readers last bytes) (next_wait_at many k readers last (bytes ++ y))
next_wait_ext y many k readers last bytes = search (rules, ordered_ext, advance_ext)

book_ext : (y : List ℕ) (many : Bool) (bytes : List ℕ) → Follows y (book_at many bytes) (book_at many (bytes ++ y))
unfolding book_at
book_ext y many bytes =
    bind_ext y _ _ _ (number_ext y _ bytes) (λ cut_count b1.
    bind_ext y _ _ _ (each_ext y next_cut_at cut_epoch (next_cut_ext y) cut_count 0 b1) (λ cuts b2.
    bind_ext y _ _ _ (within_ext y many 1 2 15 b2) (λ readers b3.
    bind_ext y _ _ _ (each_ext y next_point_at last_point (next_point_ext y) readers 0 b3) (λ points b4.
    bind_ext y _ _ _ (number_ext y _ b4) (λ wait_count b5.
    bind_ext y _ _ _
    (each_ext y (next_wait_at many (complete cuts) readers) wait_place (next_wait_ext y many (complete cuts) readers) wait_count (0, 0, 0) b5)
    (λ waits b6. done y _ _))))))

key_ext : (y bytes : List ℕ) → Follows y (key_at bytes) (key_at (bytes ++ y))
unfolding key_at
key_ext y bytes = search (rules, bind_ext, number_ext, shaped_ext, u48_ext, done)

next_key_ext : (y : List ℕ) (last : Key) (bytes : List ℕ) → Follows y (next_key_at last bytes) (next_key_at last (bytes ++ y))
next_key_ext y last bytes = ordered_ext y (λ k. is_above last k) _ _ (key_ext y bytes)

summary_part_ext : (y : List ℕ) (many : Bool) (bytes : List ℕ) → Follows y (summary_part_at many bytes) (summary_part_at many (bytes ++ y))
unfolding summary_part_at
summary_part_ext y many bytes =
    bind_ext y _ _ _ (book_ext y many bytes) (λ book b1.
    bind_ext y _ _ _ (shaped_ext y _ _ _ (u48_ext y b1)) (λ anchor b2.
    bind_ext y _ _ _ (number_ext y _ b2) (λ key_count b3.
    bind_ext y _ _ _ (each_ext y next_key_at key_place (next_key_ext y) key_count (key_in 0 0) b3) (λ keys b4. done y _ _))))

summary_ext : (y bytes : List ℕ) → Follows y (summary_at bytes) (summary_at (bytes ++ y))
unfolding summary_at
summary_ext y bytes = bind_ext y _ _ _ (form_ext y 16 32 bytes) (λ many rest. summary_part_ext y many rest)

image_ext : (y bytes : List ℕ) → Follows y (image_at bytes) (image_at (bytes ++ y))
unfolding image_at
image_ext y bytes = search (rules, bind_ext, number_ext, shaped_ext, bytes_ext, done)

next_image_ext : (y : List ℕ) (least : ℕ) (bytes : List ℕ) → Follows y (next_image_at least bytes) (next_image_at least (bytes ++ y))
next_image_ext y least bytes = ordered_ext y (λ p. leb least p.page) _ _ (image_ext y bytes)

next_record_ext : (y : List ℕ) (last : Key) (bytes : List ℕ) → Follows y (next_record_at last bytes) (next_record_at last (bytes ++ y))
next_record_ext y last bytes = ordered_ext y (λ r. is_above last (key_of r)) _ _ (record_ext y bytes)

delta_part_ext : (y : List ℕ) (many : Bool) (bytes : List ℕ) → Follows y (delta_part_at many bytes) (delta_part_at many (bytes ++ y))
unfolding delta_part_at
delta_part_ext y many bytes =
    bind_ext y _ _ _ (book_ext y many bytes) (λ book b1.
    bind_ext y _ _ _ (shaped_ext y _ _ _ (u48_ext y b1)) (λ base b2.
    bind_ext y _ _ _ (shaped_ext y _ _ _ (number_ext y _ b2)) (λ page_count b3.
    bind_ext y _ _ _ (each_ext y next_image_at page_after (next_image_ext y) page_count 0 b3) (λ pages b4.
    bind_ext y _ _ _ (number_ext y _ b4) (λ record_count b5.
    bind_ext y _ _ _ (each_ext y next_record_at record_place (next_record_ext y) record_count (key_in 0 0) b5) (λ records b6. done y _ _))))))

delta_ext : (y bytes : List ℕ) → Follows y (delta_at bytes) (delta_at (bytes ++ y))
unfolding delta_at
delta_ext y bytes = bind_ext y _ _ _ (form_ext y 17 33 bytes) (λ many rest. delta_part_ext y many rest)

head_content_ext : (y : List ℕ) (many : Bool) (bytes : List ℕ) → Follows y (head_content_at many bytes) (head_content_at many (bytes ++ y))
unfolding head_content_at
head_content_ext y many bytes = search (rules, bind_ext, book_ext, shaped_ext, u48_ext, done)

records_content_ext : (y bytes : List ℕ) → Follows y (records_content_at bytes) (records_content_at (bytes ++ y))
unfolding records_content_at
records_content_ext y bytes = search (rules, bind_ext, shaped_ext, byte_ext, each_ext, next_record_ext, done)

content_ext : (y : List ℕ) (many : Bool) (kind : ℕ) (bytes : List ℕ) → Follows y (content_at many kind bytes) (content_at many kind (bytes ++ y))
unfolding content_at
content_ext y many kind bytes = search (rules, choice_ext, head_content_ext, mapped_ext, image_ext, records_content_ext)

piece_part_ext : (y : List ℕ) (many : Bool) (bytes : List ℕ) → Follows y (piece_part_at many bytes) (piece_part_at many (bytes ++ y))
unfolding piece_part_at
piece_part_ext y many bytes =
    bind_ext y _ _ _ (number_ext y _ bytes) (λ name b1.
    bind_ext y _ _ _ (number_ext y _ b1) (λ index b2.
    bind_ext y _ _ _ (shaped_ext y _ _ _ (number_ext y _ b2)) (λ total b3.
    bind_ext y _ _ _ (shaped_ext y (λ k. is_in_place index k) _ _ (known_ext y (λ k. leb k (last_kind many)) _ _ (byte_ext y b3))) (λ kind b4.
    bind_ext y _ _ _ (content_ext y many kind b4) (λ content b5. done y _ _)))))

piece_ext : (y bytes : List ℕ) → Follows y (piece_at bytes) (piece_at (bytes ++ y))
unfolding piece_at
piece_ext y bytes = bind_ext y _ _ _ (form_ext y 18 34 bytes) (λ many rest. piece_part_ext y many rest)

-- ---- whole values

stays : {A : Type 0} (y : List ℕ) (r s : Read A) (f : WireFault) → Extends y r s → whole r ≡ Err f → (f ≡ Short → ⊥) → (f ≡ Rest → ⊥) → whole s ≡ Err f
stays y r s f h e short rest = search rules

shorts : {A : Type 0} (y : List ℕ) (r s : Read A) (v : A) → 0 < length y → Extends y r s → whole s ≡ Ok v → whole r ≡ Err Short
shorts y r s v l h w = grind (arith, common_steps)

rests : {A : Type 0} (y : List ℕ) (r s : Read A) (v : A) → 0 < length y → Extends y r s → whole r ≡ Ok v → whole s ≡ Err Rest
rests y r s v l h w = grind (arith, common_steps)

pub fact_faults_stay : FaultsStay decoded_fact
fact_faults_stay = λ x y f. stays y (fact_at x) (fact_at (x ++ y)) f (fact_ext y x).extends

pub fact_beginnings : BeginningsAreShort decoded_fact
fact_beginnings = λ x y v l. shorts y (fact_at x) (fact_at (x ++ y)) v l (fact_ext y x).extends

pub fact_rest : RestIsBehind decoded_fact
fact_rest = λ x y v l. rests y (fact_at x) (fact_at (x ++ y)) v l (fact_ext y x).extends

pub summary_faults_stay : FaultsStay decoded_summary
summary_faults_stay = λ x y f. stays y (summary_at x) (summary_at (x ++ y)) f (summary_ext y x).extends

pub summary_beginnings : BeginningsAreShort decoded_summary
summary_beginnings = λ x y v l. shorts y (summary_at x) (summary_at (x ++ y)) v l (summary_ext y x).extends

pub summary_rest : RestIsBehind decoded_summary
summary_rest = λ x y v l. rests y (summary_at x) (summary_at (x ++ y)) v l (summary_ext y x).extends

pub delta_faults_stay : FaultsStay decoded_delta
delta_faults_stay = λ x y f. stays y (delta_at x) (delta_at (x ++ y)) f (delta_ext y x).extends

pub delta_beginnings : BeginningsAreShort decoded_delta
delta_beginnings = λ x y v l. shorts y (delta_at x) (delta_at (x ++ y)) v l (delta_ext y x).extends

pub delta_rest : RestIsBehind decoded_delta
delta_rest = λ x y v l. rests y (delta_at x) (delta_at (x ++ y)) v l (delta_ext y x).extends

pub piece_faults_stay : FaultsStay decoded_piece
piece_faults_stay = λ x y f. stays y (piece_at x) (piece_at (x ++ y)) f (piece_ext y x).extends

pub piece_beginnings : BeginningsAreShort decoded_piece
piece_beginnings = λ x y v l. shorts y (piece_at x) (piece_at (x ++ y)) v l (piece_ext y x).extends

pub piece_rest : RestIsBehind decoded_piece
piece_rest = λ x y v l. rests y (piece_at x) (piece_at (x ++ y)) v l (piece_ext y x).extends

-- ---- encoding's own fault

whole_reads : {A : Type 0} (r : Read A) → IsReading r → IsReading (whole r)
whole_reads r h = search rules

pub decoded_fact_reads : (bytes : List ℕ) → IsReading (decoded_fact bytes)
decoded_fact_reads bytes = whole_reads (fact_at bytes) (fact_ext [] bytes).reads

pub decoded_summary_reads : (bytes : List ℕ) → IsReading (decoded_summary bytes)
decoded_summary_reads bytes = whole_reads (summary_at bytes) (summary_ext [] bytes).reads

pub decoded_delta_reads : (bytes : List ℕ) → IsReading (decoded_delta bytes)
decoded_delta_reads bytes = whole_reads (delta_at bytes) (delta_ext [] bytes).reads

pub decoded_piece_reads : (bytes : List ℕ) → IsReading (decoded_piece bytes)
decoded_piece_reads bytes = whole_reads (piece_at bytes) (piece_ext [] bytes).reads

-- ---- values of any kind: with more bytes after, the same decoder is called

-- what the three theorems say of two inputs, the longer of which has y after
record Local {A : Type 0} (y : List ℕ) (r s : Result A WireFault) : Type 0 where
  stay : (f : WireFault) → r ≡ Err f → (f ≡ Short → ⊥) → (f ≡ Rest → ⊥) → s ≡ Err f
  short : (v : A) → 0 < length y → s ≡ Ok v → r ≡ Err Short
  rest : (v : A) → 0 < length y → r ≡ Ok v → s ≡ Err Rest

local_choice : {A : Type 0} (y : List ℕ) (b : Bool) (p q r s : Result A WireFault) → Local y p r → Local y q s → Local y (cond b p q) (cond b r s)
local_choice y b p q r s h k = search rules

local_value : {A : Type 0} (y : List ℕ) (kind : A → WireValue) (r s : Result A WireFault) → Local y r s → Local y (valued kind r) (valued kind s)
local_value y kind r s h = search rules

local_whole : {A : Type 0} (y : List ℕ) (r s : Read A) → Follows y r s → Local y (whole r) (whole s)
local_whole y r s h = record { stay = λ f. stays y r s f h.extends; short = λ v l. shorts y r s v l h.extends; rest = λ v l. rests y r s v l h.extends }

local_short : {A : Type 0} (y : List ℕ) (r s : Result A WireFault) → r ≡ Err Short → Local y r s
local_short y r s e = search rules

value_local : (x y : List ℕ) → Local y (decoded_value x) (decoded_value (x ++ y))
value_local [] y = local_short y (decoded_value []) (decoded_value y) refl
value_local (tag ∷ bytes) y =
    let x = tag ∷ bytes in
    local_choice y (is_summary_tag tag) _ _ _ _
    (local_value y Summary (decoded_summary x) (decoded_summary (x ++ y)) (local_whole y (summary_at x) (summary_at (x ++ y)) (summary_ext y x)))
    (local_choice y (is_delta_tag tag) _ _ _ _
    (local_value y Delta (decoded_delta x) (decoded_delta (x ++ y)) (local_whole y (delta_at x) (delta_at (x ++ y)) (delta_ext y x)))
    (local_choice y (is_piece_tag tag) _ _ _ _
    (local_value y Piece (decoded_piece x) (decoded_piece (x ++ y)) (local_whole y (piece_at x) (piece_at (x ++ y)) (piece_ext y x)))
    (local_value y Fact (decoded_fact x) (decoded_fact (x ++ y)) (local_whole y (fact_at x) (fact_at (x ++ y)) (fact_ext y x)))))

pub value_faults_stay : FaultsStay decoded_value
value_faults_stay = λ x y. (value_local x y).stay

pub value_beginnings : BeginningsAreShort decoded_value
value_beginnings = λ x y. (value_local x y).short

pub value_rest : RestIsBehind decoded_value
value_rest = λ x y. (value_local x y).rest

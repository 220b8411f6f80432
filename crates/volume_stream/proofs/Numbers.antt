-- Words, numbers and bytes of a frame are found again.
use Rattle.std.proofs.Common.{◌≡◌, ℕ, ◌+◌, ◌<◌, ◌≤◌, true, false, not, eqb, ltb, List, [], ◌∷◌, ◌++◌, length, map, take, drop, Option, Some, None, refl, ap, ◌∙◌, append_assoc, append-nil, length-append, arith}
use Rattle.std.proofs.lemmas.Bool.{and_parts, lt-ltb}
use Rattle.std.proofs.lemmas.Bool.Decides.{nat_tests}
use Rattle.std.proofs.lemmas.List.{take_all, length-map}
use Rattle.std.proofs.Math.Seq.{take-append_seam, drop-append-add}
use Rattle.std.specs.List.{position_or_len, join_with_byte, AllByRecursion}
use Rattle.std.specs.Fmt.{decimal}
use Rattle.text.specs.Parts.{◌>>=◌, parts_at, most_parts, first_parts}
use Rattle.text.specs.Fields.{Form, numbers_of, made_by}
use Rattle.text.proofs.Split.{lacks, AllLack, joined_parts}
use Rattle.text.proofs.Numbers.{lacks_decimal, decimal_is_read}
use Rattle.text.proofs.Forms.{AreWithin, numbers_apart}
use Rattle.node_stream.specs.FrameReading.{halves}
use Rattle.node_stream.specs.GuardReading.{max_wide, wide_before, wide_front}
use Rattle.node_stream.specs.Telling.{numbers_behind}
use Rattle.volume_stream.specs.Words.{made_of}

-- ---- a word, and what is behind it and a space

place_of : (word rest : List ℕ) → lacks 32 word ≡ true → position_or_len (λ b. eqb b 32) (word ++ 32 ∷ rest) ≡ length word
place_of [] rest h = refl
place_of (w ∷ word) rest h =
    let parts = and_parts (not (eqb w 32)) (lacks 32 word) h in
    let others = place_of word rest parts.1 in
    rw (parts.0, others) (omega arith)

found : (text : List ℕ) (at : ℕ) → position_or_len (λ b. eqb b 32) text ≡ at → at < length text → halves text ≡ Some (take at text, drop (at + 1) text)
found text at e lt = rw (e, lt-ltb at (length text) lt) refl

abbrev here : List ℕ × List ℕ → Option (List ℕ × List ℕ)
here p = Some p

both : (a b c d : List ℕ) → a ≡ c → b ≡ d → here (a, b) ≡ here (c, d)
both a b c d p q = cc

pub halves_at : (word rest : List ℕ) → lacks 32 word ≡ true → halves (word ++ 32 ∷ rest) ≡ Some (word, rest)
halves_at word rest h =
    let text : List ℕ = word ++ 32 ∷ rest in
    found text (length word) (place_of word rest h) (omega (arith, length-append word (32 ∷ rest)))
    ∙ both (take (length word) text) (drop (length word + 1) text) word rest (take-append_seam word (32 ∷ rest)) (drop-append-add word (32 ∷ rest) 1)

no_place : (text : List ℕ) → lacks 32 text ≡ true → position_or_len (λ b. eqb b 32) text ≡ length text
no_place [] h = refl
no_place (w ∷ text) h =
    let parts = and_parts (not (eqb w 32)) (lacks 32 text) h in
    let others = no_place text parts.1 in
    rw (parts.0, others) (omega arith)

not_below : (n : ℕ) → ltb n n ≡ false
not_below n = grind (arith, nat_tests)

pub no_halves : (text : List ℕ) → lacks 32 text ≡ true → halves text ≡ None
no_halves text h = rw (no_place text h, not_below (length text)) refl

-- ---- numbers, each after a space

-- limits that any number within them has 64 bits
abbrev pub AreLimits : List ℕ → Type 0
AreLimits limits = AllByRecursion (λ limit. limit ≤ max_wide) limits

joined : (n : ℕ) (ns : List ℕ) → decimal n ++ numbers_behind ns ≡ join_with_byte 32 (map decimal (n ∷ ns))
joined n [] = append-nil (decimal n)
joined n (m ∷ ns) = ap (λ (l : List ℕ). decimal n ++ (32 ∷ l)) (joined m ns)

lack_space : (limits ns : List ℕ) → AreLimits limits → AreWithin ns limits → AllLack 32 (map decimal ns)
lack_space [] [] small h = tt
lack_space [] (n ∷ ns) small h = absurd h
lack_space (limit ∷ limits) [] small h = absurd h
lack_space (limit ∷ limits) (n ∷ ns) small h = (lacks_decimal 32 n (omega (arith, small.0, h.0)) refl, lack_space limits ns small.1 h.1)

numbers_parts : (limits : List ℕ) (n : ℕ) (ns : List ℕ) → AreLimits limits → AreWithin (n ∷ ns) limits
    → parts_at 32 (decimal n ++ numbers_behind ns) ≡ map decimal (n ∷ ns)
numbers_parts limits n ns small h = ap (parts_at 32) (joined n ns) ∙ joined_parts 32 (decimal n) (map decimal ns) (lack_space limits (n ∷ ns) small h)

numbers_read : (limits ns : List ℕ) → AreLimits limits → AreWithin ns limits → numbers_of limits (map decimal ns) ≡ Some ns
numbers_read [] [] small h = refl
numbers_read [] (n ∷ ns) small h = absurd h
numbers_read (limit ∷ limits) [] small h = absurd h
numbers_read (limit ∷ limits) (n ∷ ns) small h = rw (decimal_is_read limit n (omega (arith, small.0)) h.0, numbers_read limits ns small.1 h.1) refl

-- the numbers that a form reads
pub made_at : {A : Type 0} (f : Form A) (n : ℕ) (ns : List ℕ) → AreLimits f.limits → AreWithin (n ∷ ns) f.limits
    → made_by f (parts_at 32 (decimal n ++ numbers_behind ns)) ≡ f.made (n ∷ ns)
made_at f n ns small h =
    ap (made_by f) (numbers_parts f.limits n ns small h) ∙ ap (λ (o : Option (List ℕ)). o >>= f.made) (numbers_read f.limits (n ∷ ns) small h)

-- more numbers, or fewer, than a form has
pub made_none : {A : Type 0} (f : Form A) (limits : List ℕ) (n : ℕ) (ns : List ℕ) → AreLimits limits → AreWithin (n ∷ ns) limits
    → (length (n ∷ ns) ≡ length f.limits → ⊥) → made_by f (parts_at 32 (decimal n ++ numbers_behind ns)) ≡ None
made_none f limits n ns small h ne =
    ap (made_by f) (numbers_parts limits n ns small h)
    ∙ ap (λ (o : Option (List ℕ)). o >>= f.made)
    (numbers_apart f.limits (map decimal (n ∷ ns)) (λ e. ne (omega (arith, e, length-map (n ∷ ns) decimal))))

few_looked_at : (text : List ℕ) (parts : List (List ℕ)) → parts_at 32 text ≡ parts → length parts ≤ most_parts → first_parts 32 text ≡ parts_at 32 text
unfolding first_parts
few_looked_at text parts e few = take_all most_parts (parts_at 32 text) (omega (arith, few, ap length e))

few_numbers : (limits : List ℕ) (n : ℕ) (ns : List ℕ) → AreLimits limits → AreWithin (n ∷ ns) limits → length (n ∷ ns) ≤ most_parts
    → first_parts 32 (decimal n ++ numbers_behind ns) ≡ parts_at 32 (decimal n ++ numbers_behind ns)
few_numbers limits n ns small h few =
    few_looked_at (decimal n ++ numbers_behind ns) (map decimal (n ∷ ns)) (numbers_parts limits n ns small h) (omega (arith, few, length-map (n ∷ ns) decimal))

-- the same of the first parts
pub made : {A : Type 0} (f : Form A) (n : ℕ) (ns : List ℕ) → AreLimits f.limits → AreWithin (n ∷ ns) f.limits → length (n ∷ ns) ≤ most_parts
    → made_of f (decimal n ++ numbers_behind ns) ≡ f.made (n ∷ ns)
made f n ns small h few = ap (made_by f) (few_numbers f.limits n ns small h few) ∙ made_at f n ns small h

pub not_made : {A : Type 0} (f : Form A) (limits : List ℕ) (n : ℕ) (ns : List ℕ) → AreLimits limits → AreWithin (n ∷ ns) limits
    → (length (n ∷ ns) ≡ length f.limits → ⊥) → length (n ∷ ns) ≤ most_parts → made_of f (decimal n ++ numbers_behind ns) ≡ None
not_made f limits n ns small h ne few = ap (made_by f) (few_numbers limits n ns small h few) ∙ made_none f limits n ns small h ne

-- ---- a generation or a birth, and bytes behind it

pub wide_front_at : (n : ℕ) (rest : List ℕ) → n ≤ max_wide → wide_front (decimal n ++ 32 ∷ rest) ≡ Some (n, rest)
wide_front_at n rest le =
    ap wide_before (halves_at (decimal n) rest (lacks_decimal 32 n (omega arith) refl)) ∙ rw (decimal_is_read max_wide n (omega arith) le) refl

-- two numbers and bytes, each after a space
pub behind_two : (word : List ℕ) (a b : ℕ) (bytes : List ℕ)
    → (word ++ numbers_behind (a ∷ b ∷ [])) ++ 32 ∷ bytes ≡ word ++ 32 ∷ (decimal a ++ 32 ∷ (decimal b ++ 32 ∷ bytes))
behind_two word a b bytes = simp append_assoc

-- one number and bytes
pub behind_one : (word : List ℕ) (a : ℕ) (bytes : List ℕ) → (word ++ numbers_behind (a ∷ [])) ++ 32 ∷ bytes ≡ word ++ 32 ∷ (decimal a ++ 32 ∷ bytes)
behind_one word a bytes = simp append_assoc

-- two rows of numbers are one
pub in_a_row : (ns ms : List ℕ) → numbers_behind ns ++ numbers_behind ms ≡ numbers_behind (ns ++ ms)
in_a_row [] ms = refl
in_a_row (n ∷ ns) ms = ap (λ (l : List ℕ). 32 ∷ l) (append_assoc (decimal n) (numbers_behind ns) (numbers_behind ms) ∙ ap (λ (l : List ℕ). decimal n ++ l) (in_a_row ns ms))

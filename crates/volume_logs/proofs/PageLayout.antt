-- The last record of a page leaves its number at the page's end.
use Rattle.std.proofs.Common.{◌≡◌, ℕ, ◌+◌, ◌^◌, ◌<◌, ◌≤◌, ◌⊎◌, ⊎_elim, inl, inr, List, [], ◌∷◌, ◌++◌, length, take, drop, replicate, refl, sym, ◌∙◌, subst, ap, arith, append_assoc, length-append, length-take, length-drop, get_or-append-add, get_or-take, zero-add, Bool, true, false, None}
use Rattle.std.specs.Prelude.{slice_index, if◌then◌else◌}
use Rattle.std.specs.List.{Contains}
use Rattle.std.specs.Int.{to_be_bytes, w64, w16}
use Rattle.std.proofs.lemmas.List.{length-replicate, get_or_append_left}
use Rattle.std.proofs.lemmas.Bool.Decides.{nat_tests}
use Rattle.std.proofs.lemmas.Nat.{from_be_bytes-to_be_bytes_8, from_be_bytes-to_be_bytes_2}
use Rattle.redo_core.specs.Data.{RecordData}
use Rattle.redo_core.specs.Order.{IsGreatest, IsRising, BeforeByNumber}
use Rattle.redo_core.specs.Shape.{page_len, epoch_count, max_number, record_fault}
use Rattle.redo_core.specs.Writing.{with_bytes, with_patch, with_patches, zeros, write, after_records}
use Rattle.redo_core.specs.declared.patches.Patch.{Patch}
use Rattle.redo_core.specs.declared.patches.Patch.TheVariants.{Bytes, Fill}
use Rattle.redo_core.proofs.Members.{none_in, here, there, which, each}
use Rattle.redo_writer.specs.Tracks.{HasNumber}
use Rattle.redo_writer.specs.Layout.{number_of, number_patch}
use Rattle.volume_logs.specs.PageLayout.{LeavesNumber, generation_of, epoch_of_page, IsCommitRecord}

-- a number of a record fits into 8 bytes
pub number_fits : (r : RecordData) → record_fault r ≡ None → r.number < 2 ^ 64
number_fits r fault = let low : r.number ≤ max_number = grind (arith, nat_tests) in omega arith

-- ---- a page does not get shorter
bytes_long : (page bytes : List ℕ) (offset n : ℕ) → n ≤ length page → n ≤ length (with_bytes page offset bytes)
bytes_long page bytes offset n long = omega (
  arith,
  length-append (take offset page ++ bytes) (drop (offset + length bytes) page),
  length-append (take offset page) bytes,
  length-take offset page,
  length-drop (offset + length bytes) page,
)

patch_long : (page : List ℕ) (p : Patch) (n : ℕ) → n ≤ length page → n ≤ length (with_patch page p)
patch_long page (Bytes w) n long = bytes_long page w.bytes w.offset n long
patch_long page (Fill offset len byte) n long = bytes_long page (replicate len byte) offset n long

patches_long : (page : List ℕ) (ps : List Patch) (n : ℕ) → n ≤ length page → n ≤ length (with_patches page ps)
patches_long page [] n long = long
patches_long page (p ∷ ps) n long = patches_long (with_patch page p) ps n (patch_long page p n long)

pub zeros_long : 4088 ≤ length zeros
unfolding zeros
zeros_long = let blank : List ℕ = replicate page_len 0 in let long : length blank ≡ page_len = length-replicate {A = ℕ} page_len 0 in omega arith

begins_long : (b : Bool) (page : List ℕ) → 4088 ≤ length page → 4088 ≤ length (if b then zeros else page)
begins_long true page long = zeros_long
begins_long false page long = long

pub write_long : (page : List ℕ) (r : RecordData) → 4088 ≤ length page → 4088 ≤ length (write page r)
write_long page r long = patches_long (if r.init then zeros else page) r.patches 4088 (begins_long r.init page long)

-- ---- the last patch
patches_after : (page : List ℕ) (ps qs : List Patch) → with_patches page (ps ++ qs) ≡ with_patches (with_patches page ps) qs
patches_after page [] qs = refl
patches_after page (p ∷ ps) qs = patches_after (with_patch page p) ps qs

-- what a write puts at its offset
put_at : (page bytes : List ℕ) (offset i : ℕ) → offset ≤ length page → i < length bytes → slice_index (with_bytes page offset bytes) (offset + i) ≡ slice_index bytes i
put_at page bytes offset i long within =
    let front : length (take offset page) ≡ offset = omega (arith, length-take offset page) in
    ap (λ xs. slice_index xs (offset + i)) (append_assoc (take offset page) bytes (drop (offset + length bytes) page))
    ∙ ap (λ (n : ℕ). slice_index (take offset page ++ (bytes ++ drop (offset + length bytes) page)) (n + i)) (sym front)
    ∙ get_or-append-add (take offset page) (bytes ++ drop (offset + length bytes) page) i 0
    ∙ get_or_append_left bytes (drop (offset + length bytes) page) 0 i within

number_put : (page : List ℕ) (n : ℕ) → 4088 ≤ length page → n < 2 ^ 64 → number_of (with_bytes page 4088 (to_be_bytes w64 n)) ≡ n
number_put page n long fits =
    let b : List ℕ = to_be_bytes w64 n in
    let image : List ℕ = with_bytes page 4088 b in
    let e0 : slice_index image 4088 ≡ slice_index b 0 = put_at page b 4088 0 long (omega arith) in
    let e1 : slice_index image (4088 + 1) ≡ slice_index b 1 = put_at page b 4088 1 long (omega arith) in
    let e2 : slice_index image (4088 + 2) ≡ slice_index b 2 = put_at page b 4088 2 long (omega arith) in
    let e3 : slice_index image (4088 + 3) ≡ slice_index b 3 = put_at page b 4088 3 long (omega arith) in
    let e4 : slice_index image (4088 + 4) ≡ slice_index b 4 = put_at page b 4088 4 long (omega arith) in
    let e5 : slice_index image (4088 + 5) ≡ slice_index b 5 = put_at page b 4088 5 long (omega arith) in
    let e6 : slice_index image (4088 + 6) ≡ slice_index b 6 = put_at page b 4088 6 long (omega arith) in
    let e7 : slice_index image (4088 + 7) ≡ slice_index b 7 = put_at page b 4088 7 long (omega arith) in
    rw (e0, e1, e2, e3, e4, e5, e6, e7) (from_be_bytes-to_be_bytes_8 n fits)

pub number_written : (page : List ℕ) (r : RecordData) → 4088 ≤ length page → r.number < 2 ^ 64 → LeavesNumber r → number_of (write page r) ≡ r.number
number_written page r long fits leaves =
    let from : List ℕ = if r.init then zeros else page in
    let last : write page r ≡ with_bytes (with_patches from leaves.0) 4088 (to_be_bytes w64 r.number) =
    ap (λ ps. with_patches from ps) leaves.1 ∙ patches_after from leaves.0 (number_patch r.number ∷ []) in
    ap (λ xs. number_of xs) last
    ∙ number_put (with_patches from leaves.0) r.number (patches_long from leaves.0 4088 (begins_long r.init page long)) fits

-- ---- page 0
-- what is before the place of a write stays
kept_at : (page bytes : List ℕ) (offset i : ℕ) → offset ≤ length page → i < offset → slice_index (with_bytes page offset bytes) i ≡ slice_index page i
kept_at page bytes offset i long before =
    let front : length (take offset page) ≡ offset = omega (arith, length-take offset page) in
    ap (λ xs. slice_index xs i) (append_assoc (take offset page) bytes (drop (offset + length bytes) page))
    ∙ get_or_append_left (take offset page) (bytes ++ drop (offset + length bytes) page) 0 i (omega arith)
    ∙ get_or-take offset page i 0 before

abbrev commit_bytes : ℕ → ℕ → List ℕ → List ℕ
commit_bytes generation epoch header = ((to_be_bytes w64 generation ++ to_be_bytes w16 epoch) ++ to_be_bytes w16 (length header)) ++ header

commit_long : (generation epoch : ℕ) (header : List ℕ) → 12 ≤ length (commit_bytes generation epoch header)
commit_long generation epoch header =
    let a : List ℕ = to_be_bytes w64 generation in
    let b : List ℕ = to_be_bytes w16 epoch in
    let c : List ℕ = to_be_bytes w16 (length header) in
    let la : length a ≡ 8 = refl in
    let lb : length b ≡ 2 = refl in
    let lc : length c ≡ 2 = refl in
    omega (arith, length-append ((a ++ b) ++ c) header, length-append (a ++ b) c, length-append a b)

generation_at : (generation epoch : ℕ) (header : List ℕ) (i : ℕ) → i < 8
    → slice_index (commit_bytes generation epoch header) i ≡ slice_index (to_be_bytes w64 generation) i
generation_at generation epoch header i low =
    let a : List ℕ = to_be_bytes w64 generation in
    let b : List ℕ = to_be_bytes w16 epoch in
    let c : List ℕ = to_be_bytes w16 (length header) in
    let la : length a ≡ 8 = refl in
    get_or_append_left ((a ++ b) ++ c) header 0 i (omega (arith, length-append (a ++ b) c, length-append a b))
    ∙ get_or_append_left (a ++ b) c 0 i (omega (arith, length-append a b))
    ∙ get_or_append_left a b 0 i (omega arith)

epoch_at : (generation epoch : ℕ) (header : List ℕ) (i : ℕ) → i < 2
    → slice_index (commit_bytes generation epoch header) (8 + i) ≡ slice_index (to_be_bytes w16 epoch) i
epoch_at generation epoch header i low =
    let a : List ℕ = to_be_bytes w64 generation in
    let b : List ℕ = to_be_bytes w16 epoch in
    let c : List ℕ = to_be_bytes w16 (length header) in
    let la : length a ≡ 8 = refl in
    let lb : length b ≡ 2 = refl in
    get_or_append_left ((a ++ b) ++ c) header 0 (8 + i) (omega (arith, length-append (a ++ b) c, length-append a b))
    ∙ get_or_append_left (a ++ b) c 0 (8 + i) (omega (arith, length-append a b))
    ∙ get_or-append-add a b i 0

abbrev commit_page : List ℕ → ℕ → ℕ → List ℕ → ℕ → List ℕ
commit_page page generation epoch header number =
    with_bytes (with_bytes page 0 (commit_bytes generation epoch header)) 4088 (to_be_bytes w64 number)

-- the first bytes of page 0
commit_at : (page : List ℕ) (generation epoch : ℕ) (header : List ℕ) (number i : ℕ) → 4088 ≤ length page → i < 12
    → slice_index (commit_page page generation epoch header number) i ≡ slice_index (commit_bytes generation epoch header) i
commit_at page generation epoch header number i long low =
    let b : List ℕ = commit_bytes generation epoch header in
    let enough : 12 ≤ length b = commit_long generation epoch header in
    kept_at (with_bytes page 0 b) (to_be_bytes w64 number) 4088 i (bytes_long page b 0 4088 long) (omega arith)
    ∙ ap (λ (n : ℕ). slice_index (with_bytes page 0 b) n) (sym (zero-add i))
    ∙ put_at page b 0 i (omega arith) (omega arith)

generation_put : (page : List ℕ) (generation epoch : ℕ) (header : List ℕ) (number : ℕ) → 4088 ≤ length page → generation < 2 ^ 64
    → generation_of (commit_page page generation epoch header number) ≡ generation
generation_put page generation epoch header number long fits =
    let b : List ℕ = to_be_bytes w64 generation in
    let image : List ℕ = commit_page page generation epoch header number in
    let at : (i : ℕ) → i < 8 → slice_index image i ≡ slice_index b i = λ i low.
    commit_at page generation epoch header number i long (omega arith) ∙ generation_at generation epoch header i low in
    let e0 : slice_index image 0 ≡ slice_index b 0 = at 0 (omega arith) in
    let e1 : slice_index image 1 ≡ slice_index b 1 = at 1 (omega arith) in
    let e2 : slice_index image 2 ≡ slice_index b 2 = at 2 (omega arith) in
    let e3 : slice_index image 3 ≡ slice_index b 3 = at 3 (omega arith) in
    let e4 : slice_index image 4 ≡ slice_index b 4 = at 4 (omega arith) in
    let e5 : slice_index image 5 ≡ slice_index b 5 = at 5 (omega arith) in
    let e6 : slice_index image 6 ≡ slice_index b 6 = at 6 (omega arith) in
    let e7 : slice_index image 7 ≡ slice_index b 7 = at 7 (omega arith) in
    rw (e0, e1, e2, e3, e4, e5, e6, e7) (from_be_bytes-to_be_bytes_8 generation fits)

epoch_put : (page : List ℕ) (generation epoch : ℕ) (header : List ℕ) (number : ℕ) → 4088 ≤ length page → epoch < 2 ^ 16
    → epoch_of_page (commit_page page generation epoch header number) ≡ epoch
epoch_put page generation epoch header number long fits =
    let b : List ℕ = to_be_bytes w16 epoch in
    let image : List ℕ = commit_page page generation epoch header number in
    let e0 : slice_index image 8 ≡ slice_index b 0 =
    commit_at page generation epoch header number 8 long (omega arith) ∙ epoch_at generation epoch header 0 (omega arith) in
    let e1 : slice_index image 9 ≡ slice_index b 1 =
    commit_at page generation epoch header number 9 long (omega arith) ∙ epoch_at generation epoch header 1 (omega arith) in
    rw (e0, e1) (from_be_bytes-to_be_bytes_2 epoch fits)

-- what page 0 says after a record that ends a mini-transaction
pub record Says (image : List ℕ) (generation : ℕ) (r : RecordData) : Type 0 where
  pub generation_is : generation_of image ≡ generation
  pub epoch_is : epoch_of_page image ≡ r.epoch
  pub number_is : number_of image ≡ r.number

pub commit_says : (page : List ℕ) (generation : ℕ) (r : RecordData) → 4088 ≤ length page → r.number < 2 ^ 64 → IsCommitRecord generation r
    → Says (write page r) generation r
commit_says page generation r long fits is =
    let from : List ℕ = if r.init then zeros else page in
    let from_long : 4088 ≤ length from = begins_long r.init page long in
    let last : write page r ≡ commit_page from generation r.epoch is.header r.number = ap (λ ps. with_patches from ps) is.patches in
    let small : r.epoch < 2 ^ 16 = (let low : r.epoch < epoch_count = is.epoch_fits in omega arith) in
    subst (λ xs. Says xs generation r) (sym last) (record {
      generation_is = generation_put from generation r.epoch is.header r.number from_long is.generation_fits;
      epoch_is = epoch_put from generation r.epoch is.header r.number from_long small;
      number_is = number_put (with_bytes from 0 (commit_bytes generation r.epoch is.header)) r.number
          (bytes_long from (commit_bytes generation r.epoch is.header) 0 4088 from_long) fits;
    })

-- a page after some records is that of one more record, or has none
abbrev pub IsLastWrite : List ℕ → List RecordData → Type 0
IsLastWrite image rs = (page : List ℕ) × (r : RecordData) × (4088 ≤ length page) × Contains rs r × (image ≡ write page r)

last_write : (page : List ℕ) (rs : List RecordData) → 4088 ≤ length page → ((rs ≡ []) × (after_records page rs ≡ page)) ⊎ IsLastWrite (after_records page rs) rs
last_write page [] long = inl (refl, refl)
last_write page (r ∷ rs) long = inr (⊎_elim
    (λ (end : (rs ≡ []) × (after_records (write page r) rs ≡ write page r)). (page, r, long, here r rs, end.1))
    (λ (more : IsLastWrite (after_records (write page r) rs) rs). (more.0, more.1, more.2, there r rs more.1 more.3, more.4))
    (last_write (write page r) rs (write_long page r long)))

pub last_write_or_none : (rs : List RecordData) → (after_records zeros rs ≡ zeros) ⊎ IsLastWrite (after_records zeros rs) rs
last_write_or_none rs = ⊎_elim (λ end. inl end.1) inr (last_write zeros rs zeros_long)

pub epoch_zeros : epoch_of_page zeros ≡ 0
unfolding zeros
epoch_zeros = refl

-- ---- the last record
abbrev pub last_number : ℕ → List RecordData → ℕ
last_number none [] = none
last_number none (r ∷ rs) = last_number r.number rs

number_after : (page : List ℕ) (rs : List RecordData) → 4088 ≤ length page → ((r : RecordData) → Contains rs r → (r.number < 2 ^ 64) × LeavesNumber r)
    → number_of (after_records page rs) ≡ last_number (number_of page) rs
number_after page [] long all = refl
number_after page (r ∷ rs) long all =
    number_after (write page r) rs (write_long page r long) (λ s inside. all s (there r rs s inside))
    ∙ ap (λ (n : ℕ). last_number n rs) (number_written page r long (all r (here r rs)).0 (all r (here r rs)).1)

pub number_zeros : number_of zeros ≡ 0
unfolding zeros
number_zeros = refl

pub page_number : (rs : List RecordData) → ((r : RecordData) → Contains rs r → (r.number < 2 ^ 64) × LeavesNumber r)
    → number_of (after_records zeros rs) ≡ last_number 0 rs
page_number rs all = number_after zeros rs zeros_long all ∙ ap (λ (n : ℕ). last_number n rs) number_zeros

-- the last of rising records is the greatest
last_of : (none : ℕ) (rs : List RecordData) → IsRising BeforeByNumber rs → ((r : RecordData) → Contains rs r → none < r.number)
    → ((rs ≡ []) × (last_number none rs ≡ none)) ⊎ (((r : RecordData) × Contains rs r × (r.number ≡ last_number none rs)) × ((r : RecordData) → Contains rs r → r.number ≤ last_number none rs))
last_of none [] rising above = inl (refl, refl)
last_of none (r ∷ rs) rising above = inr (⊎_elim
    (λ (end : (rs ≡ []) × (last_number r.number rs ≡ r.number)). (
      (r, here r rs, sym end.1),
      λ s inside. ⊎_elim
          (λ (e : r ≡ s). let number : r.number ≡ s.number = ap (λ (x : RecordData). x.number) e in let last : last_number r.number rs ≡ r.number = end.1 in omega arith)
          (λ (rest : Contains rs s). absurd (none_in s (subst (λ xs. Contains xs s) end.0 rest)))
          (which r rs s inside),
    ))
    (λ (more : ((x : RecordData) × Contains rs x × (x.number ≡ last_number r.number rs)) × ((x : RecordData) → Contains rs x → x.number ≤ last_number r.number rs)). (
      (more.0.0, there r rs more.0.0 more.0.1, more.0.2),
      λ s inside. ⊎_elim
          (λ (e : r ≡ s). let number : r.number ≡ s.number = ap (λ (x : RecordData). x.number) e in
          let first : r.number < more.0.0.number = each (BeforeByNumber r) rs more.0.0 rising.0 more.0.1 in
          let last : more.0.0.number ≤ last_number r.number rs = more.1 more.0.0 more.0.1 in omega arith)
          (λ (rest : Contains rs s). more.1 s rest)
          (which r rs s inside),
    ))
    (last_of r.number rs rising.1 (λ s inside. each (BeforeByNumber r) rs s rising.0 inside)))

pub last_greatest : (P : RecordData → Type 0) (rs : List RecordData) → IsRising BeforeByNumber rs → ((r : RecordData) → Contains rs r → P r)
    → ((r : RecordData) → P r → Contains rs r) → ((r : RecordData) → P r → 0 < r.number) → IsGreatest (HasNumber P) (last_number 0 rs)
last_greatest P rs rising of all positive = ⊎_elim
    (λ (end : (rs ≡ []) × (last_number 0 rs ≡ 0)). (
      inl end.1,
      λ m has. absurd (none_in has.0 (subst (λ xs. Contains xs has.0) end.0 (all has.0 has.1))),
    ))
    (λ (more : ((r : RecordData) × Contains rs r × (r.number ≡ last_number 0 rs)) × ((r : RecordData) → Contains rs r → r.number ≤ last_number 0 rs)). (
      inr (more.0.0, of more.0.0 more.0.1, more.0.2),
      λ m has. let upto : has.0.number ≤ last_number 0 rs = more.1 has.0 (all has.0 has.1) in let number : has.0.number ≡ m = has.2 in omega arith,
    ))
    (last_of 0 rs rising (λ r inside. positive r (of r inside)))

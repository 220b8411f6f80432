-- Meanings that cover each other and have the same pages are one.
use Rattle.std.proofs.Common.{◌≡◌, ℕ, ◌<◌, ◌≤◌, ◌⊎◌, ◌↔◌, inl, ⊎_elim, List, [], ◌∷◌, Bool, IsTrue, false, refl, sym, ap, ◌∙◌, subst, arith, rules}
use Rattle.std.specs.List.{Contains, AllZip}
use Rattle.redo_core.specs.Data.{RecordData, AdvanceData}
use Rattle.redo_core.specs.Order.{CutBefore, AdvanceBefore, RecordBefore}
use Rattle.redo_core.specs.Roster.{point_of}
use Rattle.redo_core.specs.CompleteEpoch.{IsCompleteEpoch}
use Rattle.redo_core.specs.Standing.{IsAlive, IsDead, IsWaiting}
use Rattle.redo_core.specs.Writing.{zeros}
use Rattle.redo_core.specs.Meaning.{Meaning, ImageData, ImageBefore}
use Rattle.redo_core.proofs.Members.{rising_unique, lists_unique}
use Rattle.redo_core.proofs.Pairs.{pair_apart, advance_apart}
use Rattle.redo_core.proofs.CompleteEpochs.{one_complete_epoch}
use Rattle.log_theorems.specs.OrderOfMeanings.{Covers, CoversAt}
use Rattle.log_theorems.proofs.Meanings.{list_eq, record_of_meaning}
use Rattle.segment_theorems.specs.State.{State}
use Rattle.segment_theorems.specs.Shows.{Shows}
use Rattle.segment_theorems.specs.HasMeaning.{HasAnchor, HasMeaning}
use Rattle.segment_theorems.specs.Laws.{SameMeaning}
use Rattle.segment_core.specs.Form.{IsSegment}
use Rattle.segment_join.specs.Sameness.{ShowOne, ReportsPages, ReportsSame, SameByParts}
use Rattle.segment_core.proofs.StoredCuts.{same_cuts}
use Rattle.segment_core.proofs.Scanning.{of_member}
use Rattle.segment_core.proofs.BarePages.{shows_some}
use Rattle.segment_core.proofs.OneView.{one_anchor}
use Rattle.segment_core.proofs.SamePages.{shows_one}

-- numbers that are at most each other, index by index
pub at_most_both : (ps qs : List ℕ) → AllZip (λ p q. p ≤ q) ps qs → AllZip (λ p q. p ≤ q) qs ps → ps ≡ qs
at_most_both [] [] up down = refl
at_most_both [] (q ∷ qs) up down = absurd up
at_most_both (p ∷ ps) [] up down = absurd up
at_most_both (p ∷ ps) (q ∷ qs) up down =
    let heads : p ≡ q = omega (arith, up.0, down.0) in
    let tails : ps ≡ qs = at_most_both ps qs up.1 down.1 in cc

at_most_itself : (ps : List ℕ) → AllZip (λ p q. p ≤ q) ps ps
at_most_itself [] = tt
at_most_itself (p ∷ ps) = (omega arith, at_most_itself ps)

-- a meaning that a state has covers itself
pub covers_itself : (s : State) (y : Meaning) → IsSegment s → HasMeaning s y → Covers y y
covers_itself s y form has = (
  s.book.complete,
  record {
    epoch = subst (λ cs. IsCompleteEpoch cs s.book.complete) (sym (same_cuts s y form.book.cuts_rise has)) has.epoch;
    cuts = λ c h. h;
    points = at_most_itself y.points;
    waits = λ a h. inl h;
    anchor = omega arith;
    kept = λ r h. inl h;
  },
)

-- what two meanings that cover each other have in common: all but the pages
pub record AgreeButPages (y x : Meaning) : Type 0 where
  pub cuts : y.cuts ≡ x.cuts
  pub points : y.points ≡ x.points
  pub waits : y.waits ≡ x.waits
  pub anchor : y.anchor ≡ x.anchor
  pub kept : y.kept ≡ x.kept

-- of one meaning what waits still waits in the other, and what is kept is kept there
record IsWithin (y x : Meaning) : Type 0 where
  waits : (a : AdvanceData) → Contains y.waits a → Contains x.waits a
  kept : (r : RecordData) → Contains y.kept r → Contains x.kept r

within : (s : State) (y x : Meaning) → IsSegment s → HasMeaning s y → Covers x y → y.cuts ≡ x.cuts → y.anchor ≡ x.anchor → IsWithin y x
within s y x form has covers cuts anchor =
    let k = s.book.complete in
    let own : y.cuts ≡ s.book.cuts = same_cuts s y form.book.cuts_rise has in
    let epoch : covers.0 ≡ k = one_complete_epoch s.book.cuts covers.0 k (subst (λ cs. IsCompleteEpoch cs covers.0) (sym cuts ∙ own) covers.1.epoch) has.epoch in
    let at : CoversAt k x y = subst (λ j. CoversAt j x y) epoch covers.1 in
    record {
      waits = λ a h. ⊎_elim
          (λ (there : Contains x.waits a). there)
          (λ (counts : (a.epoch ≤ k) × (a.point ≤ point_of x.points a.reader)).
          let later : k < a.epoch =
          of_member (λ (b : AdvanceData). k < b.epoch) s.book.waits form.book.waits_later a ((has.same_waits.members a).0 h) in
          absurd (omega (arith, counts.0, later)))
          (at.waits a h);
      kept = λ r h. ⊎_elim
          (λ (there : Contains x.kept r). there)
          (λ (gone : IsDead x.cuts k r.epoch r.number ⊎ ((r.number ≤ x.anchor) × (r.epoch ≤ k))).
          absurd (is_kept r ((has.kept.members r).0 h).1 gone))
          (at.kept r h);
    }
  where
    is_kept : (r : RecordData) → IsWaiting s.book.complete r.epoch ⊎ (IsAlive s.book.cuts s.book.complete r.epoch r.number × (y.anchor < r.number))
        → IsDead x.cuts s.book.complete r.epoch r.number ⊎ ((r.number ≤ x.anchor) × (r.epoch ≤ s.book.complete)) → ⊥
    is_kept r kept gone =
        ⊎_elim
        (λ (dead : IsDead x.cuts s.book.complete r.epoch r.number). ⊎_elim
        (λ (waits : IsWaiting s.book.complete r.epoch). omega (arith, waits, dead.0))
        (λ (alive : IsAlive s.book.cuts s.book.complete r.epoch r.number × (y.anchor < r.number)).
        dead.1 (subst (λ cs. IsAlive cs s.book.complete r.epoch r.number) (sym (same_cuts s y form.book.cuts_rise has) ∙ cuts) alive.0))
        kept)
        (λ (low : (r.number ≤ x.anchor) × (r.epoch ≤ s.book.complete)). ⊎_elim
        (λ (waits : IsWaiting s.book.complete r.epoch). omega (arith, waits, low.1))
        (λ (alive : IsAlive s.book.cuts s.book.complete r.epoch r.number × (y.anchor < r.number)). omega (arith, alive.1, low.0, anchor))
        kept)
        gone

pub agree : (s t : State) (y x : Meaning) → IsSegment s → IsSegment t → HasMeaning s y → HasMeaning t x → Covers y x → Covers x y → AgreeButPages y x
agree s t y x form other_form hy hx up down =
    let cuts : y.cuts ≡ x.cuts =
    rising_unique CutBefore (λ c d a b. omega (arith, a, b)) y.cuts x.cuts hy.same_cuts.rising hx.same_cuts.rising (λ c. (down.1.cuts c, up.1.cuts c)) in
    let anchor : y.anchor ≡ x.anchor = omega (arith, up.1.anchor, down.1.anchor) in
    let one = within s y x form hy down cuts anchor in
    let two = within t x y other_form hx up (sym cuts) (sym anchor) in
    record {
      cuts = cuts;
      points = at_most_both y.points x.points down.1.points up.1.points;
      waits = rising_unique AdvanceBefore advance_apart y.waits x.waits hy.same_waits.rising hx.same_waits.rising (λ a. (one.waits a, two.waits a));
      anchor = anchor;
      kept = rising_unique RecordBefore (λ r q a b. pair_apart r.epoch r.number q.epoch q.number a b) y.kept x.kept hy.kept.rising hx.kept.rising
          (λ r. (one.kept r, two.kept r));
    }

-- where the pages of both meanings are those shown at one anchor, they are equal exactly where the same is shown of each page
pages_shown : (s t : State) (y x : Meaning) → HasMeaning s y → HasMeaning t x
    → ((page : ℕ) → ShowOne s y.anchor t x.anchor page) → y.pages ≡ x.pages
pages_shown s t y x hy hx shown =
    lists_unique ImageBefore (λ a b lt gt. omega (arith, lt, gt)) _ _
    (λ i. (
      λ h. let one = shown i.page in (subst (Shows t i.page x.anchor) (shows_one s i.page y.anchor one.0 i.bytes one.1 h.0) one.2, h.1),
      λ h. let one = shown i.page in (subst (Shows s i.page y.anchor) (shows_one t i.page x.anchor one.0 i.bytes one.2 h.0) one.1, h.1),
    ))
    y.pages x.pages hy.pages hx.pages

-- a page that one shows is not zeros, so the other shows it
shown_in : (t : State) (y x : Meaning) (i : ImageData) → HasMeaning t x → y.pages ≡ x.pages → Contains y.pages i → Shows t i.page x.anchor i.bytes
shown_in t y x i hx same has = ((hx.pages.members i).0 (subst (λ is. Contains is i) same has)).0

shown_pages : (s t : State) (y x : Meaning) → IsSegment s → IsSegment t → HasMeaning s y → HasMeaning t x → y.pages ≡ x.pages
    → (page : ℕ) → ShowOne s y.anchor t x.anchor page
shown_pages s t y x form other_form hy hx same page =
    let one = shows_some s page y.anchor form in
    let two = shows_some t page x.anchor other_form in
    ⊎_elim
    (λ (dry : one.0 ≡ zeros). ⊎_elim
    (λ (other_dry : two.0 ≡ zeros). (one.0, one.1, subst (Shows t page x.anchor) (other_dry ∙ sym dry) two.1))
    (λ (wet : two.0 ≡ zeros → ⊥).
    let i : ImageData = record { page = page; bytes = two.0 } in
    (two.0, shown_in s x y i hy (sym same) ((hx.pages.members i).1 (two.1, wet)), two.1))
    (list_eq two.0 zeros))
    (λ (wet : one.0 ≡ zeros → ⊥).
    let i : ImageData = record { page = page; bytes = one.0 } in
    (one.0, one.1, shown_in t y x i hx same ((hy.pages.members i).1 (one.1, wet))))
    (list_eq one.0 zeros)

-- states whose meanings cover each other mean the same exactly where they show the same of each page at their anchors
pub same_by_pages : (s t : State) (y x : Meaning) → IsSegment s → IsSegment t → HasMeaning s y → HasMeaning t x → Covers y x → Covers x y
    → ((page : ℕ) → ShowOne s y.anchor t x.anchor page) ↔ (y ≡ x)
same_by_pages s t y x form other_form hy hx up down =
    let a = agree s t y x form other_form hy hx up down in (
      λ shown. record_of_meaning y x a.cuts a.points a.waits a.anchor (pages_shown s t y x hy hx shown) a.kept,
      λ same. shown_pages s t y x form other_form hy hx (ap (λ (m : Meaning). m.pages) same),
    )

-- so a comparison of the pages at the anchors decides whether they mean the same
pub tells_same : (s t : State) (point other : ℕ) (same : Bool) → IsSegment s → IsSegment t
    → HasAnchor s point → HasAnchor t other
    → ((y x : Meaning) → HasMeaning s y → HasMeaning t x → Covers y x × Covers x y)
    → ReportsPages s point t other (λ P. (page : ℕ) → P page) same → ReportsSame s t same
tells_same s t point other same form other_form anchor other_anchor both tells y x hy hx =
    let covers = both y x hy hx in
    let a : point ≡ y.anchor = one_anchor s point y.anchor anchor hy.anchor in
    let b : other ≡ x.anchor = one_anchor t other x.anchor other_anchor hx.anchor in
    let shown = subst (λ m. ReportsPages s y.anchor t m (λ P. (page : ℕ) → P page) same) b
    (subst (λ n. ReportsPages s n t other (λ P. (page : ℕ) → P page) same) a tells) in
    let one = same_by_pages s t y x form other_form hy hx covers.0 covers.1 in
    (λ h. one.0 (shown.0 h), λ e. shown.1 (one.1 e))

-- one does not cover the other, so the two are not the same
pub not_covered : (s t : State) (covered : Bool) → IsSegment s
    → ((y x : Meaning) → HasMeaning s y → HasMeaning t x → IsTrue covered ↔ Covers y x) → covered ≡ false → ReportsSame s t false
not_covered s t covered form tells fails y x hy hx = search (rules, covers_itself)

-- inside one sound log the meanings that two states have are those of the parts
pub by_parts : SameMeaning → (s t : State) (answer : Bool) → ReportsSame s t answer → SameByParts s t answer
by_parts law s t answer tells roster log F G y x sound mf mg my mx =
    tells y x ((law roster log F s y sound mf).1 my) ((law roster log G t x sound mg).1 mx)

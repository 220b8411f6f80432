-- Where the block chain of a page is broken, by a walk down it.
use Rattle.std.proofs.Common.{◌≡◌, ℕ, false, ◌<◌, ◌-◌, min, ◌≤◌, ◌⊎◌, ◌↔◌, inl, inr, ⊎_elim, List, Option, Some, None, Result, Ok, Err, refl, sym, ap, ◌∙◌, subst, arith, rules}
use Rattle.std.specs.List.{Contains}
use Rattle.redo_core.specs.Data.{RecordData}
use Rattle.redo_core.specs.Sets.{records}
use Rattle.redo_core.specs.Shape.{record_fault}
use Rattle.redo_core.specs.Position.{Position}
use Rattle.redo_core.specs.Sound.{IsSound, KeepsLaws, IsAliveBelow}
use Rattle.redo_core.specs.declared.facts.Fact.{Fact}
use Rattle.redo_core.specs.declared.facts.Fact.TheVariants.{Record}
use Rattle.redo_core.proofs.FactParts.{record_in}
use Rattle.redo_core.proofs.SoundFacts.{kept}
use Rattle.log_theorems.proofs.Log.{log_of_sound}
use Rattle.epoch_book.specs.Book.{BookData}
use Rattle.redo_core.specs.Linked.{IsLinked}
use Rattle.hot_log.specs.Held.{IsHeld}
use Rattle.hot_log.specs.Alive.{IsHeldOf, IsLinkedHeld}
use Rattle.hot_log.specs.Found.{IsLeastRecord, IsGreatestRecord, IsOnlyRecord}
use Rattle.segment_theorems.specs.State.{State, state_of, Store, min_of, version_of}
use Rattle.segment_theorems.specs.Means.{MeansAt}
use Rattle.segment_theorems.specs.Shows.{IsApplied}
use Rattle.segment_theorems.proofs.Chains.{whole_block_chains}
use Rattle.segment_theorems.proofs.Reading.{held_of, links_law}
use Rattle.segment_core.specs.Reading.{IsFrontAt, IsFrontOf}
use Rattle.segment_core.specs.declared.answers.Front.{Front}
use Rattle.segment_core.specs.declared.answers.ReadFault.{ReadFault}
use Rattle.segment_core.specs.declared.answers.ReadFault.TheVariants.{BrokenBlockChain, Memory}
use Rattle.segment_core.specs.BlockChain.{IsKnownLinked, IsLinkedOf, IsLinkedUpTo, OnBlockChain, BreaksFrom, BreaksAt, ReportsBreak}
use Rattle.segment_core.specs.BlockChain.OnBlockChain.{start, down}

-- ---- steps of the walk

-- the one linked record of the page that r's block backlink leads to
pub record IsBelow (s : State) (page q : ℕ) (r below : RecordData) : Type 0 where
  pub follows : r.init ≡ false
  pub above : version_of s.store page < r.block_back
  pub linked : IsLinkedOf s page q below
  pub at : below.number ≡ r.block_back
  pub only : (other : RecordData) → IsLinkedOf s page q other → other.number ≡ r.block_back → other ≡ below

from_below : (s : State) (page q : ℕ) (r below t : RecordData) → IsBelow s page q r below → OnBlockChain s page q below t → OnBlockChain s page q r t
from_below s page q r below _ b start = down r below start b.follows b.above b.linked b.at
from_below s page q r below _ b (down m c on f lt l e) = down m c (from_below s page q r below m b on) f lt l e

to_below : (s : State) (page q : ℕ) (r below t : RecordData) → IsBelow s page q r below → OnBlockChain s page q r t
    → (t ≡ r) ⊎ OnBlockChain s page q below t
to_below s page q r below _ b start = inl refl
to_below s page q r below _ b (down m c on f lt l e) =
    ⊎_elim
    (λ (z : m ≡ r). let same : c ≡ below = b.only c l (e ∙ ap (λ (x : RecordData). x.block_back) z) in
    inr (subst (OnBlockChain s page q below) (sym same) start))
    (λ (h : OnBlockChain s page q below m). inr (down m c h f lt l e))
    (to_below s page q r below m b on)

-- the chain breaks from r on where it breaks from the record below r on
pub breaks_below : (s : State) (page q : ℕ) (r below : RecordData) (n : ℕ) → IsBelow s page q r below
    → BreaksFrom s page q r n ↔ BreaksFrom s page q below n
breaks_below s page q r below n b = (
  λ h. ⊎_elim
      (λ (z : h.at ≡ r). absurd (h.nowhere below b.linked (b.at ∙ ap (λ (x : RecordData). x.block_back) (sym z))))
      (λ (on : OnBlockChain s page q below h.at). record { at = h.at; on = on; follows = h.follows; above = h.above; nowhere = h.nowhere; number = h.number })
      (to_below s page q r below h.at b h.on),
  λ h. record { at = h.at; on = from_below s page q r below h.at b h.on; follows = h.follows; above = h.above; nowhere = h.nowhere; number = h.number },
)

-- a record from which no step leads is the only one on the walk
alone_on : (s : State) (page q : ℕ) (r t : RecordData)
    → (r.init ≡ false → version_of s.store page < r.block_back → (below : RecordData) → IsLinkedOf s page q below → below.number ≡ r.block_back → ⊥)
    → OnBlockChain s page q r t → t ≡ r
alone_on s page q r _ none start = refl
alone_on s page q r _ none (down m c on f lt l e) =
    let z : m ≡ r = alone_on s page q r m none on in
    let back : m.block_back ≡ r.block_back = ap (λ (x : RecordData). x.block_back) z in
    absurd (none (subst (λ (x : RecordData). x.init ≡ false) z f) (omega arith) c l (e ∙ back))

-- where r's block backlink leads nowhere, the chain breaks at r
pub breaks_here : (s : State) (page q : ℕ) (r : RecordData) (n : ℕ) → r.init ≡ false → version_of s.store page < r.block_back
    → ((below : RecordData) → IsLinkedOf s page q below → below.number ≡ r.block_back → ⊥) → (r.number ≡ n) ↔ BreaksFrom s page q r n
breaks_here s page q r n follows lt none = (
  λ e. record { at = r; on = start; follows = follows; above = lt; nowhere = none; number = e },
  λ h. ap (λ (x : RecordData). x.number) (sym (alone_on s page q r h.at (λ f l. none) h.on)) ∙ h.number,
)

-- where r's block backlink is in the image, or r begins its page from zeros, the chain is whole from r on
pub whole_from : (s : State) (page q : ℕ) (r : RecordData) (n : ℕ) → (r.init ≡ false → r.block_back ≤ version_of s.store page) → BreaksFrom s page q r n → ⊥
whole_from s page q r n le h =
    let z : h.at ≡ r = alone_on s page q r h.at (λ f lt below l e. let low = le f in omega (arith, low, lt)) h.on in
    let low : r.block_back ≤ version_of s.store page = le (subst (λ (x : RecordData). x.init ≡ false) z h.follows) in
    let back : h.at.block_back ≡ r.block_back = ap (λ (x : RecordData). x.block_back) z in
    let lt : version_of s.store page < h.at.block_back = h.above in
    omega arith

-- a chain that begins at r breaks where it breaks from r on
pub breaks_first : (s : State) (page q : ℕ) (r : RecordData) (n : ℕ) → IsLinkedOf s page q r
    → ((other : RecordData) → IsLinkedOf s page q other → other.number ≤ r.number)
    → ((other : RecordData) → IsLinkedOf s page q other → other.number ≡ r.number → other ≡ r) → BreaksAt s page q n ↔ BreaksFrom s page q r n
breaks_first s page q r n linked greatest only = (
  λ h.
      let most : h.first.number ≤ r.number = greatest h.first h.linked in
      let least : r.number ≤ h.first.number = h.greatest r linked in
      subst (λ x. BreaksFrom s page q x n) (only h.first h.linked (omega arith)) h.breaks,
  λ h. record { first = r; linked = linked; greatest = greatest; breaks = h },
)

-- ---- what a search among the stored records finds of the linked ones

-- a stored record has its shape, so its LSN is above 0
positive_number : (hs : List RecordData) (r : RecordData) → IsHeld hs → Contains hs r → 0 < r.number
positive_number hs r held among = let shaped = held.shaped r among in positive r shaped
  where
    positive : (r : RecordData) → record_fault r ≡ None → 0 < r.number
    positive r shaped = search (rules, shaped)

greatest_by : (P Q : RecordData → Type 0) → ((r : RecordData) → P r ↔ Q r) → (found : Option RecordData) → IsGreatestRecord P found → IsGreatestRecord Q found
greatest_by P Q same found none = search rules

-- where the stored records link some of the page from the base point on, the last of these is the last of all
pub last_linked : (b : BookData) (hs : List RecordData) (base : ℕ) (store : Store) (page q : ℕ) (r : RecordData)
    → IsGreatestRecord (λ x. IsLinkedHeld b hs base x × (x.page ≡ page) × (x.number ≤ q)) (Some r)
    → IsGreatestRecord (IsLinkedOf (state_of b hs base store) page q) (Some r)
last_linked b hs base store page q r h = search rules

-- where each alive record up to the point is linked, the last alive one of the page is the last of all
pub last_sure : (b : BookData) (hs : List RecordData) (base : ℕ) (store : Store) (page q : ℕ) (found : Option RecordData) → IsHeld hs
    → IsLinkedUpTo (state_of b hs base store) q → IsGreatestRecord (IsHeldOf b hs page 0 q) found
    → IsGreatestRecord (IsLinkedOf (state_of b hs base store) page q) found
last_sure b hs base store page q found held sure =
    greatest_by (IsHeldOf b hs page 0 q) (IsLinkedOf (state_of b hs base store) page q) (λ r. (
      λ h. (h.0, h.1, sure r h.0 h.1 h.4, h.2, h.4),
      λ l. (l.0, l.1, l.3, positive_number hs r held l.0, l.4),
    )) found

-- where they link none, the last alive record of the page up to the base point is the last of all
pub last_unlinked : (b : BookData) (hs : List RecordData) (base : ℕ) (store : Store) (page q top : ℕ) (found : Option RecordData) → IsHeld hs
    → IsGreatestRecord (λ x. IsLinkedHeld b hs base x × (x.page ≡ page) × (x.number ≤ q)) None → top ≡ min base q
    → IsGreatestRecord (IsHeldOf b hs page 0 top) found → IsGreatestRecord (IsLinkedOf (state_of b hs base store) page q) found
last_unlinked b hs base store page q top found held none least =
    let low : top ≤ base = omega (arith, least) in
    let small : top ≤ q = omega (arith, least) in
    let most : (n : ℕ) → n ≤ base → n ≤ q → n ≤ top = λ n le few. omega (arith, least, le, few) in
    greatest_by (IsHeldOf b hs page 0 top) (IsLinkedOf (state_of b hs base store) page q) (λ r. (
      λ h. let n : r.number ≤ top = h.4 in (h.0, h.1, inl (omega (arith, n, low)), h.2, omega (arith, n, small)),
      λ l. ⊎_elim
          (λ (le : r.number ≤ base). (l.0, l.1, l.3, positive_number hs r held l.0, most r.number le l.4))
          (λ linked. absurd (none r ((l.0, l.1, linked), l.3, l.4)))
          l.2,
    )) found

-- r is a linked record of the page with this LSN
abbrev pub IsLinkedAt : State → ℕ → ℕ → RecordData → Type 0
IsLinkedAt s page number r = IsLinkedOf s page number r × (r.number ≡ number)

-- up to an LSN up to which each alive record is linked, the alive one of an LSN is the only one
pub only_low : (b : BookData) (hs : List RecordData) (base : ℕ) (store : Store) (page from number : ℕ) (found : Option RecordData) → IsHeld hs
    → IsLinkedUpTo (state_of b hs base store) number → from ≡ number - 1 → IsLeastRecord (IsHeldOf b hs page from number) found
    → IsOnlyRecord (IsLinkedAt (state_of b hs base store) page number) found
only_low b hs base store page from number None held sure is none = λ r l.
    let n : r.number ≡ number = l.1 in
    let positive = positive_number hs r held l.0.0 in
    none r (l.0.0, l.0.1, l.0.3, omega (arith, n, positive, is), omega (arith, n))
only_low b hs base store page from number (Some r) held sure is h =
    let n : r.number ≤ number = h.0.4 in
    let above : from < r.number = h.0.3 in
    let at : r.number ≡ number = omega (arith, n, above, is) in (
      ((h.0.0, h.0.1, sure r h.0.0 h.0.1 n, h.0.2, n), at),
      λ x l.
          let m : x.number ≡ number = l.1 in
          let positive = positive_number hs x held l.0.0 in
          ⊎_elim
          (λ (same : x ≡ r). same)
          (λ (lt : r.number < x.number). absurd (omega (arith, lt, at, m)))
          (h.1 x (l.0.0, l.0.1, l.0.3, omega (arith, m, positive, is), omega (arith, m))),
    )

-- ---- the walk of a state

-- it begins at the last linked record of the page
pub walk_begins : (s : State) (page q : ℕ) (r : RecordData) → IsGreatestRecord (IsLinkedOf s page q) (Some r) → (n : ℕ)
    → BreaksAt s page q n ↔ BreaksFrom s page q r n
walk_begins s page q r h n =
    breaks_first s page q r n h.0
    (λ x l. ⊎_elim
    (λ (z : x ≡ r). let same : x.number ≡ r.number = ap (λ (y : RecordData). y.number) z in omega (arith, same))
    (λ (lt : x.number < r.number). omega (arith, lt))
    (h.1 x l))
    (λ x l e. ⊎_elim (λ (z : x ≡ r). z) (λ (lt : x.number < r.number). absurd (omega (arith, lt, e))) (h.1 x l))

-- it goes down to the linked record at the block backlink
pub walk_goes : (s : State) (page q : ℕ) (r below : RecordData) → r.init ≡ false → version_of s.store page < r.block_back → r.block_back ≤ q
    → IsOnlyRecord (IsLinkedAt s page r.block_back) (Some below) → IsBelow s page q r below
walk_goes s page q r below follows above small h =
    let at : below.number ≡ r.block_back = h.0.1 in
    record {
      follows = follows;
      above = above;
      linked = (h.0.0.0, h.0.0.1, h.0.0.2, h.0.0.3, omega (arith, at, small));
      at = at;
      only = λ x l n. h.1 x ((l.0, l.1, l.2, l.3, omega (arith, n)), n);
    }

-- it ends at a record whose block backlink leads nowhere
pub walk_breaks : (s : State) (page q : ℕ) (r : RecordData) → r.init ≡ false → version_of s.store page < r.block_back
    → IsOnlyRecord (IsLinkedAt s page r.block_back) None → (n : ℕ) → (r.number ≡ n) ↔ BreaksFrom s page q r n
walk_breaks s page q r follows above none n = breaks_here s page q r n follows above (λ x l e. none x ((l.0, l.1, l.2, l.3, omega (arith, e)), e))

-- ---- over a sound log no block chain breaks

-- each record on the walk is a linked one of the page
pub on_linked : (s : State) (page q : ℕ) (r t : RecordData) → IsLinkedOf s page q r → OnBlockChain s page q r t → IsLinkedOf s page q t
on_linked s page q r _ l start = l
on_linked s page q r _ l (down m c on f lt h e) = h

-- a record's block backlink above 0 is below its LSN
back_below : {roster : ℕ} (log : List Fact) (r : RecordData) → IsSound roster log → Contains (records log) r → 0 < r.block_back → r.block_back < r.number
back_below {roster} log r sound among positive =
    let law : KeepsLaws roster log ((record_in log r).0 among).0 (Record r) = kept roster log (Record r) sound ((record_in log r).0 among) in
    ⊎_elim
    (λ (z : r.block_back ≡ 0). absurd (omega arith))
    (λ (x : IsAliveBelow log r (λ o. o.page ≡ r.page) r.block_back). x.below)
    law.law4.0

-- over a sound log what the facts link is known to be linked
known_linked : {roster : ℕ} (log facts : List Fact) (p : Position) (s : State) (n : ℕ) → IsSound roster log → MeansAt roster log facts p s
    → IsLinked facts p.epoch n → IsKnownLinked s n
known_linked {roster} log facts p s n sound means linked =
    ⊎_elim
    (λ (low : n ≤ s.base). inl low)
    (λ (high : s.base < n). inr ((links_law log facts p s n (log_of_sound roster log sound) means).1 (linked, omega (arith, high))))
    (let t : (n ≤ s.base) ⊎ (s.base < n) = grind arith in t)

pub no_break : {roster : ℕ} (log facts : List Fact) (p : Position) (s : State) (page q n : ℕ) → IsSound roster log → MeansAt roster log facts p s
    → q ≤ p.complete → BreaksAt s page q n → ⊥
no_break {roster} log facts p s page q n sound means le h =
    let r = h.breaks.at in
    let l : IsLinkedOf s page q r = on_linked s page q h.first r h.linked h.breaks.on in
    let above : version_of s.store page < r.block_back = h.breaks.above in
    let back : r.block_back < r.number = back_below log r sound (means.of_log r l.0) (omega (arith, above)) in
    let small : r.number ≤ q = l.4 in
    ⊎_elim
    (λ (low : r.block_back ≤ version_of s.store page). omega (arith, low, above))
    (λ (found : (below : RecordData) × IsApplied s page q below × (below.number ≡ r.block_back)).
    let x = found.0 in
    let fact = (held_of log facts p s (log_of_sound roster log sound) means page q le x).0 found.1 in
    h.breaks.nowhere x (found.1.0, found.1.1, known_linked log facts p s x.number sound means fact.0.linked, found.1.2, found.1.4) found.2)
    (whole_block_chains log facts p s page q r sound means le (l.0, l.1, l.3, omega (arith, above, back), small)).0

-- ---- what the walk and a read answer

-- a record has its shape, so its block backlink is below its LSN
pub block_lower : (r : RecordData) → record_fault r ≡ None → r.block_back < r.number
block_lower r shaped = search (rules, shaped)

-- the walk returns the LSN of the record at which it is
pub answers_here : (s : State) (page q : ℕ) (r : RecordData) (m : ℕ) → m ≡ r.number → ((n : ℕ) → (r.number ≡ n) ↔ BreaksFrom s page q r n)
    → ((n : ℕ) → BreaksAt s page q n ↔ BreaksFrom s page q r n) → (n : ℕ) → (Some m ≡ Some n) ↔ BreaksAt s page q n
answers_here s page q r m is here same n = (
  λ (e : Some m ≡ Some n). let z : r.number ≡ n = cc in (same n).1 ((here n).0 z),
  λ h. let z : r.number ≡ n = (here n).1 ((same n).0 h) in cc,
)

-- it answers none where no chain breaks
pub answers_none : (s : State) (page q : ℕ) → ((n : ℕ) → BreaksAt s page q n → ⊥) → (n : ℕ) → (None ≡ Some n) ↔ BreaksAt s page q n
answers_none s page q none n = (λ (e : None ≡ Some n). absurd (cc), λ h. absurd (none n h))

abbrev pub ReportsLink : State → ℕ → ℕ → Option ℕ → Type 0
ReportsLink s page q link = (n : ℕ) → (link ≡ Some n) ↔ BreaksAt s page q n

pub tells_broken : (s : State) (front : Front) (page q m : ℕ) (link : Option ℕ) → IsFrontOf s front → front.min ≤ q → q ≤ front.complete
    → ReportsLink s page q link → link ≡ Some m → ReportsBreak s page q (Err (BrokenBlockChain page m))
tells_broken s front page q m link own low high tells is = λ g n. (
  λ (e : Err (BrokenBlockChain page m) ≡ Err (BrokenBlockChain g n)).
      let same : m ≡ n = cc in
      let min : front.min ≡ min_of s = own.min in
      let found : link ≡ Some n = is ∙ ap Some same in
      ((cc), (omega (arith, low, min), (front.complete, own.complete, high)), (tells n).0 found),
  λ h.
      let found : link ≡ Some n = (tells n).1 h.2 in
      let number : m ≡ n = cc in
      let place : g ≡ page = h.0 in
      cc,
)

pub tells_whole : (s : State) (page q : ℕ) (link : Option ℕ) (answer : Result (List ℕ) ReadFault)
    → ((g n : ℕ) → answer ≡ Err (BrokenBlockChain g n) → ⊥) → ReportsLink s page q link → link ≡ None → ReportsBreak s page q answer
tells_whole s page q link answer not tells is = λ g n. (
  λ e. absurd (not g n e),
  λ h. let found : link ≡ Some n = (tells n).1 h.2 in absurd (cc),
)

pub not_image : (image : List ℕ) (g n : ℕ) → (let answer : Result (List ℕ) ReadFault = Ok image in answer) ≡ Err (BrokenBlockChain g n) → ⊥
not_image image g n e = cc

pub not_memory : (g n : ℕ) → (let answer : Result (List ℕ) ReadFault = Err Memory in answer) ≡ Err (BrokenBlockChain g n) → ⊥
not_memory g n e = cc

-- a link that is no LSN is none
pub no_link : (link : Option ℕ) → ((n : ℕ) → link ≡ Some n → ⊥) → link ≡ None
no_link link not = search rules

pub sound_link : (s : State) (page q : ℕ) (link : Option ℕ) → ReportsLink s page q link → (roster : ℕ) (log facts : List Fact) (p : Position)
    → IsSound roster log → MeansAt roster log facts p s → q ≤ p.complete → link ≡ None
sound_link s page q link tells roster log facts p sound means le =
    no_link link (λ n is. no_break log facts p s page q n sound means le ((tells n).0 is))

pub within : (p : Position) (front : Front) (q : ℕ) → IsFrontAt p front → q ≤ front.complete → q ≤ p.complete
within p front q at high = let complete : front.complete ≡ p.complete = at.complete in omega (arith, complete, high)

-- What a read answers with an image that was kept.
use Rattle.std.proofs.Common.{◌≡◌, ℕ, ◌<◌, ◌≤◌, ◌⊎◌, ⊎_elim, List, Result, Ok, Err, IfOk, IfErr, Contains, refl, sym, subst, arith, rules}
use Rattle.redo_core.specs.Position.{Position}
use Rattle.redo_core.specs.Sound.{IsSound}
use Rattle.redo_core.specs.declared.facts.Fact.{Fact}
use Rattle.log_theorems.proofs.Log.{log_of_sound}
use Rattle.log_theorems.proofs.Views.{anchor_is}
use Rattle.segment_theorems.specs.State.{State, min_of}
use Rattle.segment_theorems.specs.HasMeaning.{HasComplete}
use Rattle.segment_theorems.specs.Means.{MeansAt}
use Rattle.segment_theorems.specs.Shows.{Shows}
use Rattle.segment_theorems.proofs.Own.{complete_of}
use Rattle.segment_theorems.proofs.Reading.{pages_law}
use Rattle.segment_theorems.proofs.Same.{same_min}
use Rattle.segment_core.specs.Reading.{IsReadResult, IsReadFault, ReportsOutside}
use Rattle.segment_core.specs.declared.answers.ReadFault.{ReadFault}
use Rattle.segment_core.specs.declared.answers.ReadFault.TheVariants.{Below, Above, BrokenBlockChain, Memory}
use Rattle.std.specs.declared.alloc.AllocError.{AllocError}
use Rattle.read_cache.specs.declared.kept.KeptImage.{KeptImage}
use Rattle.read_cache.specs.Cached.{Cached, IsShown}
use Rattle.read_cache.specs.Reading.{IsHit, ReportsUnkeptBreak}

pub hit_shows : (c : Cached) (page q : ℕ) (image : List ℕ) → IsHit c page q (Ok image) → Shows c.segment page q image
hit_shows c page q image h = rw (h.image, ← h.at) h.shown.shown

pub hit_result : (c : Cached) (page q : ℕ) (result : Result (List ℕ) ReadFault) → IsHit c page q result → (roster : ℕ) (log facts : List Fact) (p : Position)
    → IsSound roster log → MeansAt roster log facts p c.segment → IsReadResult facts p page q result
hit_result c page q (Err fault) h roster log facts p sound means = subst (IsReadFault facts p page q) (sym h.memory) tt
hit_result c page q (Ok image) h roster log facts p sound means =
    let l = log_of_sound roster log sound in
    let reached : min_of c.segment ≤ q = h.reached in
    let same : min_of c.segment ≡ p.min = same_min log facts p c.segment means in
    let least : p.min ≤ q = omega arith in
    let covered : h.kept.point ≤ p.complete = h.shown.covered p.complete (complete_of log facts p c.segment l means) in
    let at : h.kept.point ≡ q = h.at in
    let most : q ≤ p.complete = omega arith in
    let low : p.anchor ≤ p.min = (anchor_is facts p means.position).1 in
    let settled : p.anchor ≤ q = omega arith in
    ((least, most), (pages_law log facts p c.segment page q image l means settled most).0 (hit_shows c page q image h))

-- no other fault is reported than lack of memory
not_told : (c : Cached) (page q : ℕ) (result : Result (List ℕ) ReadFault) → IsHit c page q result → (fault : ReadFault) → (fault ≡ Memory → ⊥)
    → result ≡ Err fault → ⊥
not_told c page q result h fault other e = search rules

pub hit_outside : (c : Cached) (page q : ℕ) (result : Result (List ℕ) ReadFault) → IsHit c page q result → ReportsOutside c.segment q result
hit_outside c page q result h complete n has =
    let reached : min_of c.segment ≤ q = h.reached in
    let covered : h.kept.point ≤ complete = h.shown.covered complete has in
    let at : h.kept.point ≡ q = h.at in (
      (λ e. absurd (not_told c page q result h (Below n) (λ (m : Below n ≡ Memory). absurd (cc)) e), λ x. absurd (omega (arith, reached, x.1))),
      (λ e. absurd (not_told c page q result h (Above n) (λ (m : Above n ≡ Memory). absurd (cc)) e), λ x. absurd (omega (arith, covered, at, x.2))),
    )

pub hit_broken : (c : Cached) (page q : ℕ) (result : Result (List ℕ) ReadFault) → IsHit c page q result → ReportsUnkeptBreak c page q result
hit_broken c page q result h = record {
  only = λ g n e. absurd (not_told c page q result h (BrokenBlockChain g n) (λ (m : BrokenBlockChain g n ≡ Memory). absurd (cc)) e);
  unkept = λ none. absurd (none h.kept h.among h.at);
}

-- what the cache found is such an answer
pub hit_of : (c : Cached) (page q : ℕ) (copied : Result (List ℕ) AllocError) (result : Result (List ℕ) ReadFault) → min_of c.segment ≤ q
    → (found : (kept : KeptImage) × Contains c.images (page, kept) × (kept.point ≡ q) × IfOk copied (λ image. image ≡ kept.image))
    → IsShown c.segment page found.0 → IfOk result (λ image. copied ≡ Ok image) → IfErr result (λ fault. fault ≡ Memory) → IsHit c page q result
hit_of c page q copied result reached found shown ok err = search rules

-- the point of an image that a read answered is not above the complete point
pub covered_by : (s : State) (q : ℕ) (image : List ℕ) (result : Result (List ℕ) ReadFault) → result ≡ Ok image → ReportsOutside s q result → (complete : ℕ)
    → HasComplete s complete → q ≤ complete
covered_by s q image result is out complete has =
    ⊎_elim
    (λ (most : q ≤ complete). most)
    (λ (high : complete < q). ⊎_elim
    (λ (least : min_of s ≤ q). let e : result ≡ Err (Above complete) = (out complete complete has).1.1 (refl, least, high) in absurd (cc))
    (λ (low : q < min_of s). let e : result ≡ Err (Below (min_of s)) = (out complete (min_of s) has).0.1 (refl, low) in absurd (cc))
    (let o : (min_of s ≤ q) ⊎ (q < min_of s) = grind arith in o))
    (let o : (q ≤ complete) ⊎ (complete < q) = grind arith in o)

-- Meanings of parts of one log that cover each other are one.
use Rattle.std.proofs.Common.{◌≡◌, ℕ, ◌<◌, ◌≤◌, ◌⊎◌, inl, inr, ⊎_elim, List, sym, ap, ◌∙◌, subst, arith, rules}
use Rattle.std.specs.List.{Contains}
use Rattle.redo_core.specs.Data.{RecordData, CutData, AdvanceData}
use Rattle.redo_core.specs.Sets.{IsPart, SameSet, records, cuts, advances}
use Rattle.redo_core.specs.CompleteEpoch.{IsCompleteEpoch}
use Rattle.redo_core.specs.Standing.{IsAlive, IsDead, IsWaiting}
use Rattle.redo_core.specs.Roster.{IsReader, point_of}
use Rattle.redo_core.specs.Points.{IsPoint}
use Rattle.redo_core.specs.Position.{Position}
use Rattle.redo_core.specs.Meaning.{Meaning, IsMeaningAt, IsKept}
use Rattle.redo_core.specs.declared.facts.Fact.{Fact}
use Rattle.redo_core.proofs.FactParts.{part_records}
use Rattle.log_theorems.specs.OrderOfMeanings.{CoversAt}
use Rattle.redo_core.proofs.Numbers.{greatest_unique}
use Rattle.redo_core.proofs.CompleteEpochs.{has_cuts}
use Rattle.log_theorems.proofs.Log.{IsLog, log_of_sound}
use Rattle.log_theorems.proofs.Views.{alive_up}
use Rattle.log_theorems.proofs.Deciding.{settled_lt}
use Rattle.log_theorems.proofs.Fronts.{same_sym}
use Rattle.log_theorems.proofs.Meanings.{meaning_unique}
use Rattle.log_theorems.proofs.Alike.{Matters, Alike, alive_by, matters_by, cuts_to_by, meaning_alike, has_below}
use Rattle.segment_join.specs.Laws.{Antisymmetry}
use Rattle.segment_join.proofs.Agreeing.{at_most_both}

-- one complete epoch belongs to one set of truncations
epoch_of_set : (cs ds : List CutData) (j k : ℕ) → SameSet cs ds → IsCompleteEpoch cs j → IsCompleteEpoch ds k → j ≡ k
epoch_of_set cs ds j k same a b = search (rules, greatest_unique, cuts_to_by, same_sym)

-- two parts, each at its position and with its meaning, of which the second covers the first; they have one epoch and one anchor
record IsCovered (roster : ℕ) (F G : List Fact) (f g : Position) (x y : Meaning) : Type 0 where
  lower : IsMeaningAt roster F f x
  upper : IsMeaningAt roster G g y
  covers : CoversAt f.epoch y x
  cuts : SameSet (cuts F) (cuts G)
  epoch : f.epoch ≡ g.epoch
  anchor : f.anchor ≡ g.anchor

-- what the first keeps the second has
has_kept : {roster : ℕ} (F G : List Fact) (f g : Position) (x y : Meaning) → IsCovered roster F G f g x y
    → (r : RecordData) → IsKept F f r → Contains (records G) r
has_kept F G f g x y c r kept =
    ⊎_elim
    (λ (there : Contains y.kept r). ((c.upper.kept.members r).0 there).0)
    (λ (gone : IsDead y.cuts f.epoch r.epoch r.number ⊎ ((r.number ≤ y.anchor) × (r.epoch ≤ f.epoch))). absurd (⊎_elim
    (λ (waits : IsWaiting f.epoch r.epoch). ⊎_elim
    (λ (dead : IsDead y.cuts f.epoch r.epoch r.number). omega (arith, waits, dead.0))
    (λ (low : (r.number ≤ y.anchor) × (r.epoch ≤ f.epoch)). omega (arith, waits, low.1))
    gone)
    (λ (alive : IsAlive (cuts F) f.epoch r.epoch r.number × (f.anchor < r.number)). ⊎_elim
    (λ (dead : IsDead y.cuts f.epoch r.epoch r.number). dead.1 (alive_by (cuts F) y.cuts same f.epoch r.epoch r.number alive.0))
    (λ (low : (r.number ≤ y.anchor) × (r.epoch ≤ f.epoch)). omega (arith, alive.1, low.0, c.upper.anchor, c.anchor))
    gone)
    kept.1))
    (c.covers.kept r ((c.lower.kept.members r).1 kept))
  where
    same : SameSet (cuts F) y.cuts
    same d = (λ h. (c.upper.cuts.members d).1 ((c.cuts d).0 h), λ h. (c.cuts d).1 ((c.upper.cuts.members d).0 h))

-- what of the first is not dead the second has
has_what_matters : {roster : ℕ} (log F G : List Fact) (f g : Position) (x y : Meaning) → IsLog roster log → IsPart F log → IsPart G log
    → IsCovered roster F G f g x y → (r : RecordData) → Matters F f.epoch r → Contains (records F) r → Contains (records G) r
has_what_matters log F G f g x y l p q c r matters has =
    ⊎_elim
    (λ (waits : f.epoch < r.epoch). has_kept F G f g x y c r (has, inl waits))
    (λ (alive : IsAlive (cuts F) f.epoch r.epoch r.number). ⊎_elim
    (λ (above : f.anchor < r.number). has_kept F G f g x y c r (has, inr (alive, above)))
    (λ (settled : f.anchor < r.number → ⊥).
    let in_log : IsAlive (cuts log) f.epoch r.epoch r.number =
    alive_up log F l p f.epoch r.epoch r.number (has_cuts (cuts F) f.epoch c.lower.position.epoch) alive in
    has_below log G g l q c.upper.position r (part_records F log p r has) (subst (λ k. IsAlive (cuts log) k r.epoch r.number) c.epoch in_log)
    (omega (arith, settled, c.anchor)))
    (settled_lt f.anchor r.number))
    matters

-- an advance that waits in the first waits in the second
has_wait : {roster : ℕ} (F G : List Fact) (f g : Position) (x y : Meaning) → IsCovered roster F G f g x y → (a : AdvanceData)
    → f.epoch < a.epoch → Contains (advances F) a → Contains (advances G) a
has_wait F G f g x y c a later has =
    ⊎_elim
    (λ (there : Contains y.waits a). ((c.upper.waits.members a).0 there).0)
    (λ (counts : (a.epoch ≤ f.epoch) × (a.point ≤ point_of y.points a.reader)). absurd (omega (arith, later, counts.0)))
    (c.covers.waits a ((c.lower.waits.members a).1 (has, later)))

-- each reader's point of the first is that of the second
has_point : {roster : ℕ} (F G : List Fact) (f g : Position) (x y : Meaning) → IsCovered roster F G f g x y → x.points ≡ y.points
    → (reader n : ℕ) → IsReader roster reader → IsPoint (advances F) f.epoch reader n → IsPoint (advances G) f.epoch reader n
has_point F G f g x y c points reader n r at =
    let same : point_of f.points reader ≡ point_of g.points reader = ap (λ ps. point_of ps reader) (sym c.lower.points ∙ (points ∙ c.upper.points)) in
    let own : n ≡ point_of f.points reader =
    greatest_unique _ _ (λ i. (λ u. u, λ u. u)) n (point_of f.points reader) at (c.lower.position.points.each reader r) in
    subst (IsPoint (advances G) f.epoch reader) (sym (own ∙ same))
    (subst (λ k. IsPoint (advances G) k reader (point_of g.points reader)) (sym c.epoch) (c.upper.position.points.each reader r))

-- parts whose meanings cover each other differ only in what no longer matters
alike_both_ways : {roster : ℕ} (log F G : List Fact) (f g : Position) (x y : Meaning) → IsLog roster log → IsPart F log → IsPart G log
    → IsCovered roster F G f g x y → IsCovered roster G F g f y x → x.points ≡ y.points → Alike roster F G f.epoch
alike_both_ways log F G f g x y l p q up down points = record {
  cuts = up.cuts;
  records = λ r matters. (
    has_what_matters log F G f g x y l p q up r matters,
    has_what_matters log G F g f y x l q p down r (subst (λ k. Matters G k r) up.epoch (matters_by F G up.cuts f.epoch r matters)),
  );
  waits = λ a later. (has_wait F G f g x y up a later, has_wait G F g f y x down a (omega (arith, later, up.epoch)));
  points = λ reader n r. (
    has_point F G f g x y up points reader n r,
    λ at.
        subst (λ k. IsPoint (advances F) k reader n) down.epoch
        (has_point G F g f y x down (sym points) reader n r (subst (λ k. IsPoint (advances G) k reader n) up.epoch at)),
  );
}

pub antisymmetry : Antisymmetry
antisymmetry roster log F G x y sound p q mx my up down =
    let f = mx.0 in let g = my.0 in let hx = mx.1 in let hy = my.1 in
    let l = log_of_sound roster log sound in
    let same : SameSet (cuts F) (cuts G) = λ c. (
      λ h. (hy.cuts.members c).0 (down.1.cuts c ((hx.cuts.members c).1 h)),
      λ h. (hx.cuts.members c).0 (up.1.cuts c ((hy.cuts.members c).1 h)),
    ) in
    let epoch : f.epoch ≡ g.epoch = epoch_of_set (cuts F) (cuts G) f.epoch g.epoch same hx.position.epoch hy.position.epoch in
    let top : down.0 ≡ g.epoch = epoch_of_set y.cuts (cuts G) down.0 g.epoch hy.cuts.members down.1.epoch hy.position.epoch in
    let bottom : up.0 ≡ f.epoch = epoch_of_set x.cuts (cuts F) up.0 f.epoch hx.cuts.members up.1.epoch hx.position.epoch in
    let anchor : f.anchor ≡ g.anchor = omega (arith, hx.anchor, hy.anchor, up.1.anchor, down.1.anchor) in
    let points : x.points ≡ y.points = at_most_both x.points y.points down.1.points up.1.points in
    let one : IsCovered roster F G f g x y = record {
      lower = hx;
      upper = hy;
      covers = subst (λ k. CoversAt k y x) (top ∙ sym epoch) down.1;
      cuts = same;
      epoch = epoch;
      anchor = anchor;
    } in
    let other : IsCovered roster G F g f y x = record {
      lower = hy;
      upper = hx;
      covers = subst (λ k. CoversAt k x y) (bottom ∙ epoch) up.1;
      cuts = same_sym (cuts F) (cuts G) same;
      epoch = sym epoch;
      anchor = sym anchor;
    } in
    let alike = alike_both_ways log F G f g x y l p q one other points in
    meaning_unique G x y (f, meaning_alike F G f x alike hx) my

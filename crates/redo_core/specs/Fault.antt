-- The fault of a log that is not sound: the least index that breaks a law, with the least law that it breaks.
use Rattle.std.specs.Prelude.{◌≡◌, ℕ, ◌<◌, List, [], ◌∷◌, take, slice_get, Some}
use Rattle.std.specs.List.{AllByRecursion}
use Rattle.redo_core.specs.Sound.{Law1, Law2, Law3, Law4, Law5, KeepsLaws}
use Rattle.redo_core.specs.declared.facts.Fact.{Fact}
use Rattle.redo_core.specs.declared.laws.Law.{Law}
use Rattle.redo_core.specs.declared.laws.Law.TheVariants.{OneFactPerKey, EpochBegun, SegmentBacklink, BlockBacklink, AdvanceKept}

-- the fact at an index (from 0) keeps a law
abbrev pub KeepsLaw : ℕ → List Fact → ℕ → Fact → Law → Type 0
KeepsLaw roster log place fact OneFactPerKey = Law1 (take place log) fact
KeepsLaw roster log place fact EpochBegun = Law2 log fact
KeepsLaw roster log place fact SegmentBacklink = Law3 log fact
KeepsLaw roster log place fact BlockBacklink = Law4 log fact
KeepsLaw roster log place fact AdvanceKept = Law5 roster log fact

-- the laws of lower numbers
abbrev pub lower_laws : Law → List Law
lower_laws OneFactPerKey = []
lower_laws EpochBegun = OneFactPerKey ∷ []
lower_laws SegmentBacklink = OneFactPerKey ∷ EpochBegun ∷ []
lower_laws BlockBacklink = OneFactPerKey ∷ EpochBegun ∷ SegmentBacklink ∷ []
lower_laws AdvanceKept = OneFactPerKey ∷ EpochBegun ∷ SegmentBacklink ∷ BlockBacklink ∷ []

-- the fact at an index breaks the law, and none of the lower ones
abbrev pub BreaksFirst : ℕ → List Fact → ℕ → Fact → Law → Type 0
BreaksFirst roster log place fact law = (KeepsLaw roster log place fact law → ⊥) × AllByRecursion (KeepsLaw roster log place fact) (lower_laws law)

-- the number by which a law is reported
abbrev pub law_number : Law → ℕ
law_number OneFactPerKey = 1
law_number EpochBegun = 2
law_number SegmentBacklink = 3
law_number BlockBacklink = 4
law_number AdvanceKept = 5

-- the index (from 0) is the least that breaks a law, and the law is the least that it breaks
pub record IsFirstFault (roster : ℕ) (log : List Fact) (place : ℕ) (law : Law) : Type 0 where
  pub fact : Fact
  pub at_place : slice_get log place ≡ Some fact
  pub breaks : KeepsLaw roster log place fact law → ⊥
  pub lower : AllByRecursion (KeepsLaw roster log place fact) (lower_laws law)
  pub before : (earlier : ℕ) (f : Fact) → earlier < place → slice_get log earlier ≡ Some f → KeepsLaws roster log earlier f

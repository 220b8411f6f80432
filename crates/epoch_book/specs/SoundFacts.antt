-- A book refuses no fact of a sound log.
use Rattle.std.specs.Prelude.{◌≡◌, ℕ, List}
use Rattle.std.specs.List.{Contains}
use Rattle.redo_core.specs.Data.{CutData, AdvanceData}
use Rattle.redo_core.specs.Sets.{IsPart}
use Rattle.redo_core.specs.Sound.{IsSound}
use Rattle.redo_core.specs.declared.facts.Fact.{Fact}
use Rattle.redo_core.specs.declared.facts.Fact.TheVariants.{Cut, Advance}
use Rattle.epoch_book.specs.Book.{BookData, roster_of, IsBook}
use Rattle.epoch_book.specs.Knowing.{KnowsFacts}
use Rattle.epoch_book.specs.Refusing.{RefusesCut, RefusesAdvance}
use Rattle.epoch_book.specs.declared.refusals.BookRefusal.{BookRefusal}

-- the book knows a part of a log of its roster
pub record KnowsPart (roster : ℕ) (log : List Fact) (b : BookData) : Type 0 where
  pub readers : roster_of b ≡ roster
  pub book : IsBook b
  pub facts : List Fact
  pub part : IsPart facts log
  pub knows : KnowsFacts facts b

-- a truncation of the log is not refused
abbrev pub SoundCutsAreLearnt : Type 0
SoundCutsAreLearnt =
    (roster : ℕ) (log : List Fact) (b : BookData) (c : CutData)
    → IsSound roster log → KnowsPart roster log b → Contains log (Cut c) → (e : BookRefusal) → RefusesCut b c e → ⊥

-- nor is an advance
abbrev pub SoundAdvancesAreLearnt : Type 0
SoundAdvancesAreLearnt =
    (roster : ℕ) (log : List Fact) (b : BookData) (a : AdvanceData)
    → IsSound roster log → KnowsPart roster log b → Contains log (Advance a) → (e : BookRefusal) → RefusesAdvance b a e → ⊥

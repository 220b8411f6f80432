-- The rules that engines keep about what they emit.
use Rattle.std.specs.Prelude.{◌≡◌, ℕ, suc, ◌≤◌, List, [], ◌∷◌, ◌++◌, length, None}
use Rattle.std.specs.List.{Contains}
use Rattle.redo_core.specs.Data.{RecordData, CutData, AdvanceData}
use Rattle.redo_core.specs.Shape.{cut_fault}
use Rattle.redo_core.specs.Sets.{IsPart}
use Rattle.redo_core.specs.Roster.{IsRoster}
use Rattle.redo_core.specs.Sound.{IsSound}
use Rattle.redo_core.specs.declared.facts.Fact.{Fact}
use Rattle.redo_core.specs.declared.facts.Fact.TheVariants.{Record, Cut, Advance}
use Rattle.redo_writer.specs.State.{WriterState}
use Rattle.redo_writer.specs.Continues.{Continues}
use Rattle.volume_theorems.specs.Nodes.{Content}
use Rattle.volume_theorems.specs.Runs.{VolumeRun}
use Rattle.volume_theorems.specs.Opening.{IsCutSent}
use Rattle.volume_theorems.specs.ByMoment.{HasOpenedBy, IsDurableBy}
use Rattle.volume_theorems.specs.Contents.{IsContentOf}
use Rattle.volume_logs.specs.Histories.{History, log_to, log_at}
use Rattle.volume_logs.specs.Writes.{Writes}
use Rattle.volume_logs.specs.PageLayout.{LeavesNumber, IsCommitRecord}

-- the facts of the log, perhaps without some advances: those that did not reach the engine
pub record LacksAdvances (base log : List Fact) : Type 0 where
  pub inner : IsPart base log
  pub records : (r : RecordData) → Contains log (Record r) → Contains base (Record r)
  pub cuts : (c : CutData) → Contains log (Cut c) → Contains base (Cut c)

-- The writer goes on from the log, cut by the truncation: if that is sound, the writer continues it.
pub record GoesOn (readers : ℕ) (first : WriterState) (base : List Fact) (cut : CutData) : Type 0 where
  pub readers_is : length first.points ≡ readers
  pub continues : IsSound readers (base ++ Cut cut ∷ []) → Continues first (base ++ Cut cut ∷ [])

-- Engine e writes epoch k + 1, by the moment t. It began at the moment `start`, when the epoch's truncation had been sent, with a writer that
-- goes on from the epochs below. Nobody is advanced above what is durable. Each record leaves its number in its page, and each record of page 0
-- names the engine's generation.
pub record IsWriter (run : VolumeRun) (h : History) (t k e : ℕ) : Type 0 where
  pub opened : HasOpenedBy run t e (suc k)
  pub start : ℕ
  pub before : start ≤ t
  pub begun : suc k ≤ h.newest start
  pub base : List Fact
  pub lacks : LacksAdvances base (log_to h start k)
  pub first : WriterState
  pub goes_on : GoesOn h.readers first base (h.cuts (suc k))
  pub epoch : first.epoch ≡ suc k
  pub last : WriterState
  pub writes : Writes first (h.written t (suc k)) last
  pub durable : (a : AdvanceData) → Contains (h.written t (suc k)) (Advance a) → (p : ℕ) × (a.point ≤ p) × IsDurableBy run t e (suc k) p
  pub leaves : (r : RecordData) → Contains (h.written t (suc k)) (Record r) → LeavesNumber r
  pub commits : (r : RecordData) → Contains (h.written t (suc k)) (Record r) → r.page ≡ 0 → IsCommitRecord (run.engines e).generation r

-- the content is that of some of the facts
abbrev pub IsContentIn : List Fact → Content → Type 0
IsContentIn log content = (part : List Fact) × IsPart part log × IsContentOf part content

-- The history is one of the run, up to the moment `stop`. What an engine has emitted stays so; and a node has nothing else.
pub record IsEmitted (run : VolumeRun) (h : History) (stop : ℕ) : Type 0 where
  pub roster : IsRoster h.readers
  pub epochs : (k : ℕ) → (h.cuts k).epoch ≡ k
  pub shaped : (k : ℕ) → 1 ≤ k → k ≤ h.newest stop → cut_fault (h.cuts k) ≡ None
  pub sent : (t k : ℕ) → t ≤ stop → 1 ≤ k → k ≤ h.newest t → IsCutSent run t (h.cuts k)
  pub newest : (t : ℕ) (c : CutData) → t ≤ stop → IsCutSent run t c → c.epoch ≤ h.newest t
  pub grows : (s t k : ℕ) → s ≤ t → t ≤ stop → (more : List Fact) × (h.written t k ≡ h.written s k ++ more)
  pub writers : (t k : ℕ) (f : Fact) → t ≤ stop → Contains (h.written t (suc k)) f → (e : ℕ) × IsWriter run h t k e
  pub held : (t i : ℕ) → t ≤ stop → IsContentIn (log_at h t) (run.nodes t i).content

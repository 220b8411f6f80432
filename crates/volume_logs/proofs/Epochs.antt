-- Which facts of the log are of which epoch, and that it only grows.
use Rattle.std.proofs.Common.{◌≡◌, ℕ, zero, suc, ◌<◌, ◌≤◌, ◌⊎◌, ⊎_elim, inl, inr, sym, ◌∙◌, subst, ap, arith}
use Rattle.std.specs.List.{Contains}
use Rattle.std.proofs.lemmas.List.Elements.{Contains-append_left}
use Rattle.redo_core.specs.Data.{RecordData, CutData, AdvanceData}
use Rattle.redo_core.specs.Sets.{IsPart}
use Rattle.redo_core.specs.declared.facts.Fact.{Fact}
use Rattle.redo_core.specs.declared.facts.Fact.TheVariants.{Record, Cut, Advance}
use Rattle.redo_core.proofs.Members.{none_in}
use Rattle.volume_theorems.specs.Runs.{VolumeRun}
use Rattle.log_law.proofs.Repeats.{cut_eq}
use Rattle.volume_theorems.proofs.Proposing.{sent_later}
use Rattle.volume_logs.specs.Histories.{History, log_to, log_at}
use Rattle.volume_logs.specs.Emitting.{IsEmitted}
use Rattle.volume_logs.specs.LogSound.{LogGrows}
use Rattle.volume_logs.proofs.Layers.{epoch_of, AllUpTo, AllOfEpoch, facts_epoch, layer_of, in_log, in_cut, in_facts}
use Rattle.volume_logs.proofs.Written.{writes_epoch}

-- ---- members of the log
-- The fact is the truncation of epoch j + 1, or was written in that epoch.
abbrev pub IsOf : History → ℕ → ℕ → Fact → Type 0
IsOf h t j f = (Cut (h.cuts (suc j)) ≡ f) ⊎ Contains (h.written t (suc j)) f

pub epoch_in : (h : History) (t k : ℕ) (f : Fact) → Contains (log_to h t k) f → (j : ℕ) × (j < k) × IsOf h t j f
epoch_in h t zero f inside = absurd (none_in f inside)
epoch_in h t (suc k) f inside = ⊎_elim
    (λ (low : Contains (log_to h t k) f). let x = epoch_in h t k f low in let before : x.0 < k = x.1 in (x.0, omega arith, x.2))
    (λ (own : IsOf h t k f). (k, omega arith, own))
    (layer_of (log_to h t k) (h.cuts (suc k)) (h.written t (suc k)) f inside)

pub in_epoch : (h : History) (t k j : ℕ) (f : Fact) → j < k → IsOf h t j f → Contains (log_to h t k) f
in_epoch h t zero j f before of = absurd (omega arith)
in_epoch h t (suc k) j f before of = ⊎_elim
    (λ (low : j < k). in_log (log_to h t k) (h.cuts (suc k)) (h.written t (suc k)) f (in_epoch h t k j f low of))
    (λ (last : j ≡ k).
    let own : IsOf h t k f = subst (λ (x : ℕ). IsOf h t x f) last of in
    ⊎_elim
    (λ (cut : Cut (h.cuts (suc k)) ≡ f). subst (λ x. Contains (log_to h t (suc k)) x) cut (in_cut (log_to h t k) (h.cuts (suc k)) (h.written t (suc k))))
    (λ (fact : Contains (h.written t (suc k)) f). in_facts (log_to h t k) (h.cuts (suc k)) (h.written t (suc k)) f fact)
    own)
    (let way : (j < k) ⊎ (j ≡ k) = grind arith in way)

pub below_part : (h : History) (t j k : ℕ) → j ≤ k → IsPart (log_to h t j) (log_to h t k)
below_part h t j k upto f inside =
    let x = epoch_in h t j f inside in let before : x.0 < j = x.1 in in_epoch h t k x.0 f (omega arith) x.2

module _ (run : VolumeRun) (h : History) (stop : ℕ) (is : IsEmitted run h stop) where
  pub written_epoch : (t k : ℕ) → t ≤ stop → AllOfEpoch (h.written t (suc k)) (suc k)
  written_epoch t k upto f inside =
      let w = is.writers t k f upto inside in
      writes_epoch w.1.first w.1.last (h.written t (suc k)) (suc k) w.1.epoch w.1.writes f inside

  pub of_epoch : (t j : ℕ) (f : Fact) → t ≤ stop → IsOf h t j f → epoch_of f ≡ suc j
  of_epoch t j f upto of = ⊎_elim
      (λ (cut : Cut (h.cuts (suc j)) ≡ f). sym (ap epoch_of cut) ∙ is.epochs (suc j))
      (λ (fact : Contains (h.written t (suc j)) f). facts_epoch (suc j) f (written_epoch t j upto f fact))
      of

  pub log_upto : (t k : ℕ) → t ≤ stop → AllUpTo (log_to h t k) k
  log_upto t k upto f inside =
      let x = epoch_in h t k f inside in
      let before : x.0 < k = x.1 in
      let at : epoch_of f ≡ suc x.0 = of_epoch t x.0 f upto x.2 in
      omega arith

  -- a fact of epoch j + 1
  pub at_epoch : (t k j : ℕ) (f : Fact) → t ≤ stop → Contains (log_to h t k) f → epoch_of f ≡ suc j → IsOf h t j f
  at_epoch t k j f upto inside at =
      let x = epoch_in h t k f inside in
      let own : epoch_of f ≡ suc x.0 = of_epoch t x.0 f upto x.2 in
      let same : x.0 ≡ j = omega arith in
      subst (λ (y : ℕ). IsOf h t y f) same x.2

  pub record_at : (t k j : ℕ) (r : RecordData) → t ≤ stop → Contains (log_to h t k) (Record r) → r.epoch ≡ suc j → Contains (h.written t (suc j)) (Record r)
  record_at t k j r upto inside at = ⊎_elim
      (λ (cut : Cut (h.cuts (suc j)) ≡ Record r). absurd (cc))
      (λ (fact : Contains (h.written t (suc j)) (Record r)). fact)
      (at_epoch t k j (Record r) upto inside at)

  pub record_epoch : (t k : ℕ) (r : RecordData) → t ≤ stop → Contains (log_to h t k) (Record r)
      → (j : ℕ) × (j < k) × (r.epoch ≡ suc j) × Contains (h.written t (suc j)) (Record r)
  record_epoch t k r upto inside =
      let x = epoch_in h t k (Record r) inside in
      let at : r.epoch ≡ suc x.0 = of_epoch t x.0 (Record r) upto x.2 in
      (x.0, x.1, at, record_at t k x.0 r upto inside at)

  pub advance_epoch : (t k : ℕ) (a : AdvanceData) → t ≤ stop → Contains (log_to h t k) (Advance a)
      → (j : ℕ) × (j < k) × Contains (h.written t (suc j)) (Advance a)
  advance_epoch t k a upto inside =
      let x = epoch_in h t k (Advance a) inside in
      (x.0, x.1, ⊎_elim (λ (cut : Cut (h.cuts (suc x.0)) ≡ Advance a). absurd (cc)) (λ (fact : Contains (h.written t (suc x.0)) (Advance a)). fact) x.2)

  pub cut_at : (t k : ℕ) (c : CutData) → t ≤ stop → Contains (log_to h t k) (Cut c) → (j : ℕ) × (j < k) × (h.cuts (suc j) ≡ c)
  cut_at t k c upto inside =
      let x = epoch_in h t k (Cut c) inside in (
        x.0,
        x.1,
        ⊎_elim
            (λ (cut : Cut (h.cuts (suc x.0)) ≡ Cut c). cut_eq (h.cuts (suc x.0)) c cut)
            (λ (fact : Contains (h.written t (suc x.0)) (Cut c)). absurd (written_epoch t x.0 upto (Cut c) fact))
            x.2,
      )

  -- ---- later moments
  pub written_grows : (s t k : ℕ) → s ≤ t → t ≤ stop → IsPart (h.written s k) (h.written t k)
  written_grows s t k order upto f inside =
      let more = is.grows s t k order upto in
      subst (λ xs. Contains xs f) (sym more.1) (Contains-append_left (h.written s k) more.0 f inside)

  pub of_later : (s t j : ℕ) (f : Fact) → s ≤ t → t ≤ stop → IsOf h s j f → IsOf h t j f
  of_later s t j f order upto of = ⊎_elim inl (λ (fact : Contains (h.written s (suc j)) f). inr (written_grows s t (suc j) order upto f fact)) of

  pub log_later : (s t k : ℕ) → s ≤ t → t ≤ stop → IsPart (log_to h s k) (log_to h t k)
  log_later s t k order upto f inside =
      let x = epoch_in h s k f inside in in_epoch h t k x.0 f x.1 (of_later s t x.0 f order upto x.2)

  pub newest_rises : (s t : ℕ) → s ≤ t → t ≤ stop → h.newest s ≤ h.newest t
  newest_rises s t order upto = ⊎_elim
      (λ (none : h.newest s ≡ 0). omega arith)
      (λ (some : 1 ≤ h.newest s).
      let sent = is.sent s (h.newest s) (omega arith) some (omega arith) in
      let again : (h.cuts (h.newest s)).epoch ≤ h.newest t =
      is.newest t (h.cuts (h.newest s)) upto (sent_later run s t (h.cuts (h.newest s)) order sent) in
      let at : (h.cuts (h.newest s)).epoch ≡ h.newest s = is.epochs (h.newest s) in
      omega arith)
      (let way : (h.newest s ≡ 0) ⊎ (1 ≤ h.newest s) = grind arith in way)

  pub at_later : (s t : ℕ) → s ≤ t → t ≤ stop → IsPart (log_at h s) (log_at h t)
  at_later s t order upto f inside =
      below_part h t (h.newest s) (h.newest t) (newest_rises s t order upto) f (log_later s t (h.newest s) order upto f inside)

pub log_grows : LogGrows
log_grows run h stop s t is order upto = at_later run h stop is s t order upto

-- What is emitted, one moment more.
use Rattle.std.proofs.Common.{◌≡◌, ℕ, suc, ◌<◌, ◌≤◌, ◌⊎◌, ⊎_elim, inl, inr, List, [], ◌∷◌, ◌++◌, sym, ◌∙◌, subst, ap, arith, append_assoc, append-nil}
use Rattle.std.specs.List.{Contains}
use Rattle.redo_core.specs.Data.{RecordData, CutData}
use Rattle.redo_core.specs.Sets.{IsPart}
use Rattle.redo_core.specs.Linked.{IsLinkedRecord}
use Rattle.redo_core.specs.declared.facts.Fact.{Fact}
use Rattle.redo_core.specs.declared.facts.Fact.TheVariants.{Record, Cut}
use Rattle.redo_core.proofs.Members.{none_in, here, only}
use Rattle.redo_core.proofs.FactParts.{record_in, cut_in}
use Rattle.volume_theorems.specs.Nodes.{VolumeNode, HasNothing}
use Rattle.volume_theorems.specs.Runs.{VolumeRun, MakesMove}
use Rattle.volume_theorems.specs.Runs.Move.{Accepts}
use Rattle.volume_theorems.specs.Opening.{IsCutSent}
use Rattle.volume_theorems.specs.Stopping.{FollowsUntil}
use Rattle.volume_theorems.specs.Contents.{IsContentOf}
use Rattle.std.proofs.lemmas.List.Elements.{Contains-append_left}
use Rattle.volume_theorems.proofs.Quorums.{meet_within}
use Rattle.volume_theorems.proofs.Proposing.{sent_later}
use Rattle.volume_logs.proofs.Epochs.{epoch_in, in_epoch}
use Rattle.volume_logs.specs.Histories.{History, log_at}
use Rattle.volume_logs.specs.Emitting.{IsWriter, IsContentIn, IsEmitted}
use Rattle.volume_logs.specs.Joining.{EmitsNext, EmittedOn, EmittedFirst}

-- a rule of each moment
each_moment : (t s : ℕ) (P : ℕ → Type 0) → s ≤ suc t → (s ≤ t → P s) → P (suc t) → P s
each_moment t s P upto before now = ⊎_elim before (λ (last : suc t ≡ s). subst P last now)
    (let way : (s ≤ t) ⊎ (suc t ≡ s) = grind arith in way)

grows_on : (run : VolumeRun) (h : History) (t s x k : ℕ) → IsEmitted run h t → EmitsNext run h t → s ≤ x → x ≤ suc t
    → (more : List Fact) × (h.written x k ≡ h.written s k ++ more)
grows_on run h t s x k is next order upto = ⊎_elim
    (λ (early : x ≤ t). is.grows s x k order early)
    (λ (last : suc t ≡ x). subst (λ (y : ℕ). (more : List Fact) × (h.written y k ≡ h.written s k ++ more)) last (⊎_elim
    (λ (before : s ≤ t).
    let first = is.grows s t k before (omega arith) in
    let then = next.grows k in
    (first.0 ++ then.0, then.1 ∙ ap (λ xs. xs ++ then.0) first.1 ∙ append_assoc (h.written s k) first.0 then.0))
    (λ (same : s ≡ suc t). ([], ap (λ (y : ℕ). h.written y k) (sym same) ∙ sym (append-nil (h.written s k))))
    (let way : (s ≤ t) ⊎ (s ≡ suc t) = grind arith in way)))
    (let way : (x ≤ t) ⊎ (suc t ≡ x) = grind arith in way)

newest_on : (run : VolumeRun) (h : History) (t : ℕ) → IsEmitted run h t → EmitsNext run h t → h.newest t ≤ h.newest (suc t)
newest_on run h t is next = ⊎_elim
    (λ (none : h.newest t ≡ 0). omega arith)
    (λ (some : 1 ≤ h.newest t).
    let cut : CutData = h.cuts (h.newest t) in
    let at : cut.epoch ≡ h.newest t = is.epochs (h.newest t) in
    let sent : IsCutSent run t cut = is.sent t (h.newest t) (omega arith) some (omega arith) in
    let within : cut.epoch ≤ h.newest (suc t) = next.newest cut (sent_later run t (suc t) cut (omega arith) sent) in
    omega arith)
    (let way : (h.newest t ≡ 0) ⊎ (1 ≤ h.newest t) = grind arith in way)

-- what was emitted before is still in the log
log_on : (run : VolumeRun) (h : History) (t : ℕ) → IsEmitted run h t → EmitsNext run h t → IsPart (log_at h t) (log_at h (suc t))
log_on run h t is next f inside =
    let x = epoch_in h t (h.newest t) f inside in
    let low : x.0 < h.newest t = x.1 in
    let rises : h.newest t ≤ h.newest (suc t) = newest_on run h t is next in
    in_epoch h (suc t) (h.newest (suc t)) x.0 f (omega arith) (⊎_elim inl
    (λ (fact : Contains (h.written t (suc x.0)) f).
    let more = next.grows (suc x.0) in
    inr (subst (λ xs. Contains xs f) (sym more.1) (Contains-append_left (h.written t (suc x.0)) more.0 f fact)))
    x.2)

pub emitted_on : EmittedOn
emitted_on run h t is next = record {
  roster = is.roster;
  epochs = is.epochs;
  shaped = next.shaped;
  sent = λ s k upto low within. each_moment t s (λ (x : ℕ). k ≤ h.newest x → IsCutSent run x (h.cuts k)) upto
      (λ early within. is.sent s k early low within) (λ within. next.sent k low within) within;
  newest = λ s c upto. each_moment t s (λ (x : ℕ). IsCutSent run x c → c.epoch ≤ h.newest x) upto
      (λ early sent. is.newest s c early sent) (λ sent. next.newest c sent);
  grows = λ s x k order upto. grows_on run h t s x k is next order upto;
  writers = λ s k f upto. each_moment t s (λ (x : ℕ). Contains (h.written x (suc k)) f → (e : ℕ) × IsWriter run h x k e) upto
      (λ early inside. is.writers s k f early inside) (λ inside. next.writers k f inside);
  held = λ s i upto. each_moment t s (λ (x : ℕ). IsContentIn (log_at h x) (run.nodes x i).content) upto
      (λ early. is.held s i early)
      (let x = next.held i in (x.0, λ f inside. log_on run h t is next f (x.1 f inside), x.2));
}

-- ---- the first moment
pub nothing_held : (n : VolumeNode) → HasNothing n → IsContentOf [] n.content
nothing_held n has = record {
  epoch = (
    inl has.epoch,
    λ m cuts_to. ⊎_elim
        (λ (none : m ≡ 0). omega arith)
        (λ (some : 1 ≤ m). let c = cuts_to 1 (omega arith) some in absurd (none_in (Cut c.0) ((cut_in [] c.0).0 c.1)))
        (let way : (m ≡ 0) ⊎ (1 ≤ m) = grind arith in way),
  );
  points = λ p. (
    λ inside. inl (sym (only 0 p (subst (λ xs. Contains xs p) has.points inside))),
    λ point. ⊎_elim
        (λ (none : p ≡ 0). subst (λ xs. Contains xs p) (sym has.points) (subst (λ (x : ℕ). Contains (0 ∷ []) x) (sym none) (here 0 [])))
        (λ (x : (r : RecordData) × IsLinkedRecord [] n.content.epoch r × (r.page ≡ 0) × (r.number ≡ p)).
        absurd (none_in (Record x.0) ((record_in [] x.0).0 x.1.among)))
        point,
  );
  cuts = λ c. (
    λ inside. absurd (none_in c (subst (λ xs. Contains xs c) has.cuts inside)),
    λ inside. absurd (none_in (Cut c) ((cut_in [] c).0 inside)),
  );
}

none_sent : (run : VolumeRun) (c : CutData) → FollowsUntil run 0 → IsCutSent run 0 c → ⊥
none_sent run c follows sent =
    let Votes : ℕ → Type 0 = λ i. (s : ℕ) × (s < 0) × MakesMove run s i (Accepts sent.0 c.epoch) in
    let met = meet_within run Votes Votes follows.overlap sent.2 sent.2 in
    let before : met.1.0 < 0 = met.1.1 in
    omega arith

pub emitted_first : EmittedFirst
emitted_first run h follows blank =
    let none : h.newest 0 ≡ 0 = blank.newest in
    record {
      roster = blank.roster;
      epochs = blank.epochs;
      shaped = λ k low within. absurd (omega arith);
      sent = λ t k upto low within.
          let zeroth : t ≡ 0 = omega arith in
          let at : h.newest t ≡ 0 = ap h.newest zeroth ∙ none in
          absurd (omega arith);
      newest = λ t c upto sent.
          let zeroth : t ≡ 0 = omega arith in
          absurd (none_sent run c follows (subst (λ (x : ℕ). IsCutSent run x c) zeroth sent));
      grows = λ s t k order upto.
          let zeroth : t ≡ 0 = omega arith in
          let same : s ≡ t = omega arith in
          ([], ap (λ (x : ℕ). h.written x k) (sym same) ∙ sym (append-nil (h.written s k)));
      writers = λ t k f upto inside.
          let zeroth : t ≡ 0 = omega arith in
          absurd (none_in f (subst (λ xs. Contains xs f) (ap (λ (x : ℕ). h.written x (suc k)) zeroth ∙ blank.written (suc k)) inside));
      held = λ t i upto.
          let zeroth : 0 ≡ t = omega arith in
          subst (λ (x : ℕ). IsContentIn (log_at h x) (run.nodes x i).content) zeroth
          ([], λ f inside. absurd (none_in f inside), nothing_held (run.nodes 0 i) (follows.begins i));
    }

-- The log of a volume is sound: by induction over the epochs, at all moments.
use Rattle.std.proofs.Common.{◌≡◌, ℕ, zero, suc, ◌<◌, ◌≤◌, ◌⊎◌, ⊎_elim, inl, inr, List, [], ◌∷◌, ◌++◌, length, refl, sym, ◌∙◌, subst, ap, arith, append_assoc, None}
use Rattle.std.specs.List.{Contains}
use Rattle.std.proofs.lemmas.List.Elements.{Contains-append_cases}
use Rattle.redo_core.specs.Data.{RecordData, CutData, AdvanceData}
use Rattle.redo_core.specs.Shape.{cut_fault}
use Rattle.redo_core.specs.Sets.{IsPart, records, cuts, advances}
use Rattle.redo_core.specs.Standing.{IsAlive}
use Rattle.redo_core.specs.Linked.{IsLinkedRecord}
use Rattle.redo_core.specs.Past.{ArePast}
use Rattle.redo_core.specs.Sound.{IsSound, HasShape}
use Rattle.redo_core.specs.declared.facts.Fact.{Fact}
use Rattle.redo_core.specs.declared.facts.Fact.TheVariants.{Record, Cut, Advance}
use Rattle.redo_core.proofs.Members.{none_in, here}
use Rattle.redo_core.proofs.FactParts.{record_in, cut_in, advance_in}
use Rattle.redo_core.proofs.CompleteEpochs.{has_cuts}
use Rattle.log_theorems.proofs.Log.{IsLog, log_of_sound}
use Rattle.redo_writer.specs.Continues.{Continues}
use Rattle.volume_theorems.specs.Nodes.{Content}
use Rattle.volume_theorems.specs.Runs.{VolumeRun}
use Rattle.volume_theorems.specs.Opening.{IsCutSent}
use Rattle.volume_theorems.specs.Stopping.{FollowsUntil}
use Rattle.volume_theorems.specs.Contents.{IsCommitPoint, IsContentOf}
use Rattle.volume_logs.proofs.Moments.{until_earlier}
use Rattle.volume_theorems.proofs.ByMoment.{lo_is_held, durable_lasts_by}
use Rattle.volume_logs.specs.Histories.{History, log_to, log_at}
use Rattle.volume_logs.specs.Writes.{Writes}
use Rattle.volume_logs.specs.Emitting.{LacksAdvances, IsWriter, IsEmitted}
use Rattle.volume_logs.specs.LogSound.{LogIsSound, EpochsAreSound}
use Rattle.volume_logs.proofs.SetLaws.{SetLaws, sound_from, sound_one, sound_keeps, IsAlike, record_alike}
use Rattle.volume_logs.proofs.Layers.{AllUpTo, AllOfEpoch, layered, in_log, in_cut, in_facts, layer_of, IsLayer, layer_sound}
use Rattle.volume_logs.proofs.Written.{writes_continue, writes_readers, writes_rise}
use Rattle.volume_logs.proofs.Epochs.{in_epoch, written_epoch, log_upto, record_at, record_epoch, advance_epoch, cut_at, written_grows, log_later, newest_rises}

-- ---- a sound log without some of its advances
lacks_past : (readers : ℕ) (base log : List Fact) (c : CutData) → LacksAdvances base log → ArePast readers (advances base) c → ArePast readers (advances log) c
lacks_past readers base log c lacks past reader is =
    let s = past reader is in (s.0, (advance_in log s.0).1 (lacks.inner (Advance s.0) ((advance_in base s.0).0 s.1)), s.2, s.3, s.4)

lacks_alike : (base log : List Fact) (view : ℕ) → LacksAdvances base log → IsAlike log base view
lacks_alike base log view lacks = record {
  cuts_up = λ c h. (cut_in base c).1 (lacks.cuts c ((cut_in log c).0 h));
  cuts_down = λ c h low. (cut_in log c).1 (lacks.inner (Cut c) ((cut_in base c).0 h));
  records_up = λ r h. (record_in base r).1 (lacks.records r ((record_in log r).0 h));
  records_down = λ r h alive. (record_in log r).1 (lacks.inner (Record r) ((record_in base r).0 h));
}

lacks_keeps : (readers : ℕ) (base log : List Fact) (f : Fact) → LacksAdvances base log → HasShape f × SetLaws readers log f → HasShape f × SetLaws readers base f
lacks_keeps readers base log (Record r) lacks had = (had.0, record_alike log base r (lacks_alike base log r.epoch lacks) had.1)
lacks_keeps readers base log (Cut c) lacks had = (had.0, tt)
lacks_keeps readers base log (Advance a) lacks had = (
  had.0,
  record {
    reader = had.1.reader;
    begun = λ e low upto. let c = had.1.begun e low upto in (c.0, (lacks_alike base log a.epoch lacks).cuts_up c.0 c.1, c.2);
    kept_by = λ c h later past.
        had.1.kept_by c ((cut_in log c).1 (lacks.inner (Cut c) ((cut_in base c).0 h))) later (lacks_past readers base log c lacks past);
  },
)

pub lacks_sound : (readers : ℕ) (base log : List Fact) → LacksAdvances base log → IsSound readers log → IsSound readers base
lacks_sound readers base log lacks sound = sound_from readers base sound.readers
    (λ f g one other key. sound_one readers log sound f g (lacks.inner f one) (lacks.inner g other) key)
    (λ f inside. lacks_keeps readers base log f lacks (sound_keeps readers log sound f (lacks.inner f inside)))

-- ---- the log of a run
module _ (run : VolumeRun) (h : History) (stop : ℕ) (follows : FollowsUntil run stop) (is : IsEmitted run h stop) where
  -- ---- what is written after an epoch was cut is above the cut
  -- a commit point that a node had in epoch j + 1 is below what is written there later
  point_below : (x s t k j point : ℕ) (part more : List Fact) (content : Content) (o : RecordData) → x ≤ s → s ≤ t → t ≤ stop → j < k
      → IsSound h.readers (log_to h t k) → IsPart part (log_at h x) → IsContentOf part content → content.epoch ≡ suc j
      → IsCommitPoint part content.epoch point → h.written t (suc j) ≡ h.written s (suc j) ++ more → Contains more (Record o)
      → Contains (log_to h t k) (Record o) → o.epoch ≡ suc j → point < o.number
  point_below x s t k j point part more content o first second upto low sound inner of at is_point split later inside own =
      let log : IsLog h.readers (log_to h t k) = log_of_sound h.readers (log_to h t k) sound in
      let o_in : Contains (records (log_to h t k)) o = (record_in (log_to h t k) o).1 inside in
      ⊎_elim
      (λ (none : point ≡ 0). let positive : 0 < o.number = (log.backs o o_in).0 in omega arith)
      (λ (of_record : (r : RecordData) × IsLinkedRecord part content.epoch r × (r.page ≡ 0) × (r.number ≡ point)).
      let r : RecordData = of_record.0 in
      let number : r.number ≡ point = of_record.3 in
      let known : r.epoch ≤ content.epoch = of_record.1.alive.known in
      let r_in : Contains (log_at h x) (Record r) = inner (Record r) ((record_in part r).0 of_record.1.among) in
      ⊎_elim
      (λ (same : r.epoch ≡ suc j).
      let here : Contains (h.written x (suc j)) (Record r) = record_at run h stop is x (h.newest x) j r (omega arith) r_in same in
      let since : Contains (h.written s (suc j)) (Record r) = written_grows run h stop is x s (suc j) first (omega arith) (Record r) here in
      let w = is.writers t j (Record o) upto (record_at run h stop is t k j o upto inside own) in
      let rises : r.number < o.number = writes_rise w.1.first w.1.last (h.written s (suc j)) more r o
      (subst (λ xs. Writes w.1.first xs w.1.last) split w.1.writes) since later in
      omega arith)
      (λ (lower : r.epoch < suc j).
      let c = has_cuts (cuts part) content.epoch of.epoch (suc j) (omega arith) (omega arith) in
      let its : c.0.epoch ≡ suc j = c.2 in
      let c_in : Contains (log_at h x) (Cut c.0) = inner (Cut c.0) ((cut_in part c.0).0 c.1) in
      let y = cut_at run h stop is x (h.newest x) c.0 (omega arith) c_in in
      let epoch : (h.cuts (suc y.0)).epoch ≡ suc y.0 = is.epochs (suc y.0) in
      let same_epoch : (h.cuts (suc y.0)).epoch ≡ c.0.epoch = ap (λ (d : CutData). d.epoch) y.2 in
      let same : y.0 ≡ j = omega arith in
      let cut : h.cuts (suc j) ≡ c.0 = subst (λ (z : ℕ). h.cuts (suc z) ≡ c.0) same y.2 in
      let c_now : Contains (cuts (log_to h t k)) c.0 = (cut_in (log_to h t k) c.0).1 (in_epoch h t k j (Cut c.0) low (inl (ap Cut cut))) in
      let spared : r.number ≤ c.0.lo = of_record.1.alive.spared c.0 c.1 (omega arith) (omega arith) in
      let order : c.0.lo ≤ c.0.hi = (log.cut_order c.0 c_now).1 in
      let above : c.0.hi < o.number = log.begun o c.0 o_in c_now (its ∙ sym own) in
      omega arith)
      (let way : (r.epoch ≡ suc j) ⊎ (r.epoch < suc j) = grind arith in way))
      is_point

  written_above : (s t k j : ℕ) (more : List Fact) (o : RecordData) → s ≤ t → t ≤ stop → j < k → suc k ≤ h.newest s
      → IsSound h.readers (log_to h t k) → h.written t (suc j) ≡ h.written s (suc j) ++ more → Contains more (Record o)
      → Contains (log_to h t k) (Record o) → o.epoch ≡ suc j → (h.cuts (suc (suc j))).lo < o.number
  written_above s t k j more o order upto low newest sound split later inside own =
      let cut : CutData = h.cuts (suc (suc j)) in
      let sent : IsCutSent run s cut = is.sent s (suc (suc j)) (omega arith) (omega arith) (omega arith) in
      let held = lo_is_held run s cut (until_earlier run s stop (omega arith) follows) sent in
      let before : held.0 < s = held.2 in
      let at : cut.epoch ≡ suc (run.nodes held.0 held.1).content.epoch = held.3 in
      let epoch : cut.epoch ≡ suc (suc j) = is.epochs (suc (suc j)) in
      let has = is.held held.0 held.1 (omega arith) in
      point_below held.0 s t k j cut.lo has.0 more (run.nodes held.0 held.1).content o (omega arith) order upto low sound has.1 has.2 (omega arith)
      ((has.2.points cut.lo).0 held.4) split later inside own

  -- ---- an epoch above the others
  spares_all : (t k : ℕ) → t ≤ stop → suc k ≤ h.newest t → (a : AdvanceData) → Contains (log_to h t k) (Advance a) → a.point ≤ (h.cuts (suc k)).lo
  spares_all t k upto newest a inside =
      let x = advance_epoch run h stop is t k a upto inside in
      let low : x.0 < k = x.1 in
      let w = is.writers t x.0 (Advance a) upto x.2 in
      let d = w.1.durable a x.2 in
      let point : a.point ≤ d.0 = d.1 in
      let epoch : (h.cuts (suc k)).epoch ≡ suc k = is.epochs (suc k) in
      let lasts : d.0 ≤ (h.cuts (suc k)).lo = durable_lasts_by run t w.0 (suc x.0) d.0 (h.cuts (suc k)) (until_earlier run t stop upto follows) d.2
      (is.sent t (suc k) upto (omega arith) newest) (omega arith) in
      omega arith

  shaped : (t k : ℕ) → t ≤ stop → suc k ≤ h.newest t → cut_fault (h.cuts (suc k)) ≡ None
  shaped t k upto newest =
      let rises : h.newest t ≤ h.newest stop = newest_rises run h stop is t stop upto (omega arith) in
      is.shaped (suc k) (omega arith) (omega arith)

  nothing_written : (k : ℕ) → AllOfEpoch [] k
  nothing_written k f inside = absurd (none_in f inside)

  bare_layer : (t k : ℕ) (base : List Fact) → t ≤ stop → suc k ≤ h.newest t → IsPart base (log_to h t k) → IsSound h.readers base
      → IsLayer h.readers base (h.cuts (suc k)) [] k
  bare_layer t k base upto newest inner sound = record {
    sound = sound;
    upto = λ f inside. log_upto run h stop is t k upto f (inner f inside);
    epoch = is.epochs (suc k);
    shape = shaped t k upto newest;
    spares = λ a inside. spares_all t k upto newest a (inner (Advance a) inside);
    of_epoch = nothing_written (suc k);
    one = λ f g inside other key. absurd (none_in f inside);
    keeps = λ f inside. absurd (none_in f inside);
  }

  -- the log that the writer goes on from, with all that it has written
  module _ (t k e : ℕ) (w : IsWriter run h t k e) (upto : t ≤ stop) (low : IsSound h.readers (log_to h t k))
      (start_low : IsSound h.readers (log_to h w.start k)) where
    abbrev Facts : List Fact
    Facts = h.written t (suc k)

    abbrev Own : List Fact
    Own = layered w.base (h.cuts (suc k)) Facts

    abbrev All : List Fact
    All = layered (log_to h t k) (h.cuts (suc k)) Facts

    start_upto : w.start ≤ stop
    start_upto = let before : w.start ≤ t = w.before in omega arith

    own_sound : IsSound h.readers Own
    own_sound =
        let base : IsSound h.readers w.base = lacks_sound h.readers w.base (log_to h w.start k) w.lacks start_low in
        let bare : IsSound h.readers (w.base ++ Cut (h.cuts (suc k)) ∷ []) =
        layer_sound h.readers w.base (h.cuts (suc k)) [] k (bare_layer w.start k w.base start_upto w.begun w.lacks.inner base) in
        let last : Continues w.last ((w.base ++ Cut (h.cuts (suc k)) ∷ []) ++ Facts) =
        writes_continue w.first w.last Facts (w.base ++ Cut (h.cuts (suc k)) ∷ []) w.writes (w.goes_on.continues bare) in
        let readers : length w.last.points ≡ h.readers = writes_readers w.first w.last Facts w.writes ∙ w.goes_on.readers_is in
        subst (λ (n : ℕ). IsSound n Own) readers
        (subst (λ xs. IsSound (length w.last.points) xs) (append_assoc w.base (Cut (h.cuts (suc k)) ∷ []) Facts) last.sound)

    base_inside : (f : Fact) → Contains w.base f → Contains (log_to h t k) f
    base_inside f inside = log_later run h stop is w.start t k w.before upto f (w.lacks.inner f inside)

    own_inside : (f : Fact) → Contains Own f → Contains All f
    own_inside f inside = ⊎_elim
        (λ (base : Contains w.base f). in_log (log_to h t k) (h.cuts (suc k)) Facts f (base_inside f base))
        (λ rest. ⊎_elim
        (λ (cut : Cut (h.cuts (suc k)) ≡ f). subst (λ x. Contains All x) cut (in_cut (log_to h t k) (h.cuts (suc k)) Facts))
        (λ (fact : Contains Facts f). in_facts (log_to h t k) (h.cuts (suc k)) Facts f fact)
        rest)
        (layer_of w.base (h.cuts (suc k)) Facts f inside)

    cut_inside : (c : CutData) → Contains All (Cut c) → Contains Own (Cut c)
    cut_inside c inside = ⊎_elim
        (λ (below : Contains (log_to h t k) (Cut c)).
        let x = cut_at run h stop is t k c upto below in
        in_log w.base (h.cuts (suc k)) Facts (Cut c) (w.lacks.cuts c (in_epoch h w.start k x.0 (Cut c) x.1 (inl (ap Cut x.2)))))
        (λ rest. ⊎_elim
        (λ (cut : Cut (h.cuts (suc k)) ≡ Cut c). subst (λ x. Contains Own x) cut (in_cut w.base (h.cuts (suc k)) Facts))
        (λ (fact : Contains Facts (Cut c)). in_facts w.base (h.cuts (suc k)) Facts (Cut c) fact)
        rest)
        (layer_of (log_to h t k) (h.cuts (suc k)) Facts (Cut c) inside)

    -- what an engine of an earlier epoch has written since then is dead
    dead_since : (o : RecordData) (j : ℕ) (more : List Fact) → j < k → h.written t (suc j) ≡ h.written w.start (suc j) ++ more → Contains more (Record o)
        → Contains (log_to h t k) (Record o) → o.epoch ≡ suc j → ¬ (IsAlive (cuts All) (suc k) o.epoch o.number)
    dead_since o j more before split later inside own alive =
        let above : (h.cuts (suc (suc j))).lo < o.number =
        written_above w.start t k j more o w.before upto before w.begun low split later inside own in
        let epoch : (h.cuts (suc (suc j))).epoch ≡ suc (suc j) = is.epochs (suc (suc j)) in
        let cut_in_all : Contains (log_to h t (suc k)) (Cut (h.cuts (suc (suc j)))) =
        in_epoch h t (suc k) (suc j) (Cut (h.cuts (suc (suc j)))) (omega arith) (inl refl) in
        let spared : o.number ≤ (h.cuts (suc (suc j))).lo =
        alive.spared (h.cuts (suc (suc j))) ((cut_in All (h.cuts (suc (suc j)))).1 cut_in_all) (omega arith) (omega arith) in
        omega arith

    old_record : (o : RecordData) → Contains (log_to h t k) (Record o) → IsAlive (cuts All) (suc k) o.epoch o.number → Contains Own (Record o)
    old_record o inside alive =
        let x = record_epoch run h stop is t k o upto inside in
        let more = is.grows w.start t (suc x.0) w.before upto in
        ⊎_elim
        (λ (early : Contains (h.written w.start (suc x.0)) (Record o)).
        in_log w.base (h.cuts (suc k)) Facts (Record o) (w.lacks.records o (in_epoch h w.start k x.0 (Record o) x.1 (inr early))))
        (λ (later : Contains more.0 (Record o)). absurd (dead_since o x.0 more.0 x.1 more.1 later inside x.2 alive))
        (Contains-append_cases (h.written w.start (suc x.0)) more.0 (Record o) (subst (λ xs. Contains xs (Record o)) more.1 x.3))

    record_inside : (o : RecordData) → Contains All (Record o) → IsAlive (cuts All) (suc k) o.epoch o.number → Contains Own (Record o)
    record_inside o inside alive = ⊎_elim
        (λ (below : Contains (log_to h t k) (Record o)). old_record o below alive)
        (λ rest. ⊎_elim
        (λ (cut : Cut (h.cuts (suc k)) ≡ Record o). absurd (cc))
        (λ (fact : Contains Facts (Record o)). in_facts w.base (h.cuts (suc k)) Facts (Record o) fact)
        rest)
        (layer_of (log_to h t k) (h.cuts (suc k)) Facts (Record o) inside)

    own_alike : IsAlike Own All (suc k)
    own_alike = record {
      cuts_up = λ c inside. (cut_in All c).1 (own_inside (Cut c) ((cut_in Own c).0 inside));
      cuts_down = λ c inside within. (cut_in Own c).1 (cut_inside c ((cut_in All c).0 inside));
      records_up = λ r inside. (record_in All r).1 (own_inside (Record r) ((record_in Own r).0 inside));
      records_down = λ r inside alive. (record_in Own r).1 (record_inside r ((record_in All r).0 inside) alive);
    }

    all_upto : AllUpTo (log_to h t (suc k)) (suc k)
    all_upto = log_upto run h stop is t (suc k) upto

    laws_above : (f : Fact) → Contains Facts f → HasShape f × SetLaws h.readers Own f → HasShape f × SetLaws h.readers All f
    laws_above (Record r) inside had =
        let own : r.epoch ≡ suc k = written_epoch run h stop is t k upto (Record r) inside in
        (had.0, record_alike Own All r (subst (λ (x : ℕ). IsAlike Own All x) (sym own) own_alike) had.1)
    laws_above (Cut c) inside had = (had.0, tt)
    laws_above (Advance a) inside had =
        let own : a.epoch ≡ suc k = written_epoch run h stop is t k upto (Advance a) inside in (
          had.0,
          record {
            reader = had.1.reader;
            begun = λ e low upto. let c = had.1.begun e low upto in (c.0, own_alike.cuts_up c.0 c.1, c.2);
            kept_by = λ c h' later past. let within : c.epoch ≤ suc k = all_upto (Cut c) ((cut_in All c).0 h') in absurd (omega arith);
          },
        )

    full_layer : IsLayer h.readers (log_to h t k) (h.cuts (suc k)) Facts k
    full_layer =
        let newest : suc k ≤ h.newest t =
        (let begun : suc k ≤ h.newest w.start = w.begun in
        let rises : h.newest w.start ≤ h.newest t = newest_rises run h stop is w.start t w.before upto in omega arith) in
        let bare = bare_layer t k (log_to h t k) upto newest (λ f inside. inside) low in
        record {
          sound = bare.sound;
          upto = bare.upto;
          epoch = bare.epoch;
          shape = bare.shape;
          spares = bare.spares;
          of_epoch = written_epoch run h stop is t k upto;
          one = λ f g inside other key. sound_one h.readers Own own_sound f g
              (in_facts w.base (h.cuts (suc k)) Facts f inside) (in_facts w.base (h.cuts (suc k)) Facts g other) key;
          keeps = λ f inside. laws_above f inside
              (sound_keeps h.readers Own own_sound f (in_facts w.base (h.cuts (suc k)) Facts f inside));
        }

  -- ---- all epochs
  abbrev SoundTo : ℕ → Type 0
  SoundTo k = (t : ℕ) → t ≤ stop → k ≤ h.newest t → IsSound h.readers (log_to h t k)

  add_epoch : (k t : ℕ) (facts : List Fact) → SoundTo k → t ≤ stop → suc k ≤ h.newest t → h.written t (suc k) ≡ facts
      → IsSound h.readers (layered (log_to h t k) (h.cuts (suc k)) facts)
  add_epoch k t [] below upto newest are =
      layer_sound h.readers (log_to h t k) (h.cuts (suc k)) [] k
      (bare_layer t k (log_to h t k) upto newest (λ f inside. inside) (below t upto (omega arith)))
  add_epoch k t (f ∷ facts) below upto newest are =
      let w = is.writers t k f upto (subst (λ xs. Contains xs f) (sym are) (here f facts)) in
      let before : w.1.start ≤ t = w.1.before in
      let begun : suc k ≤ h.newest w.1.start = w.1.begun in
      let layer = full_layer t k w.0 w.1 upto (below t upto (omega arith)) (below w.1.start (omega arith) (omega arith)) in
      subst (λ xs. IsSound h.readers (layered (log_to h t k) (h.cuts (suc k)) xs)) are
      (layer_sound h.readers (log_to h t k) (h.cuts (suc k)) (h.written t (suc k)) k layer)

  pub sound_to : (k : ℕ) → SoundTo k
  sound_to zero t upto newest = sound_from h.readers [] is.roster (λ f g inside other key. absurd (none_in f inside)) (λ f inside. absurd (none_in f inside))
  sound_to (suc k) t upto newest = add_epoch k t (h.written t (suc k)) (sound_to k) upto newest refl

pub epochs_are_sound : EpochsAreSound
epochs_are_sound run h stop t k follows is upto within = sound_to run h stop follows is k t upto within

pub log_is_sound : LogIsSound
log_is_sound run h stop t follows is upto = sound_to run h stop follows is (h.newest t) t upto (omega arith)

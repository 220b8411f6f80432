-- The sample keeps the rules about what is emitted.
use Rattle.std.proofs.lemmas.Bool.Decides.{nat_tests}
use Rattle.std.proofs.Common.{◌≡◌, ◌≢◌, ℕ, zero, suc, ◌+◌, ◌<◌, ◌≤◌, ◌⊎◌, ⊎_elim, inl, inr, List, [], ◌∷◌, ◌++◌, None, refl, sym, ◌∙◌, subst, ap, arith}
use Rattle.std.specs.Prelude.{nat_lt, if◌then◌else◌, slice_index}
use Rattle.std.specs.List.{Contains}
use Rattle.redo_core.specs.Data.{RecordData, CutData, AdvanceData, cut_of}
use Rattle.redo_core.specs.Shape.{cut_fault}
use Rattle.redo_core.specs.Sets.{IsPart, records, cuts, advances}
use Rattle.redo_core.specs.Roster.{IsReader, point_of}
use Rattle.redo_core.specs.CompleteEpoch.{IsCompleteEpoch}
use Rattle.redo_core.specs.Standing.{IsAlive}
use Rattle.redo_core.specs.Linked.{IsLinked, IsLinkedRecord}
use Rattle.redo_core.specs.Linked.Linked.{start, next}
use Rattle.redo_core.specs.Sound.{IsSound}
use Rattle.redo_core.specs.declared.facts.Fact.{Fact}
use Rattle.redo_core.specs.declared.facts.Fact.TheVariants.{Record, Cut, Advance}
use Rattle.redo_core.proofs.Members.{none_in, here, there, which, only}
use Rattle.redo_core.proofs.FactParts.{record_in, cut_in, advance_in}
use Rattle.redo_writer.specs.declared.parts.AliveRecord.{AliveRecord}
use Rattle.redo_writer.specs.State.{WriterState, state_with}
use Rattle.redo_writer.specs.Continues.{Continues}
use Rattle.redo_writer.proofs.Tracking.{nothing_tracked}
use Rattle.redo_writer.proofs.Continuing.{continues_advance}
use Rattle.volume_theorems.specs.Runs.{MakesMove, Many}
use Rattle.volume_theorems.specs.Runs.Move.{Accepts}
use Rattle.volume_theorems.specs.Opening.{CountsUnder, IsCutSent}
use Rattle.volume_theorems.specs.ByMoment.{HasOpenedBy, IsReportedBy, IsDurableBy}
use Rattle.volume_theorems.specs.Contents.{IsContentOf}
use Rattle.volume_theorems.specs.Sample.{sample_cut, nothing, content_of, sample_moves, sample_nodes, sample_run}
use Rattle.volume_theorems.proofs.Quorums.{meet_within}
use Rattle.volume_theorems.proofs.Guards.{answers_count}
use Rattle.volume_theorems.proofs.Stopping.{lt_true, lt_false, follows_each}
use Rattle.volume_theorems.proofs.Sample.{some_run, of_all, answers}
use Rattle.volume_logs.specs.Histories.{log_to, log_at}
use Rattle.volume_logs.specs.Writes.{GivesFact, Writes}
use Rattle.redo_writer.specs.Layout.{commit_patch}
use Rattle.volume_logs.specs.PageLayout.{LeavesNumber, generation_of, IsCommitRecord}
use Rattle.volume_logs.specs.Emitting.{IsWriter, IsContentIn, IsEmitted}
use Rattle.volume_logs.specs.Sample.{sample_record, sample_advance, sample_facts, sample_written, sample_history, SomeHistory}
use Rattle.redo_core.specs.Position.{Position, IsPosition}
use Rattle.redo_core.specs.PageAt.{IsPageAt}
use Rattle.redo_core.specs.Writing.{zeros, after_records}
use Rattle.volume_logs.specs.Readers.{IsCounted}
use Rattle.volume_logs.proofs.PageLayout.{Says, commit_says, zeros_long}
use Rattle.volume_logs.proofs.Resuming.{linked_record}
use Rattle.volume_logs.proofs.Gives.{gives_record}

-- ---- moments
facts_none : (t : ℕ) → t < 6 → sample_facts t ≡ []
facts_none t before =
    ap (λ b. if b then [] else if nat_lt t 8 then Record sample_record ∷ [] else Record sample_record ∷ Advance sample_advance ∷ []) (lt_true t 6 before)

facts_one : (t : ℕ) → 6 ≤ t → t < 8 → sample_facts t ≡ Record sample_record ∷ []
facts_one t after before =
    ap (λ b. if b then [] else if nat_lt t 8 then Record sample_record ∷ [] else Record sample_record ∷ Advance sample_advance ∷ []) (lt_false t 6 after)
    ∙ ap (λ b. if b then Record sample_record ∷ [] else Record sample_record ∷ Advance sample_advance ∷ []) (lt_true t 8 before)

facts_two : (t : ℕ) → 8 ≤ t → sample_facts t ≡ Record sample_record ∷ Advance sample_advance ∷ []
facts_two t after =
    ap (λ b. if b then [] else if nat_lt t 8 then Record sample_record ∷ [] else Record sample_record ∷ Advance sample_advance ∷ []) (lt_false t 6 (omega arith))
    ∙ ap (λ b. if b then Record sample_record ∷ [] else Record sample_record ∷ Advance sample_advance ∷ []) (lt_false t 8 after)

newest_none : (t : ℕ) → t < 5 → sample_history.newest t ≡ 0
newest_none t before = ap (λ b. if b then 0 else 1) (lt_true t 5 before)

newest_one : (t : ℕ) → 5 ≤ t → sample_history.newest t ≡ 1
newest_one t after = ap (λ b. if b then 0 else 1) (lt_false t 5 after)

-- ---- the truncation
accepted : (t : ℕ) → 4 < t → Many sample_run (λ i. (s : ℕ) × (s < t) × MakesMove sample_run s i (Accepts 0 1))
accepted t after = of_all (λ (i : ℕ). (s : ℕ) × (s < t) × MakesMove sample_run s i (Accepts 0 1)) (4, after, (refl, refl))

opened : (t : ℕ) → 4 < t → HasOpenedBy sample_run t 0 1
opened t after = record { own = refl; accepted = accepted t after }

-- the one vote of the run
votes_once : (s e k : ℕ) → sample_moves s ≡ Accepts e k → (s ≡ 4) × (k ≡ 1)
votes_once zero e k says = absurd (cc)
votes_once (suc zero) e k says = absurd (cc)
votes_once (suc (suc zero)) e k says = absurd (cc)
votes_once (suc (suc (suc zero))) e k says = absurd (cc)
votes_once (suc (suc (suc (suc zero)))) e k says = (refl, cc)
votes_once (suc (suc (suc (suc (suc zero))))) e k says = absurd (cc)
votes_once (suc (suc (suc (suc (suc (suc zero)))))) e k says = absurd (cc)
votes_once (suc (suc (suc (suc (suc (suc (suc s))))))) e k says = absurd (cc)

overlap : sample_run.roster < sample_run.quorum + sample_run.quorum
overlap = omega arith

sent_once : (t : ℕ) (c : CutData) → IsCutSent sample_run t c → (4 < t) × (c.epoch ≡ 1)
sent_once t c sent =
    let Votes : ℕ → Type 0 = λ i. (s : ℕ) × (s < t) × MakesMove sample_run s i (Accepts sent.0 c.epoch) in
    let met = meet_within sample_run Votes Votes overlap sent.2 sent.2 in
    let once = votes_once met.1.0 sent.0 c.epoch met.1.2.1 in
    let at : met.1.0 ≡ 4 = once.0 in
    let before : met.1.0 < t = met.1.1 in
    (omega arith, once.1)

newest_rule : (t : ℕ) (c : CutData) → IsCutSent sample_run t c → c.epoch ≤ sample_history.newest t
newest_rule t c sent =
    let once = sent_once t c sent in
    let at : c.epoch ≡ 1 = once.1 in
    let is : sample_history.newest t ≡ 1 = newest_one t once.0 in
    omega arith

sent_rule : (t k : ℕ) → 1 ≤ k → k ≤ sample_history.newest t → IsCutSent sample_run t (sample_history.cuts k)
sent_rule t k low within = ⊎_elim
    (λ (before : t < 5). let none : sample_history.newest t ≡ 0 = newest_none t before in absurd (omega arith))
    (λ (after : 5 ≤ t).
    let is : sample_history.newest t ≡ 1 = newest_one t after in
    let one : 1 ≡ k = omega arith in
    subst (λ (n : ℕ). IsCutSent sample_run t (sample_history.cuts n)) one (0, refl, accepted t after))
    (let way : (t < 5) ⊎ (5 ≤ t) = grind arith in way)

-- ---- what is written
three : (t : ℕ) → (t < 6) ⊎ (((6 ≤ t) × (t < 8)) ⊎ (8 ≤ t))
three t = grind arith

grows_to : (s t : ℕ) → s ≤ t → (more : List Fact) × (sample_facts t ≡ sample_facts s ++ more)
grows_to s t order = ⊎_elim
    (λ (none : s < 6). (sample_facts t, ap (λ xs. xs ++ sample_facts t) (sym (facts_none s none))))
    (λ rest. ⊎_elim
    (λ (one : (6 ≤ s) × (s < 8)). ⊎_elim
    (λ (before : t < 8). ([], facts_one t (omega (arith, one.0)) before ∙ ap (λ xs. xs ++ []) (sym (facts_one s one.0 one.1))))
    (λ (after : 8 ≤ t). (Advance sample_advance ∷ [], facts_two t after ∙ ap (λ xs. xs ++ Advance sample_advance ∷ []) (sym (facts_one s one.0 one.1))))
    (let way : (t < 8) ⊎ (8 ≤ t) = grind arith in way))
    (λ (two : 8 ≤ s). ([], facts_two t (omega arith) ∙ ap (λ xs. xs ++ []) (sym (facts_two s two))))
    rest)
    (three s)

grows_rule : (s t k : ℕ) → s ≤ t → (more : List Fact) × (sample_written t k ≡ sample_written s k ++ more)
grows_rule s t zero order = ([], refl)
grows_rule s t (suc zero) order = grows_to s t order
grows_rule s t (suc (suc k)) order = ([], refl)

-- ---- the writer
abbrev pub first : WriterState
first = state_with 1 6 (0 ∷ []) [] 0 []

abbrev pub entry : AliveRecord
entry = record { number = 7; page = 0; block_back = 0 }

abbrev pub second : WriterState
second = state_with 1 7 (0 ∷ []) (7 ∷ []) 0 (entry ∷ [])

abbrev third : WriterState
third = state_with 1 7 (7 ∷ []) (7 ∷ []) 0 (entry ∷ [])

abbrev pub alone : List Fact
alone = Cut sample_cut ∷ []

cut_alone : (c : CutData) → Contains (cuts alone) c → sample_cut ≡ c
cut_alone c inside = let same : Cut sample_cut ≡ Cut c = only (Cut sample_cut) (Cut c) ((cut_in alone c).0 inside) in cc

pub in_alone : Contains (cuts alone) sample_cut
in_alone = (cut_in alone sample_cut).1 (here (Cut sample_cut) [])

no_record : (r : RecordData) → Contains (records alone) r → ⊥
no_record r inside = let same : Cut sample_cut ≡ Record r = only (Cut sample_cut) (Record r) ((record_in alone r).0 inside) in cc

no_advance : (a : AdvanceData) → Contains (advances alone) a → ⊥
no_advance a inside = let same : Cut sample_cut ≡ Advance a = only (Cut sample_cut) (Advance a) ((advance_in alone a).0 inside) in cc

complete_one : (facts : List Fact) → Contains (cuts facts) sample_cut → ((c : CutData) → Contains (cuts facts) c → sample_cut ≡ c) → IsCompleteEpoch (cuts facts) 1
complete_one facts inside all = (
  inr (λ e low upto. (sample_cut, inside, omega arith)),
  λ m has. ⊎_elim
      (λ (upto : m ≤ 1). upto)
      (λ (above : 2 ≤ m).
      let c = has 2 (omega arith) above in
      let at : c.0.epoch ≡ 2 = c.2 in
      let same : sample_cut.epoch ≡ c.0.epoch = ap (λ (d : CutData). d.epoch) (all c.0 c.1) in
      absurd (omega arith))
      (let way : (m ≤ 1) ⊎ (2 ≤ m) = grind arith in way),
)

point_zero : (reader : ℕ) → IsReader 1 reader → point_of (0 ∷ []) reader ≡ 0
point_zero reader is = let one : reader ≡ 1 = omega (arith, is.0, is.1) in ap (λ (n : ℕ). point_of (0 ∷ []) n) one

pub first_continues : IsSound 1 alone → Continues first alone
first_continues sound = record {
  sound = sound;
  epoch = complete_one alone in_alone cut_alone;
  newest = λ c inside. let same : sample_cut.epoch ≡ c.epoch = ap (λ (d : CutData). d.epoch) (cut_alone c inside) in omega arith;
  last = record {
    numbers = λ r inside at. absurd (no_record r inside);
    base = λ c inside at. let same : sample_cut.hi ≡ c.hi = ap (λ (d : CutData). d.hi) (cut_alone c inside) in omega arith;
    least = inr (inl (sample_cut, in_alone, refl, refl));
  };
  points = record {
    count = refl;
    each = λ reader is. (inl (point_zero reader is), λ m had. absurd (no_advance had.0 had.1));
  };
  past = omega arith;
  alive = nothing_tracked _ (λ r is. no_record r is.among);
}

pub gives_first : GivesFact first (Record sample_record) second
gives_first = gives_record first sample_record entry (7 ∷ []) refl refl (omega arith) refl refl
    (record { number = refl; page = refl; block_back = refl })
    (record { here = refl; others = λ other apart. others_zero other apart })
  where
    others_zero : (other : ℕ) → other ≢ 0 → slice_index (7 ∷ []) other ≡ slice_index [] other
    others_zero zero apart = absurd (apart refl)
    others_zero (suc other) apart = refl

gives_second : GivesFact second (Advance sample_advance) third
gives_second = record {
  continues = λ log had. continues_advance second log sample_advance (7 ∷ []) had refl refl (omega arith, omega arith) refl
      (refl, λ reader is apart. absurd (apart (omega (arith, is.0, is.1))));
  readers = refl;
  epoch = refl;
  next = (refl, refl);
}

writes_one : Writes first (Record sample_record ∷ []) second
writes_one = (second, gives_first, refl)

writes_two : Writes first (Record sample_record ∷ Advance sample_advance ∷ []) third
writes_two = (second, gives_first, (third, gives_second, refl))

writes_now : (t : ℕ) → 6 ≤ t → (last : WriterState) × Writes first (sample_facts t) last
writes_now t after = ⊎_elim
    (λ (before : t < 8). (second, subst (λ xs. Writes first xs second) (sym (facts_one t after before)) writes_one))
    (λ (later : 8 ≤ t). (third, subst (λ xs. Writes first xs third) (sym (facts_two t later)) writes_two))
    (let way : (t < 8) ⊎ (8 ≤ t) = grind arith in way)

-- ---- durable
reported : (t : ℕ) → 8 ≤ t → IsReportedBy sample_run t 0 1 7
reported t after = of_all
    (λ (i : ℕ). (s : ℕ) × (s ≤ t) × CountsUnder sample_run 0 s i × ((sample_nodes s i).content.epoch ≡ 1) × Contains (sample_nodes s i).content.points 7)
    (7, omega arith, answers_count sample_run 0 7 0 (answers 7 (omega arith) (refl, refl)), refl, there 0 (7 ∷ []) 7 (here 7 []))

durable : (t : ℕ) → 8 ≤ t → IsDurableBy sample_run t 0 1 7
durable t after = (opened t (omega arith), inr (reported t after))

advance_durable : (t : ℕ) (a : AdvanceData) → Contains (sample_facts t) (Advance a) → (p : ℕ) × (a.point ≤ p) × IsDurableBy sample_run t 0 1 p
advance_durable t a inside = ⊎_elim
    (λ (none : t < 6). absurd (none_in (Advance a) (subst (λ xs. Contains xs (Advance a)) (facts_none t none) inside)))
    (λ rest. ⊎_elim
    (λ (one : (6 ≤ t) × (t < 8)).
    let same : Record sample_record ≡ Advance a =
    only (Record sample_record) (Advance a) (subst (λ xs. Contains xs (Advance a)) (facts_one t one.0 one.1) inside) in
    absurd (cc))
    (λ (two : 8 ≤ t). ⊎_elim
    (λ (e : Record sample_record ≡ Advance a). absurd (cc))
    (λ (last : Contains (Advance sample_advance ∷ []) (Advance a)).
    let same : Advance sample_advance ≡ Advance a = only (Advance sample_advance) (Advance a) last in
    let itself : sample_advance ≡ a = cc in
    let point : sample_advance.point ≡ a.point = ap (λ (b : AdvanceData). b.point) itself in
    (7, omega arith, durable t two))
    (which (Record sample_record) (Advance sample_advance ∷ []) (Advance a) (subst (λ xs. Contains xs (Advance a)) (facts_two t two) inside)))
    rest)
    (three t)

written_only : (t : ℕ) (r : RecordData) → Contains (sample_facts t) (Record r) → sample_record ≡ r
written_only t r inside = ⊎_elim
    (λ (none : t < 6). absurd (none_in (Record r) (subst (λ xs. Contains xs (Record r)) (facts_none t none) inside)))
    (λ rest. ⊎_elim
    (λ (one : (6 ≤ t) × (t < 8)).
    let same : Record sample_record ≡ Record r =
    only (Record sample_record) (Record r) (subst (λ xs. Contains xs (Record r)) (facts_one t one.0 one.1) inside) in
    cc)
    (λ (two : 8 ≤ t). ⊎_elim
    (λ (same : Record sample_record ≡ Record r). let itself : sample_record ≡ r = cc in itself)
    (λ (last : Contains (Advance sample_advance ∷ []) (Record r)).
    let other : Advance sample_advance ≡ Record r = only (Advance sample_advance) (Record r) last in absurd (cc))
    (which (Record sample_record) (Advance sample_advance ∷ []) (Record r) (subst (λ xs. Contains xs (Record r)) (facts_two t two) inside)))
    rest)
    (three t)

writer : (t : ℕ) → 6 ≤ t → IsWriter sample_run sample_history t 0 0
writer t after =
    let now = writes_now t after in
    record {
      opened = opened t (omega arith);
      start = 5;
      before = omega arith;
      begun = omega arith;
      base = [];
      lacks = record { inner = λ f inside. inside; records = λ r inside. inside; cuts = λ c inside. inside };
      first = first;
      goes_on = record { readers_is = refl; continues = first_continues };
      epoch = refl;
      last = now.0;
      writes = now.1;
      durable = advance_durable t;
      leaves = λ r inside. subst (λ x. LeavesNumber x) (written_only t r inside) (commit_patch 2 1 [] ∷ [], refl);
      commits = λ r inside page. subst (λ x. IsCommitRecord 2 x) (written_only t r inside)
          (record { epoch_fits = omega arith; generation_fits = omega arith; header = []; patches = refl });
    }

writers_rule : (t k : ℕ) (f : Fact) → Contains (sample_written t (suc k)) f → (e : ℕ) × IsWriter sample_run sample_history t k e
writers_rule t zero f inside = ⊎_elim
    (λ (none : t < 6). absurd (none_in f (subst (λ xs. Contains xs f) (facts_none t none) inside)))
    (λ (after : 6 ≤ t). (0, writer t after))
    (let way : (t < 6) ⊎ (6 ≤ t) = grind arith in way)
writers_rule t (suc k) f inside = absurd (none_in f inside)

-- ---- the node
pub content_nothing : IsContentOf [] nothing
content_nothing = record {
  epoch = (
    inl refl,
    λ m has. ⊎_elim
        (λ (none : m ≡ 0). omega arith)
        (λ (some : 1 ≤ m). let c = has 1 (omega arith) some in absurd (none_in (Cut c.0) ((cut_in [] c.0).0 c.1)))
        (let way : (m ≡ 0) ⊎ (1 ≤ m) = grind arith in way),
  );
  points = λ p. (
    λ inside. inl (sym (only 0 p inside)),
    λ point. ⊎_elim
        (λ (none : p ≡ 0). subst (λ (n : ℕ). Contains (0 ∷ []) n) (sym none) (here 0 []))
        (λ (x : (r : RecordData) × IsLinkedRecord [] 0 r × (r.page ≡ 0) × (r.number ≡ p)).
        absurd (none_in (Record x.0) ((record_in [] x.0).0 x.1.among)))
        point,
  );
  cuts = λ c. (λ inside. absurd (none_in c inside), λ inside. absurd (none_in (Cut c) ((cut_in [] c).0 inside)));
}

pub content_cut : IsContentOf alone (content_of 1 (0 ∷ []) (sample_cut ∷ []))
content_cut = record {
  epoch = complete_one alone in_alone cut_alone;
  points = λ p. (
    λ inside. inl (sym (only 0 p inside)),
    λ point. ⊎_elim
        (λ (none : p ≡ 0). subst (λ (n : ℕ). Contains (0 ∷ []) n) (sym none) (here 0 []))
        (λ (x : (r : RecordData) × IsLinkedRecord alone 1 r × (r.page ≡ 0) × (r.number ≡ p)). absurd (no_record x.0 x.1.among))
        point,
  );
  cuts = λ c. (
    λ inside. subst (λ (d : CutData). Contains (cuts alone) d) (only sample_cut c inside) in_alone,
    λ inside. subst (λ (d : CutData). Contains (sample_cut ∷ []) d) (cut_alone c inside) (here sample_cut []),
  );
}

abbrev pub both : List Fact
both = Cut sample_cut ∷ Record sample_record ∷ []

cut_both : (c : CutData) → Contains (cuts both) c → sample_cut ≡ c
cut_both c inside = ⊎_elim
    (λ (same : Cut sample_cut ≡ Cut c). let itself : sample_cut ≡ c = cc in itself)
    (λ (rest : Contains (Record sample_record ∷ []) (Cut c)).
    let other : Record sample_record ≡ Cut c = only (Record sample_record) (Cut c) rest in absurd (cc))
    (which (Cut sample_cut) (Record sample_record ∷ []) (Cut c) ((cut_in both c).0 inside))

pub record_both : (r : RecordData) → Contains (records both) r → sample_record ≡ r
record_both r inside = ⊎_elim
    (λ (other : Cut sample_cut ≡ Record r). absurd (cc))
    (λ (rest : Contains (Record sample_record ∷ []) (Record r)).
    let same : Record sample_record ≡ Record r = only (Record sample_record) (Record r) rest in
    let itself : sample_record ≡ r = cc in itself)
    (which (Cut sample_cut) (Record sample_record ∷ []) (Record r) ((record_in both r).0 inside))

in_both : Contains (cuts both) sample_cut
in_both = (cut_in both sample_cut).1 (here (Cut sample_cut) (Record sample_record ∷ []))

alive_both : IsAlive (cuts both) 1 1 7
alive_both = record {
  known = omega arith;
  begun = λ c inside at. let hi : sample_cut.hi ≡ c.hi = ap (λ (d : CutData). d.hi) (cut_both c inside) in omega arith;
  spared = λ c inside later upto. absurd (omega arith);
}

linked_both : IsLinkedRecord both 1 sample_record
linked_both =
    let among : Contains (records both) sample_record =
    (record_in both sample_record).1 (there (Cut sample_cut) (Record sample_record ∷ []) (Record sample_record) (here (Record sample_record) [])) in
    record { among = among; alive = alive_both; linked = next sample_record among alive_both (omega arith) start }

pub content_both : IsContentOf both (content_of 1 (0 ∷ 7 ∷ []) (sample_cut ∷ []))
content_both = record {
  epoch = complete_one both in_both cut_both;
  points = λ p. (
    λ inside. ⊎_elim
        (λ (none : 0 ≡ p). inl (sym none))
        (λ (rest : Contains (7 ∷ []) p). inr (sample_record, linked_both, refl, only 7 p rest))
        (which 0 (7 ∷ []) p inside),
    λ point. ⊎_elim
        (λ (none : p ≡ 0). subst (λ (n : ℕ). Contains (0 ∷ 7 ∷ []) n) (sym none) (here 0 (7 ∷ [])))
        (λ (x : (r : RecordData) × IsLinkedRecord both 1 r × (r.page ≡ 0) × (r.number ≡ p)).
        let number : 7 ≡ p = ap (λ (r : RecordData). r.number) (record_both x.0 x.1.among) ∙ x.3 in
        subst (λ (n : ℕ). Contains (0 ∷ 7 ∷ []) n) number (there 0 (7 ∷ []) 7 (here 7 [])))
        point,
  );
  cuts = λ c. (
    λ inside. subst (λ (d : CutData). Contains (cuts both) d) (only sample_cut c inside) in_both,
    λ inside. subst (λ (d : CutData). Contains (sample_cut ∷ []) d) (cut_both c inside) (here sample_cut []),
  );
}

log_one : (t : ℕ) → 5 ≤ t → log_at sample_history t ≡ Cut sample_cut ∷ sample_facts t
log_one t after = ap (λ (n : ℕ). log_to sample_history t n) (newest_one t after)

held_nothing : (t : ℕ) → IsContentIn (log_at sample_history t) nothing
held_nothing t = ([], λ f inside. absurd (none_in f inside), content_nothing)

held_cut : (t : ℕ) → 5 ≤ t → IsContentIn (log_at sample_history t) (content_of 1 (0 ∷ []) (sample_cut ∷ []))
held_cut t after = (
  alone,
  λ f inside. subst (λ xs. Contains xs f) (sym (log_one t after))
      (subst (λ x. Contains (Cut sample_cut ∷ sample_facts t) x) (only (Cut sample_cut) f inside) (here (Cut sample_cut) (sample_facts t))),
  content_cut,
)

record_written : (t : ℕ) → 6 ≤ t → Contains (sample_facts t) (Record sample_record)
record_written t after = ⊎_elim
    (λ (before : t < 8). subst (λ xs. Contains xs (Record sample_record)) (sym (facts_one t after before)) (here (Record sample_record) []))
    (λ (later : 8 ≤ t).
    subst (λ xs. Contains xs (Record sample_record)) (sym (facts_two t later)) (here (Record sample_record) (Advance sample_advance ∷ [])))
    (let way : (t < 8) ⊎ (8 ≤ t) = grind arith in way)

both_inside : (t : ℕ) (f : Fact) → 6 ≤ t → Contains both f → Contains (Cut sample_cut ∷ sample_facts t) f
both_inside t f after inside = ⊎_elim
    (λ (cut : Cut sample_cut ≡ f). subst (λ x. Contains (Cut sample_cut ∷ sample_facts t) x) cut (here (Cut sample_cut) (sample_facts t)))
    (λ (rest : Contains (Record sample_record ∷ []) f).
    subst (λ x. Contains (Cut sample_cut ∷ sample_facts t) x) (only (Record sample_record) f rest)
    (there (Cut sample_cut) (sample_facts t) (Record sample_record) (record_written t after)))
    (which (Cut sample_cut) (Record sample_record ∷ []) f inside)

both_part : (t : ℕ) → 6 ≤ t → IsPart both (log_at sample_history t)
both_part t after f inside = subst (λ xs. Contains xs f) (sym (log_one t (omega arith))) (both_inside t f after inside)

held_both : (t : ℕ) → 6 ≤ t → IsContentIn (log_at sample_history t) (content_of 1 (0 ∷ 7 ∷ []) (sample_cut ∷ []))
held_both t after = (both, both_part t after, content_both)

held_rule : (t i : ℕ) → IsContentIn (log_at sample_history t) (sample_nodes t i).content
held_rule t (suc i) = held_nothing t
held_rule zero zero = held_nothing 0
held_rule (suc zero) zero = held_nothing 1
held_rule (suc (suc zero)) zero = held_nothing 2
held_rule (suc (suc (suc zero))) zero = held_nothing 3
held_rule (suc (suc (suc (suc zero)))) zero = held_nothing 4
held_rule (suc (suc (suc (suc (suc zero))))) zero = held_nothing 5
held_rule (suc (suc (suc (suc (suc (suc zero)))))) zero = held_cut 6 (omega arith)
held_rule (suc (suc (suc (suc (suc (suc (suc t))))))) zero = held_both (suc (suc (suc (suc (suc (suc (suc t))))))) (omega arith)

shaped_rule : (k : ℕ) → 1 ≤ k → cut_fault (cut_of k 0 6) ≡ None
shaped_rule k low = grind (arith, nat_tests)

pub emitted : (stop : ℕ) → IsEmitted sample_run sample_history stop
emitted stop = record {
  roster = (omega arith, omega arith);
  epochs = λ k. refl;
  shaped = λ k low within. shaped_rule k low;
  sent = λ t k upto low within. sent_rule t k low within;
  newest = λ t c upto sent. newest_rule t c sent;
  grows = λ s t k order upto. grows_rule s t k order;
  writers = λ t k f upto inside. writers_rule t k f inside;
  held = λ t i upto. held_rule t i;
}

-- ---- a reader
abbrev sample_front : Position
sample_front = record { epoch = 1; complete = 7; points = 0 ∷ []; min = 0; anchor = 0 }

no_advance_both : (a : AdvanceData) → Contains (advances both) a → ⊥
no_advance_both a inside = ⊎_elim
    (λ (other : Cut sample_cut ≡ Advance a). cc)
    (λ (rest : Contains (Record sample_record ∷ []) (Advance a)).
    let other : Record sample_record ≡ Advance a = only (Record sample_record) (Advance a) rest in cc)
    (which (Cut sample_cut) (Record sample_record ∷ []) (Advance a) ((advance_in both a).0 inside))

linked_upto : (n : ℕ) → IsLinked both 1 n → n ≤ 7
linked_upto n linked = ⊎_elim
    (λ (none : n ≡ 0). omega arith)
    (λ (x : (r : RecordData) × IsLinkedRecord both 1 r × (r.number ≡ n)).
    let number : 7 ≡ x.0.number = ap (λ (r : RecordData). r.number) (record_both x.0 x.1.among) in
    let at : x.0.number ≡ n = x.2 in
    omega arith)
    (linked_record both 1 n linked)

position : IsPosition 1 both sample_front
position = record {
  epoch = complete_one both in_both cut_both;
  complete = (inr linked_both.linked, linked_upto);
  points = record {
    count = refl;
    each = λ reader is. (inl (point_zero reader is), λ m had. absurd (no_advance_both had.0 had.1));
  };
  min = refl;
  anchor = (inl refl, λ m had. had.1);
}

abbrev page_zero : List ℕ
page_zero = after_records zeros (sample_record ∷ [])

shown : IsPageAt both 1 0 7 page_zero
shown = record {
  written = sample_record ∷ [];
  lists = record {
    rising = (tt, tt);
    members = λ r. (
      λ inside. subst (λ (x : RecordData). IsLinkedRecord both 1 x × (x.page ≡ 0) × (x.number ≤ 7)) (only sample_record r inside)
          (linked_both, refl, omega arith),
      λ is. subst (λ (x : RecordData). Contains (sample_record ∷ []) x) (record_both r is.0.among) (here sample_record []),
    );
  };
  result = refl;
}

says : Says page_zero 2 sample_record
says = commit_says zeros 2 sample_record zeros_long (omega arith)
    (record { epoch_fits = omega arith; generation_fits = omega arith; header = []; patches = refl })

counted : IsCounted sample_run sample_history 7 0 1 7
counted = record {
  part = both;
  inner = both_part 7 (omega arith);
  content = content_both;
  front = sample_front;
  position = position;
  member = refl;
  begun = omega arith;
  epoch_is = refl;
  image = page_zero;
  shown = shown;
  own = says.epoch_is;
  generation = (let same : generation_of page_zero ≡ 2 = says.generation_is in omega arith);
  point_is = says.number_is;
}

pub some_history : SomeHistory
some_history stop upto = (follows_each sample_run stop some_run.0, emitted stop, durable stop upto, counted)

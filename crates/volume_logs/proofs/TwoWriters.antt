-- The two engines keep the rules about what is emitted.
use Rattle.std.proofs.lemmas.Bool.Decides.{nat_tests}
use Rattle.std.proofs.Common.{◌≡◌, ◌≢◌, ℕ, zero, suc, ◌<◌, ◌≤◌, ◌⊎◌, ⊎_elim, inl, inr, List, [], ◌∷◌, ◌++◌, None, refl, sym, ◌∙◌, subst, ap, arith}
use Rattle.std.specs.Prelude.{nat_lt, if◌then◌else◌, slice_index}
use Rattle.std.specs.List.{Contains}
use Rattle.redo_core.specs.Data.{RecordData, CutData, AdvanceData}
use Rattle.redo_core.specs.Shape.{cut_fault}
use Rattle.redo_core.specs.Sets.{records, cuts}
use Rattle.redo_core.specs.CompleteEpoch.{IsCompleteEpoch}
use Rattle.redo_core.specs.Standing.{IsAlive}
use Rattle.redo_core.specs.Linked.{IsLinkedRecord}
use Rattle.redo_core.specs.Linked.Linked.{start, next}
use Rattle.redo_core.specs.Sound.{IsSound}
use Rattle.redo_core.specs.declared.facts.Fact.{Fact}
use Rattle.redo_core.specs.declared.facts.Fact.TheVariants.{Record, Cut, Advance}
use Rattle.redo_core.proofs.Members.{none_in, here, there, which, only}
use Rattle.redo_core.proofs.FactParts.{record_in, cut_in}
use Rattle.redo_writer.specs.declared.parts.AliveRecord.{AliveRecord}
use Rattle.redo_writer.specs.Tracks.{IsAliveRecord, Tracks}
use Rattle.redo_writer.specs.State.{WriterState, state_with}
use Rattle.redo_writer.specs.Continues.{Continues}
use Rattle.redo_writer.proofs.Tracking.{tracked_as}
use Rattle.redo_writer.proofs.Continuing.{continues_cut}
use Rattle.volume_theorems.specs.Runs.{MakesMove}
use Rattle.volume_theorems.specs.Runs.Move.{Accepts}
use Rattle.volume_theorems.specs.Opening.{IsCutSent}
use Rattle.volume_theorems.specs.Contents.{IsContentOf}
use Rattle.volume_theorems.specs.Sample.{sample_cut, nothing, content_of, sample_run}
use Rattle.volume_theorems.proofs.Quorums.{meet_within}
use Rattle.volume_theorems.proofs.Stopping.{lt_true, lt_false, follows_each}
use Rattle.volume_theorems.proofs.Sample.{some_run}
use Rattle.volume_logs.specs.Histories.{log_at}
use Rattle.volume_logs.specs.Writes.{GivesFact, Writes}
use Rattle.redo_writer.specs.Layout.{commit_patch}
use Rattle.volume_logs.specs.PageLayout.{LeavesNumber, IsCommitRecord}
use Rattle.volume_logs.specs.Emitting.{IsWriter, IsContentIn}
use Rattle.volume_logs.specs.Sample.{sample_record, sample_history}
use Rattle.volume_logs.specs.TwoWriters.{later_cut, two_moves, two_nodes, two_run, committed, reopened, old_record, new_record, two_cuts, old_facts, new_facts, two_written, two_history, TwoWriters}
use Rattle.volume_logs.proofs.Epochs.{in_epoch}
use Rattle.volume_logs.proofs.Sound.{epochs_are_sound}
use Rattle.volume_logs.proofs.Gives.{gives_record}
use Rattle.volume_logs.proofs.Sample.{first, entry, second, alone, both, first_continues, gives_first, record_both, content_nothing, content_cut, content_both, emitted}
use Rattle.volume_logs.proofs.TwoRun.{accepted_one, sent_one, accepted_two, sent_two, two_follows}

-- ---- moments
old_none : (t : ℕ) → t < 6 → old_facts t ≡ []
old_none t before =
    ap (λ b. if b then [] else if nat_lt t 13 then Record sample_record ∷ [] else Record sample_record ∷ Record old_record ∷ []) (lt_true t 6 before)

old_one : (t : ℕ) → 6 ≤ t → t < 13 → old_facts t ≡ Record sample_record ∷ []
old_one t after before =
    ap (λ b. if b then [] else if nat_lt t 13 then Record sample_record ∷ [] else Record sample_record ∷ Record old_record ∷ []) (lt_false t 6 after)
    ∙ ap (λ b. if b then Record sample_record ∷ [] else Record sample_record ∷ Record old_record ∷ []) (lt_true t 13 before)

old_two : (t : ℕ) → 13 ≤ t → old_facts t ≡ Record sample_record ∷ Record old_record ∷ []
old_two t after =
    ap (λ b. if b then [] else if nat_lt t 13 then Record sample_record ∷ [] else Record sample_record ∷ Record old_record ∷ []) (lt_false t 6 (omega arith))
    ∙ ap (λ b. if b then Record sample_record ∷ [] else Record sample_record ∷ Record old_record ∷ []) (lt_false t 13 after)

new_none : (t : ℕ) → t < 12 → new_facts t ≡ []
new_none t before = ap (λ b. if b then [] else Record new_record ∷ []) (lt_true t 12 before)

new_one : (t : ℕ) → 12 ≤ t → new_facts t ≡ Record new_record ∷ []
new_one t after = ap (λ b. if b then [] else Record new_record ∷ []) (lt_false t 12 after)

at_none : (t : ℕ) → t < 5 → two_history.newest t ≡ 0
at_none t before = ap (λ b. if b then 0 else if nat_lt t 11 then 1 else 2) (lt_true t 5 before)

at_one : (t : ℕ) → 5 ≤ t → t < 11 → two_history.newest t ≡ 1
at_one t after before =
    ap (λ b. if b then 0 else if nat_lt t 11 then 1 else 2) (lt_false t 5 after) ∙ ap (λ b. if b then 1 else 2) (lt_true t 11 before)

at_two : (t : ℕ) → 11 ≤ t → two_history.newest t ≡ 2
at_two t after =
    ap (λ b. if b then 0 else if nat_lt t 11 then 1 else 2) (lt_false t 5 (omega arith)) ∙ ap (λ b. if b then 1 else 2) (lt_false t 11 after)

-- ---- truncations
two_votes : (s e k : ℕ) → two_moves s ≡ Accepts e k → ((s ≡ 4) × (k ≡ 1)) ⊎ ((s ≡ 10) × (k ≡ 2))
two_votes zero e k says = absurd (cc)
two_votes (suc zero) e k says = absurd (cc)
two_votes (suc (suc zero)) e k says = absurd (cc)
two_votes (suc (suc (suc zero))) e k says = absurd (cc)
two_votes (suc (suc (suc (suc zero)))) e k says = inl (refl, cc)
two_votes (suc (suc (suc (suc (suc zero))))) e k says = absurd (cc)
two_votes (suc (suc (suc (suc (suc (suc zero)))))) e k says = absurd (cc)
two_votes (suc (suc (suc (suc (suc (suc (suc zero))))))) e k says = absurd (cc)
two_votes (suc (suc (suc (suc (suc (suc (suc (suc zero)))))))) e k says = absurd (cc)
two_votes (suc (suc (suc (suc (suc (suc (suc (suc (suc zero))))))))) e k says = absurd (cc)
two_votes (suc (suc (suc (suc (suc (suc (suc (suc (suc (suc zero)))))))))) e k says = inr (refl, cc)
two_votes (suc (suc (suc (suc (suc (suc (suc (suc (suc (suc (suc zero))))))))))) e k says = absurd (cc)
two_votes (suc (suc (suc (suc (suc (suc (suc (suc (suc (suc (suc (suc s)))))))))))) e k says = absurd (cc)

two_newest : (t : ℕ) (c : CutData) → IsCutSent two_run t c → c.epoch ≤ two_history.newest t
two_newest t c sent =
    let Votes : ℕ → Type 0 = λ i. (s : ℕ) × (s < t) × MakesMove two_run s i (Accepts sent.0 c.epoch) in
    let met = meet_within two_run Votes Votes two_follows.overlap sent.2 sent.2 in
    let before : met.1.0 < t = met.1.1 in
    ⊎_elim
    (λ (one : (met.1.0 ≡ 4) × (c.epoch ≡ 1)).
    let at : met.1.0 ≡ 4 = one.0 in
    let epoch : c.epoch ≡ 1 = one.1 in
    ⊎_elim
    (λ (early : t < 11). let is : two_history.newest t ≡ 1 = at_one t (omega arith) early in omega arith)
    (λ (late : 11 ≤ t). let is : two_history.newest t ≡ 2 = at_two t late in omega arith)
    (let way : (t < 11) ⊎ (11 ≤ t) = grind arith in way))
    (λ (two : (met.1.0 ≡ 10) × (c.epoch ≡ 2)).
    let at : met.1.0 ≡ 10 = two.0 in
    let epoch : c.epoch ≡ 2 = two.1 in
    let is : two_history.newest t ≡ 2 = at_two t (omega arith) in
    omega arith)
    (two_votes met.1.0 sent.0 c.epoch met.1.2.1)

two_sent : (t k : ℕ) → 1 ≤ k → k ≤ two_history.newest t → IsCutSent two_run t (two_cuts k)
two_sent t zero low within = absurd (omega arith)
two_sent t (suc zero) low within = ⊎_elim
    (λ (before : t < 5). let none : two_history.newest t ≡ 0 = at_none t before in absurd (omega arith))
    (λ (after : 5 ≤ t). sent_one t after)
    (let way : (t < 5) ⊎ (5 ≤ t) = grind arith in way)
two_sent t (suc (suc zero)) low within = ⊎_elim
    (λ (before : t < 5). let none : two_history.newest t ≡ 0 = at_none t before in absurd (omega arith))
    (λ rest. ⊎_elim
    (λ (between : (5 ≤ t) × (t < 11)). let one : two_history.newest t ≡ 1 = at_one t between.0 between.1 in absurd (omega arith))
    (λ (after : 11 ≤ t). sent_two t after)
    rest)
    (let way : (t < 5) ⊎ (((5 ≤ t) × (t < 11)) ⊎ (11 ≤ t)) = grind arith in way)
two_sent t (suc (suc (suc k))) low within = ⊎_elim
    (λ (before : t < 5). let none : two_history.newest t ≡ 0 = at_none t before in absurd (omega arith))
    (λ rest. ⊎_elim
    (λ (between : (5 ≤ t) × (t < 11)). let one : two_history.newest t ≡ 1 = at_one t between.0 between.1 in absurd (omega arith))
    (λ (after : 11 ≤ t). let two : two_history.newest t ≡ 2 = at_two t after in absurd (omega arith))
    rest)
    (let way : (t < 5) ⊎ (((5 ≤ t) × (t < 11)) ⊎ (11 ≤ t)) = grind arith in way)

-- ---- what is written
old_grows : (s t : ℕ) → s ≤ t → (more : List Fact) × (old_facts t ≡ old_facts s ++ more)
old_grows s t order = ⊎_elim
    (λ (none : s < 6). (old_facts t, ap (λ xs. xs ++ old_facts t) (sym (old_none s none))))
    (λ rest. ⊎_elim
    (λ (one : (6 ≤ s) × (s < 13)). ⊎_elim
    (λ (before : t < 13). ([], old_one t (omega (arith, one.0)) before ∙ ap (λ xs. xs ++ []) (sym (old_one s one.0 one.1))))
    (λ (after : 13 ≤ t). (Record old_record ∷ [], old_two t after ∙ ap (λ xs. xs ++ Record old_record ∷ []) (sym (old_one s one.0 one.1))))
    (let way : (t < 13) ⊎ (13 ≤ t) = grind arith in way))
    (λ (two : 13 ≤ s). ([], old_two t (omega arith) ∙ ap (λ xs. xs ++ []) (sym (old_two s two))))
    rest)
    (let way : (s < 6) ⊎ (((6 ≤ s) × (s < 13)) ⊎ (13 ≤ s)) = grind arith in way)

new_grows : (s t : ℕ) → s ≤ t → (more : List Fact) × (new_facts t ≡ new_facts s ++ more)
new_grows s t order = ⊎_elim
    (λ (none : s < 12). (new_facts t, ap (λ xs. xs ++ new_facts t) (sym (new_none s none))))
    (λ (one : 12 ≤ s). ([], new_one t (omega arith) ∙ ap (λ xs. xs ++ []) (sym (new_one s one))))
    (let way : (s < 12) ⊎ (12 ≤ s) = grind arith in way)

two_grows : (s t k : ℕ) → s ≤ t → (more : List Fact) × (two_written t k ≡ two_written s k ++ more)
two_grows s t zero order = ([], refl)
two_grows s t (suc zero) order = old_grows s t order
two_grows s t (suc (suc zero)) order = new_grows s t order
two_grows s t (suc (suc (suc k))) order = ([], refl)

no_page : (n other : ℕ) → other ≢ 0 → slice_index (n ∷ []) other ≡ slice_index (7 ∷ []) other
no_page n zero apart = absurd (apart refl)
no_page n (suc other) apart = refl

-- ---- the first engine
abbrev old_entry : AliveRecord
old_entry = record { number = 8; page = 0; block_back = 7 }

abbrev old_last : WriterState
old_last = state_with 1 8 (0 ∷ []) (8 ∷ []) 0 (old_entry ∷ entry ∷ [])

gives_old : GivesFact second (Record old_record) old_last
gives_old = gives_record second old_record old_entry (8 ∷ []) refl refl (omega arith) refl refl
    (record { number = refl; page = refl; block_back = refl }) (record { here = refl; others = no_page 8 })

old_writes : (t : ℕ) → 6 ≤ t → (last : WriterState) × Writes first (old_facts t) last
old_writes t after = ⊎_elim
    (λ (before : t < 13). (second, subst (λ xs. Writes first xs second) (sym (old_one t after before)) (second, gives_first, refl)))
    (λ (later : 13 ≤ t).
    (old_last, subst (λ xs. Writes first xs old_last) (sym (old_two t later)) (second, gives_first, (old_last, gives_old, refl))))
    (let way : (t < 13) ⊎ (13 ≤ t) = grind arith in way)

-- a fact that the first engine has written
abbrev IsOld : Fact → Type 0
IsOld f = (Record sample_record ≡ f) ⊎ (Record old_record ≡ f)

is_old : (t : ℕ) (f : Fact) → Contains (old_facts t) f → IsOld f
is_old t f inside = ⊎_elim
    (λ (none : t < 6). absurd (none_in f (subst (λ xs. Contains xs f) (old_none t none) inside)))
    (λ rest. ⊎_elim
    (λ (one : (6 ≤ t) × (t < 13)). inl (only (Record sample_record) f (subst (λ xs. Contains xs f) (old_one t one.0 one.1) inside)))
    (λ (two : 13 ≤ t). ⊎_elim inl (λ (last : Contains (Record old_record ∷ []) f). inr (only (Record old_record) f last))
    (which (Record sample_record) (Record old_record ∷ []) f (subst (λ xs. Contains xs f) (old_two t two) inside)))
    rest)
    (let way : (t < 6) ⊎ (((6 ≤ t) × (t < 13)) ⊎ (13 ≤ t)) = grind arith in way)

old_leaves : (r : RecordData) → IsOld (Record r) → LeavesNumber r × IsCommitRecord 2 r
old_leaves r old = ⊎_elim
    (λ (same : Record sample_record ≡ Record r).
    let itself : sample_record ≡ r = cc in
    subst (λ (x : RecordData). LeavesNumber x × IsCommitRecord 2 x) itself
    ((commit_patch 2 1 [] ∷ [], refl), record { epoch_fits = omega arith; generation_fits = omega arith; header = []; patches = refl }))
    (λ (same : Record old_record ≡ Record r).
    let itself : old_record ≡ r = cc in
    subst (λ (x : RecordData). LeavesNumber x × IsCommitRecord 2 x) itself
    ((commit_patch 2 1 [] ∷ [], refl), record { epoch_fits = omega arith; generation_fits = omega arith; header = []; patches = refl }))
    old

old_advance : (a : AdvanceData) → IsOld (Advance a) → ⊥
old_advance a old = ⊎_elim (λ (same : Record sample_record ≡ Advance a). cc) (λ (same : Record old_record ≡ Advance a). cc) old

old_writer : (t : ℕ) → 6 ≤ t → IsWriter two_run two_history t 0 0
old_writer t after =
    let now = old_writes t after in
    record {
      opened = record { own = refl; accepted = accepted_one t (omega arith) };
      start = 5;
      before = omega arith;
      begun = omega arith;
      base = [];
      lacks = record { inner = λ f inside. inside; records = λ r inside. inside; cuts = λ c inside. inside };
      first = first;
      goes_on = record { readers_is = refl; continues = first_continues };
      epoch = refl;
      last = now.0;
      writes = now.1;
      durable = λ a inside. absurd (old_advance a (is_old t (Advance a) inside));
      leaves = λ r inside. (old_leaves r (is_old t (Record r) inside)).0;
      commits = λ r inside page. (old_leaves r (is_old t (Record r) inside)).1;
    }

-- ---- the second engine
abbrev new_first : WriterState
new_first = state_with 2 20 (0 ∷ []) (7 ∷ []) 0 (entry ∷ [])

abbrev new_entry : AliveRecord
new_entry = record { number = 21; page = 0; block_back = 7 }

abbrev new_last : WriterState
new_last = state_with 2 21 (0 ∷ []) (21 ∷ []) 0 (new_entry ∷ entry ∷ [])

-- the first engine's log, by its own theorem
alone_sound : IsSound 1 alone
alone_sound = epochs_are_sound sample_run sample_history 5 5 1 (follows_each sample_run 5 some_run.0) (emitted 5) (omega arith) (omega arith)

second_continues : Continues second both
second_continues = gives_first.continues alone (first_continues alone_sound)

kept_entries : Tracks (λ r. IsAliveRecord both 1 r × (r.number ≤ 7)) 0 (7 ∷ []) (entry ∷ [])
kept_entries = tracked_as (IsAliveRecord both 1) (λ r. IsAliveRecord both 1 r × (r.number ≤ 7)) 0 (7 ∷ []) (entry ∷ [])
    (λ r p. (p, (let number : 7 ≡ r.number = ap (λ (x : RecordData). x.number) (record_both r p.among) in omega arith)))
    (λ r p. p.0)
    second_continues.alive

new_continues : Continues new_first (both ++ Cut later_cut ∷ [])
new_continues = continues_cut second both later_cut (7 ∷ []) (entry ∷ []) second_continues refl refl (omega arith) kept_entries

gives_new : GivesFact new_first (Record new_record) new_last
gives_new = gives_record new_first new_record new_entry (21 ∷ []) refl refl (omega arith) refl refl
    (record { number = refl; page = refl; block_back = refl }) (record { here = refl; others = no_page 21 })

is_new : (t : ℕ) (f : Fact) → Contains (new_facts t) f → (12 ≤ t) × (Record new_record ≡ f)
is_new t f inside = ⊎_elim
    (λ (none : t < 12). absurd (none_in f (subst (λ xs. Contains xs f) (new_none t none) inside)))
    (λ (one : 12 ≤ t). (one, only (Record new_record) f (subst (λ xs. Contains xs f) (new_one t one) inside)))
    (let way : (t < 12) ⊎ (12 ≤ t) = grind arith in way)

new_leaves : (r : RecordData) → Record new_record ≡ Record r → LeavesNumber r × IsCommitRecord 3 r
new_leaves r same =
    let itself : new_record ≡ r = cc in
    subst (λ (x : RecordData). LeavesNumber x × IsCommitRecord 3 x) itself
    ((commit_patch 3 2 [] ∷ [], refl), record { epoch_fits = omega arith; generation_fits = omega arith; header = []; patches = refl })

new_writer : (t : ℕ) → 12 ≤ t → IsWriter two_run two_history t 1 1
new_writer t after = record {
  opened = record { own = refl; accepted = accepted_two t (omega arith) };
  start = 11;
  before = omega arith;
  begun = omega arith;
  base = both;
  lacks = record { inner = λ f inside. inside; records = λ r inside. inside; cuts = λ c inside. inside };
  first = new_first;
  goes_on = record { readers_is = refl; continues = λ sound. new_continues };
  epoch = refl;
  last = new_last;
  writes = subst (λ xs. Writes new_first xs new_last) (sym (new_one t after)) (new_last, gives_new, refl);
  durable = λ a inside. let same : Record new_record ≡ Advance a = (is_new t (Advance a) inside).1 in absurd (cc);
  leaves = λ r inside. (new_leaves r (is_new t (Record r) inside).1).0;
  commits = λ r inside page. (new_leaves r (is_new t (Record r) inside).1).1;
}

two_writers_rule : (t k : ℕ) (f : Fact) → Contains (two_written t (suc k)) f → (e : ℕ) × IsWriter two_run two_history t k e
two_writers_rule t zero f inside = ⊎_elim
    (λ (none : t < 6). absurd (none_in f (subst (λ xs. Contains xs f) (old_none t none) inside)))
    (λ (after : 6 ≤ t). (0, old_writer t after))
    (let way : (t < 6) ⊎ (6 ≤ t) = grind arith in way)
two_writers_rule t (suc zero) f inside = (1, new_writer t (is_new t f inside).0)
two_writers_rule t (suc (suc k)) f inside = absurd (none_in f inside)

-- ---- the node
abbrev trio : List Fact
trio = Cut sample_cut ∷ Record sample_record ∷ Cut later_cut ∷ []

trio_cases : (f : Fact) → Contains trio f → (Cut sample_cut ≡ f) ⊎ ((Record sample_record ≡ f) ⊎ (Cut later_cut ≡ f))
trio_cases f inside = ⊎_elim inl
    (λ (rest : Contains (Record sample_record ∷ Cut later_cut ∷ []) f). inr (⊎_elim inl
    (λ (last : Contains (Cut later_cut ∷ []) f). inr (only (Cut later_cut) f last))
    (which (Record sample_record) (Cut later_cut ∷ []) f rest)))
    (which (Cut sample_cut) (Record sample_record ∷ Cut later_cut ∷ []) f inside)

trio_cut : (c : CutData) → Contains (cuts trio) c → (sample_cut ≡ c) ⊎ (later_cut ≡ c)
trio_cut c inside = ⊎_elim
    (λ (one : Cut sample_cut ≡ Cut c). let itself : sample_cut ≡ c = cc in inl itself)
    (λ rest. ⊎_elim
    (λ (other : Record sample_record ≡ Cut c). absurd (cc))
    (λ (two : Cut later_cut ≡ Cut c). let itself : later_cut ≡ c = cc in inr itself)
    rest)
    (trio_cases (Cut c) ((cut_in trio c).0 inside))

trio_record : (r : RecordData) → Contains (records trio) r → sample_record ≡ r
trio_record r inside = ⊎_elim
    (λ (other : Cut sample_cut ≡ Record r). absurd (cc))
    (λ rest. ⊎_elim
    (λ (one : Record sample_record ≡ Record r). let itself : sample_record ≡ r = cc in itself)
    (λ (other : Cut later_cut ≡ Record r). absurd (cc))
    rest)
    (trio_cases (Record r) ((record_in trio r).0 inside))

trio_first : Contains (cuts trio) sample_cut
trio_first = (cut_in trio sample_cut).1 (here (Cut sample_cut) (Record sample_record ∷ Cut later_cut ∷ []))

trio_second : Contains (cuts trio) later_cut
trio_second = (cut_in trio later_cut).1 (there (Cut sample_cut) (Record sample_record ∷ Cut later_cut ∷ []) (Cut later_cut)
    (there (Record sample_record) (Cut later_cut ∷ []) (Cut later_cut) (here (Cut later_cut) [])))

trio_epoch : IsCompleteEpoch (cuts trio) 2
trio_epoch = (
  inr (λ e low upto. ⊎_elim
      (λ (one : 1 ≡ e). (sample_cut, trio_first, one))
      (λ (two : 2 ≡ e). (later_cut, trio_second, two))
      (let way : (1 ≡ e) ⊎ (2 ≡ e) = grind arith in way)),
  λ m has. ⊎_elim
      (λ (upto : m ≤ 2). upto)
      (λ (above : 3 ≤ m).
      let c = has 3 (omega arith) above in
      let at : c.0.epoch ≡ 3 = c.2 in
      absurd (⊎_elim
      (λ (one : sample_cut ≡ c.0). let epoch : 1 ≡ c.0.epoch = ap (λ (d : CutData). d.epoch) one in omega arith)
      (λ (two : later_cut ≡ c.0). let epoch : 2 ≡ c.0.epoch = ap (λ (d : CutData). d.epoch) two in omega arith)
      (trio_cut c.0 c.1)))
      (let way : (m ≤ 2) ⊎ (3 ≤ m) = grind arith in way),
)

trio_alive : IsAlive (cuts trio) 2 1 7
trio_alive = record {
  known = omega arith;
  begun = λ c inside at. ⊎_elim
      (λ (one : sample_cut ≡ c). let hi : 6 ≡ c.hi = ap (λ (d : CutData). d.hi) one in omega arith)
      (λ (two : later_cut ≡ c). let epoch : 2 ≡ c.epoch = ap (λ (d : CutData). d.epoch) two in absurd (omega arith))
      (trio_cut c inside);
  spared = λ c inside later upto. ⊎_elim
      (λ (one : sample_cut ≡ c). let epoch : 1 ≡ c.epoch = ap (λ (d : CutData). d.epoch) one in absurd (omega arith))
      (λ (two : later_cut ≡ c). let lo : 7 ≡ c.lo = ap (λ (d : CutData). d.lo) two in omega arith)
      (trio_cut c inside);
}

trio_linked : IsLinkedRecord trio 2 sample_record
trio_linked =
    let among : Contains (records trio) sample_record = (record_in trio sample_record).1
    (there (Cut sample_cut) (Record sample_record ∷ Cut later_cut ∷ []) (Record sample_record) (here (Record sample_record) (Cut later_cut ∷ []))) in
    record { among = among; alive = trio_alive; linked = next sample_record among trio_alive (omega arith) start }

trio_content : IsContentOf trio reopened
trio_content = record {
  epoch = trio_epoch;
  points = λ p. (
    λ inside. ⊎_elim
        (λ (none : 0 ≡ p). inl (sym none))
        (λ (rest : Contains (7 ∷ []) p). inr (sample_record, trio_linked, refl, only 7 p rest))
        (which 0 (7 ∷ []) p inside),
    λ point. ⊎_elim
        (λ (none : p ≡ 0). subst (λ (n : ℕ). Contains (0 ∷ 7 ∷ []) n) (sym none) (here 0 (7 ∷ [])))
        (λ (x : (r : RecordData) × IsLinkedRecord trio 2 r × (r.page ≡ 0) × (r.number ≡ p)).
        let number : 7 ≡ p = ap (λ (r : RecordData). r.number) (trio_record x.0 x.1.among) ∙ x.3 in
        subst (λ (n : ℕ). Contains (0 ∷ 7 ∷ []) n) number (there 0 (7 ∷ []) 7 (here 7 [])))
        point,
  );
  cuts = λ c. (
    λ inside. ⊎_elim
        (λ (one : sample_cut ≡ c). subst (λ (d : CutData). Contains (cuts trio) d) one trio_first)
        (λ (rest : Contains (later_cut ∷ []) c). subst (λ (d : CutData). Contains (cuts trio) d) (only later_cut c rest) trio_second)
        (which sample_cut (later_cut ∷ []) c inside),
    λ inside. ⊎_elim
        (λ (one : sample_cut ≡ c). subst (λ (d : CutData). Contains (sample_cut ∷ later_cut ∷ []) d) one (here sample_cut (later_cut ∷ [])))
        (λ (two : later_cut ≡ c). subst (λ (d : CutData). Contains (sample_cut ∷ later_cut ∷ []) d) two
        (there sample_cut (later_cut ∷ []) later_cut (here later_cut [])))
        (trio_cut c inside),
  );
}

-- where the facts are in the log
one_begun : (t : ℕ) → 5 ≤ t → 1 ≤ two_history.newest t
one_begun t after = ⊎_elim
    (λ (early : t < 11). let is : two_history.newest t ≡ 1 = at_one t after early in omega arith)
    (λ (late : 11 ≤ t). let is : two_history.newest t ≡ 2 = at_two t late in omega arith)
    (let way : (t < 11) ⊎ (11 ≤ t) = grind arith in way)

first_in_log : (t : ℕ) → 5 ≤ t → Contains (log_at two_history t) (Cut sample_cut)
first_in_log t after =
    let begun : 1 ≤ two_history.newest t = one_begun t after in
    in_epoch two_history t (two_history.newest t) 0 (Cut sample_cut) (omega arith) (inl refl)

second_in_log : (t : ℕ) → 11 ≤ t → Contains (log_at two_history t) (Cut later_cut)
second_in_log t after =
    let is : two_history.newest t ≡ 2 = at_two t after in
    in_epoch two_history t (two_history.newest t) 1 (Cut later_cut) (omega arith) (inl refl)

old_first : (t : ℕ) → 6 ≤ t → Contains (old_facts t) (Record sample_record)
old_first t after = ⊎_elim
    (λ (before : t < 13). subst (λ xs. Contains xs (Record sample_record)) (sym (old_one t after before)) (here (Record sample_record) []))
    (λ (later : 13 ≤ t).
    subst (λ xs. Contains xs (Record sample_record)) (sym (old_two t later)) (here (Record sample_record) (Record old_record ∷ [])))
    (let way : (t < 13) ⊎ (13 ≤ t) = grind arith in way)

record_in_log : (t : ℕ) → 6 ≤ t → Contains (log_at two_history t) (Record sample_record)
record_in_log t after =
    let begun : 1 ≤ two_history.newest t = one_begun t (omega arith) in
    in_epoch two_history t (two_history.newest t) 0 (Record sample_record) (omega arith) (inr (old_first t after))

has_nothing : (t : ℕ) → IsContentIn (log_at two_history t) nothing
has_nothing t = ([], λ f inside. absurd (none_in f inside), content_nothing)

has_cut : (t : ℕ) → 5 ≤ t → IsContentIn (log_at two_history t) (content_of 1 (0 ∷ []) (sample_cut ∷ []))
has_cut t after =
    (alone, λ f inside. subst (λ x. Contains (log_at two_history t) x) (only (Cut sample_cut) f inside) (first_in_log t after), content_cut)

has_commit : (t : ℕ) → 6 ≤ t → IsContentIn (log_at two_history t) committed
has_commit t after = (
  both,
  λ f inside. ⊎_elim
      (λ (cut : Cut sample_cut ≡ f). subst (λ x. Contains (log_at two_history t) x) cut (first_in_log t (omega arith)))
      (λ (rest : Contains (Record sample_record ∷ []) f).
      subst (λ x. Contains (log_at two_history t) x) (only (Record sample_record) f rest) (record_in_log t after))
      (which (Cut sample_cut) (Record sample_record ∷ []) f inside),
  content_both,
)

has_both : (t : ℕ) → 11 ≤ t → IsContentIn (log_at two_history t) reopened
has_both t after = (
  trio,
  λ f inside. ⊎_elim
      (λ (cut : Cut sample_cut ≡ f). subst (λ x. Contains (log_at two_history t) x) cut (first_in_log t (omega arith)))
      (λ rest. ⊎_elim
      (λ (fact : Record sample_record ≡ f). subst (λ x. Contains (log_at two_history t) x) fact (record_in_log t (omega arith)))
      (λ (cut : Cut later_cut ≡ f). subst (λ x. Contains (log_at two_history t) x) cut (second_in_log t after))
      rest)
      (trio_cases f inside),
  trio_content,
)

two_held : (t i : ℕ) → IsContentIn (log_at two_history t) (two_nodes t i).content
two_held t (suc i) = has_nothing t
two_held zero zero = has_nothing 0
two_held (suc zero) zero = has_nothing 1
two_held (suc (suc zero)) zero = has_nothing 2
two_held (suc (suc (suc zero))) zero = has_nothing 3
two_held (suc (suc (suc (suc zero)))) zero = has_nothing 4
two_held (suc (suc (suc (suc (suc zero))))) zero = has_nothing 5
two_held (suc (suc (suc (suc (suc (suc zero)))))) zero = has_cut 6 (omega arith)
two_held (suc (suc (suc (suc (suc (suc (suc zero))))))) zero = has_commit 7 (omega arith)
two_held (suc (suc (suc (suc (suc (suc (suc (suc zero)))))))) zero = has_commit 8 (omega arith)
two_held (suc (suc (suc (suc (suc (suc (suc (suc (suc zero))))))))) zero = has_commit 9 (omega arith)
two_held (suc (suc (suc (suc (suc (suc (suc (suc (suc (suc zero)))))))))) zero = has_commit 10 (omega arith)
two_held (suc (suc (suc (suc (suc (suc (suc (suc (suc (suc (suc zero))))))))))) zero = has_commit 11 (omega arith)
two_held (suc (suc (suc (suc (suc (suc (suc (suc (suc (suc (suc (suc t)))))))))))) zero =
    has_both (suc (suc (suc (suc (suc (suc (suc (suc (suc (suc (suc (suc t)))))))))))) (omega arith)

two_epochs : (k : ℕ) → (two_cuts k).epoch ≡ k
two_epochs zero = refl
two_epochs (suc zero) = refl
two_epochs (suc (suc k)) = refl

two_shaped : (k : ℕ) → 1 ≤ k → cut_fault (two_cuts k) ≡ None
two_shaped zero low = absurd (omega arith)
two_shaped (suc zero) low = refl
two_shaped (suc (suc k)) low = grind (arith, nat_tests)

pub two_writers : TwoWriters
two_writers stop = (
  follows_each two_run stop two_follows,
  record {
    roster = (omega arith, omega arith);
    epochs = two_epochs;
    shaped = λ k low within. two_shaped k low;
    sent = λ t k upto low within. two_sent t k low within;
    newest = λ t c upto sent. two_newest t c sent;
    grows = λ s t k order upto. two_grows s t k order;
    writers = λ t k f upto inside. two_writers_rule t k f inside;
    held = λ t i upto. two_held t i;
  },
  refl,
  refl,
)

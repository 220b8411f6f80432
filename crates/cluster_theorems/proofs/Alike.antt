-- Lists of the same facts: a state means both or neither, and their snapshots bring the same.
use Rattle.std.proofs.Common.{◌≡◌, ℕ, ⊎_elim, List, inl, inr, sym, ◌∙◌}
use Rattle.redo_core.specs.Book.{BookData, roster_of}
use Rattle.redo_core.specs.Data.{RecordData}
use Rattle.redo_core.specs.Knowing.{KnowsFacts}
use Rattle.redo_core.specs.Meaning.{Meaning}
use Rattle.redo_core.specs.Sets.{IsPart, SameSet, cuts}
use Rattle.redo_core.specs.Sound.{IsSound}
use Rattle.redo_core.specs.declared.facts.Fact.{Fact}
use Rattle.redo_core.proofs.FactParts.{part_records, part_cuts, part_advances}
use Rattle.log_theorems.proofs.Alike.{Alike, alive_by}
use Rattle.log_theorems.proofs.Fronts.{same_sym}
use Rattle.log_theorems.proofs.Log.{log_of_sound}
use Rattle.log_theorems.proofs.Meanings.{meaning_exists}
use Rattle.log_theorems.proofs.SameSets.{agree, alike_same, same_meanings}
use Rattle.segment_theorems.specs.State.{State}
use Rattle.segment_theorems.specs.Means.{Means, Matters}
use Rattle.segment_theorems.specs.HasMeaning.{HasMeaning}
use Rattle.segment_theorems.proofs.Same.{meaning_law}
use Rattle.snapshot.specs.Snapshots.{SnapshotData, Freezes}
use Rattle.snapshot.proofs.Frozen.{same_pages, same_records}

knows_same : (facts others : List Fact) (b : BookData) → SameSet facts others → KnowsFacts facts b → KnowsFacts others b
knows_same facts others b same knows =
    let back = same_sym facts others same in
    let to : IsPart facts others = λ x h. (same x).0 h in
    let fro : IsPart others facts = λ x h. (back x).0 h in
    let alike : Alike (roster_of b) facts others b.complete = alike_same (roster_of b) facts others same b.complete in
    record {
      same_cuts = λ c. (λ h. part_cuts facts others to c ((knows.same_cuts c).0 h), λ h. (knows.same_cuts c).1 (part_cuts others facts fro c h));
      points = record { count = knows.points.count; each = λ reader is. (alike.points reader _ is).0 (knows.points.each reader is) };
      waits = λ a. (
        λ h. let w = (knows.waits a).0 h in (part_advances facts others to a w.0, w.1),
        λ h. (knows.waits a).1 (part_advances others facts fro a h.0, h.1),
      );
    }

pub means_same : (roster : ℕ) (log facts others : List Fact) (s : State) → SameSet facts others → Means roster log facts s → Means roster log others s
means_same roster log facts others s same means =
    let p = means.0 in
    let m = means.1 in
    let agrees = agree facts others same in
    let back = same_sym facts others same in
    let to : IsPart facts others = λ x h. (same x).0 h in
    let fro : IsPart others facts = λ x h. (back x).0 h in
    let matters : (r : RecordData) → Matters (cuts others) p.epoch r → Matters (cuts facts) p.epoch r = λ r h. ⊎_elim
    (λ w. inl w)
    (λ a. inr (alive_by (cuts others) (cuts facts) (λ c. (part_cuts others facts fro c, part_cuts facts others to c)) p.epoch r.epoch r.number a))
    h in (
      p,
      record {
        part = λ x h. m.part x (fro x h);
        position = (agrees.positions roster p).0 m.position;
        book = knows_same facts others s.book same m.book;
        epoch = m.epoch;
        readers = m.readers;
        base = ((agrees.linked p.epoch s.base).0 m.base.0, m.base.1);
        of_log = m.of_log;
        of_facts = λ r h live. part_records facts others to r (m.of_facts r h (matters r live));
        kept = λ r h live. m.kept r (part_records others facts fro r h) (matters r live);
        versions = m.versions;
        images = λ page. (agrees.pages p.epoch page _ _).0 (m.images page);
      },
    )

-- two snapshots of states that mean the same facts
pub same_snapshots : (roster : ℕ) (log facts others : List Fact) (s t : State) (d e : SnapshotData) → IsSound roster log → SameSet facts others
    → Means roster log facts s → Means roster log others t → Freezes s d → Freezes t e → (d.pages ≡ e.pages) × (d.records ≡ e.records)
same_snapshots roster log facts others s t d e sound same own its a b =
    let l = log_of_sound roster log sound in
    let meaning = meaning_exists log facts l own.1.part in
    let m : Meaning = meaning.0 in
    let has : HasMeaning s m = (meaning_law log facts s m l own).1 meaning.1 in
    let too : HasMeaning t m = (meaning_law log others t m l its).1 ((same_meanings roster facts others m same).0 meaning.1) in (
      same_pages s d m.anchor m.pages a has.anchor has.pages ∙ sym (same_pages t e m.anchor m.pages b too.anchor too.pages),
      same_records s d m.anchor m.kept a has.anchor has.kept ∙ sym (same_records t e m.anchor m.kept b too.anchor too.kept),
    )

-- The records, truncations and advances of a list of facts, by its members.
use Rattle.std.proofs.Common.{rules}
use Rattle.std.proofs.Common.{◌≡◌, ◌↔◌, List, refl, Some, []}
use Rattle.std.specs.List.{Contains}
use Rattle.redo_core.specs.Data.{RecordData, CutData, AdvanceData}
use Rattle.redo_core.specs.Sets.{IsPart, records, cuts, advances, as_record, as_cut, as_advance}
use Rattle.redo_core.specs.declared.facts.Fact.{Fact}
use Rattle.redo_core.specs.declared.facts.Fact.TheVariants.{Record, Cut, Advance}
use Rattle.redo_core.proofs.Members.{mapped, source, none_in}

record_source_at : (facts : List Fact) (f : Fact) (r : RecordData) → Contains facts f → as_record f ≡ Some r → Contains facts (Record r)
record_source_at facts f r h e = search rules

cut_source_at : (facts : List Fact) (f : Fact) (c : CutData) → Contains facts f → as_cut f ≡ Some c → Contains facts (Cut c)
cut_source_at facts f c h e = search rules

advance_source_at : (facts : List Fact) (f : Fact) (a : AdvanceData) → Contains facts f → as_advance f ≡ Some a → Contains facts (Advance a)
advance_source_at facts f a h e = search rules

pub record_in : (facts : List Fact) (r : RecordData) → Contains (records facts) r ↔ Contains facts (Record r)
unfolding records
record_in facts r = (λ h. let s = source as_record facts r h in record_source_at facts s.0 r s.1 s.2, λ h. mapped as_record facts (Record r) r h refl)

pub cut_in : (facts : List Fact) (c : CutData) → Contains (cuts facts) c ↔ Contains facts (Cut c)
unfolding cuts
cut_in facts c = (λ h. let s = source as_cut facts c h in cut_source_at facts s.0 c s.1 s.2, λ h. mapped as_cut facts (Cut c) c h refl)

pub advance_in : (facts : List Fact) (a : AdvanceData) → Contains (advances facts) a ↔ Contains facts (Advance a)
unfolding advances
advance_in facts a = (λ h. let s = source as_advance facts a h in advance_source_at facts s.0 a s.1 s.2, λ h. mapped as_advance facts (Advance a) a h refl)

pub part_records : (F G : List Fact) → IsPart F G → IsPart (records F) (records G)
part_records F G p r h = (record_in G r).1 (p (Record r) ((record_in F r).0 h))

pub part_cuts : (F G : List Fact) → IsPart F G → IsPart (cuts F) (cuts G)
part_cuts F G p c h = (cut_in G c).1 (p (Cut c) ((cut_in F c).0 h))

pub part_advances : (F G : List Fact) → IsPart F G → IsPart (advances F) (advances G)
part_advances F G p a h = (advance_in G a).1 (p (Advance a) ((advance_in F a).0 h))

-- no facts have no advance
pub no_advances : (a : AdvanceData) → Contains (advances []) a → ⊥
unfolding advances
no_advances a h = none_in a h

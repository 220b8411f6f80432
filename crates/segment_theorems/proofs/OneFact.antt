-- A set of one fact.
use Rattle.std.proofs.Common.{◌≡◌, ⊎_elim, List, [], ◌∷◌, subst}
use Rattle.std.specs.List.{Contains}
use Rattle.redo_core.specs.Data.{RecordData, CutData, AdvanceData}
use Rattle.redo_core.specs.Sets.{IsPart, records, cuts, advances}
use Rattle.redo_core.specs.declared.facts.Fact.{Fact}
use Rattle.redo_core.specs.declared.facts.Fact.TheVariants.{Record, Cut, Advance}
use Rattle.redo_core.proofs.Members.{none_in, here, which}

pub part_of : (log : List Fact) (fact : Fact) → Contains log fact → IsPart (fact ∷ []) log
part_of log fact h x q = ⊎_elim (λ (e : fact ≡ x). subst (Contains log) e h) (λ (y : Contains [] x). absurd (none_in x y)) (which fact [] x q)

pub record_no_cut : (r : RecordData) (c : CutData) → Contains (cuts (Record r ∷ [])) c → ⊥
unfolding cuts
record_no_cut r c h = none_in c h

pub record_no_advance : (r : RecordData) (a : AdvanceData) → Contains (advances (Record r ∷ [])) a → ⊥
unfolding advances
record_no_advance r a h = none_in a h

pub record_only : (r x : RecordData) → Contains (records (Record r ∷ [])) x → r ≡ x
unfolding records
record_only r x h = ⊎_elim (λ (e : r ≡ x). e) (λ (y : Contains [] x). absurd (none_in x y)) (which r [] x h)

pub record_there : (r : RecordData) → Contains (records (Record r ∷ [])) r
unfolding records
record_there r = here r []

pub cut_no_record : (c : CutData) (r : RecordData) → Contains (records (Cut c ∷ [])) r → ⊥
unfolding records
cut_no_record c r h = none_in r h

pub cut_no_advance : (c : CutData) (a : AdvanceData) → Contains (advances (Cut c ∷ [])) a → ⊥
unfolding advances
cut_no_advance c a h = none_in a h

pub cut_only : (c x : CutData) → Contains (cuts (Cut c ∷ [])) x → c ≡ x
unfolding cuts
cut_only c x h = ⊎_elim (λ (e : c ≡ x). e) (λ (y : Contains [] x). absurd (none_in x y)) (which c [] x h)

pub cut_there : (c : CutData) → Contains (cuts (Cut c ∷ [])) c
unfolding cuts
cut_there c = here c []

pub advance_no_record : (a : AdvanceData) (r : RecordData) → Contains (records (Advance a ∷ [])) r → ⊥
unfolding records
advance_no_record a r h = none_in r h

pub advance_no_cut : (a : AdvanceData) (c : CutData) → Contains (cuts (Advance a ∷ [])) c → ⊥
unfolding cuts
advance_no_cut a c h = none_in c h

pub advance_only : (a x : AdvanceData) → Contains (advances (Advance a ∷ [])) x → a ≡ x
unfolding advances
advance_only a x h = ⊎_elim (λ (e : a ≡ x). e) (λ (y : Contains [] x). absurd (none_in x y)) (which a [] x h)

pub advance_there : (a : AdvanceData) → Contains (advances (Advance a ∷ [])) a
unfolding advances
advance_there a = here a []

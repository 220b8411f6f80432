-- Scans of a list of facts.
use Rattle.std.proofs.Common.{◌≡◌, ◌≢◌, ℕ, ◌+◌, ◌<◌, ◌≤◌, ◌⊎◌, List, length, get_or, take, refl, sym, subst, arith, rules}
use Rattle.std.specs.List.{Contains, All}
use Rattle.std.proofs.lemmas.List.Elements.{All-contains}
use Rattle.redo_core.specs.Data.{RecordData, CutData, AdvanceData}
use Rattle.redo_core.specs.Sets.{records, cuts, advances}
use Rattle.redo_core.specs.Points.{HasAdvance}
use Rattle.redo_core.specs.Past.{IsPast}
use Rattle.redo_core.specs.declared.facts.Fact.{Fact}
use Rattle.redo_core.specs.declared.facts.Fact.TheVariants.{Record, Cut, Advance}
use Rattle.redo_core.proofs.Scans.{one_more}
use Rattle.redo_core.proofs.Members.{item}
use Rattle.redo_core.proofs.FactParts.{cut_in, advance_in}
use Rattle.redo_core.specs.CompleteEpoch.{HasCut}
use Rattle.reference_model.proofs.Scanned.{IsOther, IsUpTo, LeavesBehind}

pub cut_item : (facts : List Fact) (i : ℕ) (f : Fact) (c : CutData) → i < length facts → f ≡ get_or facts i f → f ≡ Cut c → Contains (cuts facts) c
cut_item facts i f c l e q = (cut_in facts c).1 (subst (Contains facts) q (item facts i f l e))

pub advance_item : (facts : List Fact) (i : ℕ) (f : Fact) (a : AdvanceData) → i < length facts → f ≡ get_or facts i f → f ≡ Advance a
    → Contains (advances facts) a
advance_item facts i f a l e q = (advance_in facts a).1 (subst (Contains facts) q (item facts i f l e))

pub no_cut : (facts : List Fact) (e : ℕ) → All (IsOther e) facts → HasCut (cuts facts) e → ⊥
no_cut facts e all h = All-contains (IsOther e) facts (Cut h.0) all ((cut_in facts h.0).0 h.1) h.2

pub up_to : (facts : List Fact) (e r p : ℕ) → All (IsUpTo e r p) facts → (m : ℕ) → HasAdvance (advances facts) e r m → m ≤ p
up_to facts e r p all m h = let t : h.0.point ≤ p = All-contains (IsUpTo e r p) facts (Advance h.0) all ((advance_in facts h.0).0 h.1) h.3 h.2 in
    let q : h.0.point ≡ m = h.4 in omega arith

pub not_past : (facts : List Fact) (c : CutData) (reader : ℕ) → All (LeavesBehind c reader) facts → IsPast (advances facts) c reader → ⊥
not_past facts c reader all h = All-contains (LeavesBehind c reader) facts (Advance h.0) all ((advance_in facts h.0).0 h.1) h.2 h.3 h.4

higher_at : (e r p q : ℕ) → p ≤ q → (f : Fact) → IsUpTo e r p f → IsUpTo e r q f
higher_at e r p q l f h = search rules

pub higher : (xs : List Fact) (e r p q : ℕ) → p ≤ q → All (IsUpTo e r p) xs → All (IsUpTo e r q) xs
higher xs e r p q l all k d u = higher_at e r p q l (get_or xs k d) (all k d u)

pub other_cut : (e : ℕ) (f : Fact) (c : CutData) → f ≡ Cut c → c.epoch ≢ e → IsOther e f
other_cut e f c q ne = subst (IsOther e) (sym q) ne

pub other_default : (e : ℕ) (f : Fact) → ((c : CutData) → f ≡ Cut c → ⊥) → IsOther e f
other_default e f h = search rules

pub up_advance : (e r p : ℕ) (f : Fact) (a : AdvanceData) → f ≡ Advance a → (a.reader ≡ r → a.epoch ≤ e → a.point ≤ p) → IsUpTo e r p f
up_advance e r p f a q h = subst (IsUpTo e r p) (sym q) h

-- a step that leaves the reader's point
pub point_step : (xs : List Fact) (i : ℕ) (f : Fact) (e r m n : ℕ) → i < length xs → f ≡ get_or xs i f → n ≡ m → (m ≡ 0) ⊎ HasAdvance (advances xs) e r m
    → All (IsUpTo e r m) (take i xs) → IsUpTo e r m f
    → (let T : Type 0 = record { there : (n ≡ 0) ⊎ HasAdvance (advances xs) e r n; top : All (IsUpTo e r n) (take (i + 1) xs) } in T)
point_step xs i f e r m n l q same there top up = record {
  there = subst (λ k. (k ≡ 0) ⊎ HasAdvance (advances xs) e r k) (sym same) there;
  top = subst (λ k. All (IsUpTo e r k) (take (i + 1) xs)) (sym same) (one_more (IsUpTo e r m) xs i f l q top up);
}

-- a fact that is no truncation, for a property of truncations alone
pub cut_default : (P : Fact → Type 0) (f : Fact) → ((r : RecordData) → P (Record r)) → ((a : AdvanceData) → P (Advance a)) → ((c : CutData) → f ≡ Cut c → ⊥)
    → P f
cut_default P (Record r) records advances h = records r
cut_default P (Cut c) records advances h = absurd (h c refl)
cut_default P (Advance a) records advances h = advances a

-- a fact that is no record, for a property of records alone
pub record_default : (P : Fact → Type 0) (f : Fact) → ((c : CutData) → P (Cut c)) → ((a : AdvanceData) → P (Advance a)) → ((r : RecordData) → f ≡ Record r → ⊥)
    → P f
record_default P (Record r) cuts advances h = absurd (h r refl)
record_default P (Cut c) cuts advances h = cuts c
record_default P (Advance a) cuts advances h = advances a

-- a fact that is no advance, for a property of advances alone
pub advance_default : (P : Fact → Type 0) (f : Fact) → ((r : RecordData) → P (Record r)) → ((c : CutData) → P (Cut c)) → ((a : AdvanceData) → f ≡ Advance a → ⊥)
    → P f
advance_default P (Record r) records cuts h = records r
advance_default P (Cut c) records cuts h = cuts c
advance_default P (Advance a) records cuts h = absurd (h a refl)

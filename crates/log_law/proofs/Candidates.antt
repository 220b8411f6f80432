-- What a backlink should name: the bounds of what is alive, and the greatest LSN among the facts before an index.
use Rattle.std.proofs.Common.{◌≡◌, ◌≢◌, ℕ, ◌+◌, ◌<◌, ◌≤◌, ◌↔◌, ◌⊎◌, inr, ⊎_elim, List, length, min, refl, sym, ap, ◌∙◌, subst, arith, Option, Some, None, rules}
use Rattle.std.specs.Prelude.{slice_get, MatchOption}
use Rattle.std.specs.List.{Contains}
use Rattle.std.proofs.lemmas.Bool.{cases_lt, cases_eq}
use Rattle.std.proofs.lemmas.Option.{none-some, same_Some, slice_get_within, get_or_from_slice_get}
use Rattle.redo_core.specs.Data.{RecordData, CutData}
use Rattle.redo_core.specs.Shape.{max_number}
use Rattle.redo_core.specs.Standing.{IsAlive}
use Rattle.redo_core.specs.Sound.{IsAliveBelow, counted}
use Rattle.redo_core.specs.declared.facts.Fact.{Fact}
use Rattle.redo_core.specs.declared.facts.Fact.TheVariants.{Record}
use Rattle.redo_core.proofs.FactParts.{record_in}
use Rattle.redo_core.proofs.SoundFacts.{place_of}
use Rattle.log_law.specs.Counted.{first_cut}
use Rattle.log_law.proofs.FirstCuts.{counted_at, at_counted}
use Rattle.log_law.proofs.Least.{same_redo}
use Rattle.log_law.specs.Targets.{IsPlaced, IsBoundTo, IsTarget}
use Rattle.log_law.specs.declared.targets.Target.{Target}

-- each fact before an index has P
abbrev pub EachBefore : List Fact → (Fact → Type 0) → ℕ → Type 0
EachBefore log P p = (q : ℕ) (f : Fact) → q < p → slice_get log q ≡ Some f → P f

pub each_more : (log : List Fact) (P : Fact → Type 0) (p : ℕ) (f : Fact) → slice_get log p ≡ Some f → P f → EachBefore log P p → EachBefore log P (p + 1)
each_more log P p f at here each q g l h = search rules

-- and so does each member, where the index is the end
pub each_member : (log : List Fact) (P : Fact → Type 0) (p : ℕ) (f : Fact) → length log ≤ p → EachBefore log P p → Contains log f → P f
each_member log P p f l each h = each h.0 f (let m : h.0 < length log = h.1 in omega arith) (place_of log f h.0 h.1 h.2)

pub bound_last : (log : List Fact) (view e : ℕ) → view ≤ e → IsBoundTo log view e max_number
bound_last log view e l n = (λ m. (m, λ c k a b. absurd (omega arith)), λ f. f.0)

pub bound_step : (log : List Fact) (view e later bound : ℕ) (o : Option CutData) → first_cut log (e + 1) ≡ o → e + 1 ≤ view → IsBoundTo log view (e + 1) later
    → MatchOption o (bound ≡ later) (λ c. bound ≡ min c.lo later) → IsBoundTo log view e bound
bound_step log view e later bound None q within next h n = (
  λ l.
      let old = (next n).0 (omega arith) in (
        old.0,
        λ c k a b. ⊎_elim
            (λ (s : c.epoch ≡ e + 1). absurd (none-some c (sym q ∙ at_counted log (e + 1) c k s)))
            (λ (s : c.epoch ≢ e + 1). old.1 c k (omega arith) b)
            (cases_eq c.epoch (e + 1)),
      ),
  λ f. let l : n ≤ later = (next n).1 (f.0, λ c k a b. f.1 c k (omega arith) b) in omega arith,
)
bound_step log view e later bound (Some d) q within next h n =
    let own = counted_at log (e + 1) d q in
    let ep : d.epoch ≡ e + 1 = own.1 in (
      λ l.
          let old = (next n).0 (omega arith) in (
            old.0,
            λ c k a b. ⊎_elim
                (λ (s : c.epoch ≡ e + 1). let u : d ≡ c = same_Some d c (sym q ∙ at_counted log (e + 1) c k s) in subst (λ x. n ≤ x.lo) u (omega arith))
                (λ (s : c.epoch ≢ e + 1). old.1 c k (omega arith) b)
                (cases_eq c.epoch (e + 1)),
          ),
      λ f.
          let l : n ≤ later = (next n).1 (f.0, λ c k a b. f.1 c k (omega arith) b) in
          let m : n ≤ d.lo = f.1 d own.0 (omega arith) (omega arith) in
          omega arith,
    )

-- alive by a bound
pub alive_within : (log : List Fact) (view epoch number bound : ℕ) → epoch ≤ view → number ≤ 281474976710655 → IsBoundTo log view epoch bound
    → IsAlive (counted log) view epoch number ↔ ((number ≤ bound) × ((c : CutData) → Contains (counted log) c → c.epoch ≡ epoch → c.hi < number))
alive_within log view epoch number bound known small b = (
  λ a. ((b number).1 (small, a.spared), a.begun),
  λ h. record { known = known; begun = h.1; spared = ((b number).0 h.0).1 },
)

-- the fact is a record that the backlink may name, and its LSN is above this one
abbrev pub IsBetter : List Fact → RecordData → (RecordData → Type 0) → ℕ → Fact → Type 0
IsBetter log r Only top f = (s : RecordData) × (f ≡ Record s) × IsAlive (counted log) r.epoch s.epoch s.number × Only s × (s.number < r.number)
    × (top < s.number)

abbrev pub IsNoBetter : List Fact → RecordData → (RecordData → Type 0) → ℕ → Fact → Type 0
IsNoBetter log r Only top f = IsBetter log r Only top f → ⊥

-- the target is that of the facts before an index
pub record IsTargetTo (log : List Fact) (r : RecordData) (Only : RecordData → Type 0) (p : ℕ) (t : Target) : Type 0 where
  pub stands : (t.number ≡ 0) ⊎ ((s : IsAliveBelow log r Only t.number) × IsPlaced log t.place (Record s.other))
  pub each : EachBefore log (IsNoBetter log r Only t.number) p

pub target_end : (log : List Fact) (r : RecordData) (Only : RecordData → Type 0) (p : ℕ) (t : Target) → length log ≤ p → IsTargetTo log r Only p t
    → IsTarget log r Only t
target_end log r Only p t l so_far = (
  so_far.stands,
  λ n b.
      let same : b.other.number ≡ n = b.number in
      let below : n < r.number = b.below in
      ⊎_elim
      (λ (q : t.number < n). absurd (each_member log (IsNoBetter log r Only t.number) p (Record b.other) l so_far.each ((record_in log b.other).0 b.among)
      (b.other, refl, b.alive, b.only, omega arith, omega arith)))
      (λ (q : n ≤ t.number). q)
      (cases_lt t.number n),
)

pub target_kept : (log : List Fact) (r : RecordData) (Only : RecordData → Type 0) (p : ℕ) (f : Fact) (t : Target) → slice_get log p ≡ Some f
    → IsNoBetter log r Only t.number f → IsTargetTo log r Only p t → IsTargetTo log r Only (p + 1) t
target_kept log r Only p f t at off so_far = search rules

pub target_new : (log : List Fact) (r : RecordData) (Only : RecordData → Type 0) (p : ℕ) (s : RecordData) (old new : Target)
    → slice_get log p ≡ Some (Record s) → new.place ≡ p + 1 → new.number ≡ s.number → IsAlive (counted log) r.epoch s.epoch s.number → Only s
    → s.number < r.number → old.number < s.number → IsTargetTo log r Only p old → IsTargetTo log r Only (p + 1) new
target_new log r Only p s old new at place number alive only below above so_far = record {
  stands = inr (
    record {
      other = s;
      among = (record_in log s).1 (p, slice_get_within log p (Record s) at, get_or_from_slice_get log p (Record s) (Record s) at);
      alive = alive;
      only = only;
      number = sym number;
      below = omega arith;
    },
    (p, place, at),
  );
  each = each_more log (IsNoBetter log r Only new.number) p (Record s) at
      (λ b. let same : s.number ≡ b.0.number = ap (λ x. x.number) (same_redo s b.0 b.1) in let l : new.number < b.0.number = b.5 in omega arith)
      (λ q f l h b. so_far.each q f l h (b.0, b.1, b.2, b.3, b.4, (let m : new.number < b.0.number = b.5 in omega arith)));
}

-- The records of a page, one after the other.
use Rattle.std.proofs.Common.{◌≡◌, ℕ, ◌<◌, ◌≤◌, ◌↔◌, ⊎_elim, List, [], sym, subst, arith, Result, IfOk, rules}
use Rattle.std.proofs.lemmas.Bool.{cases_lt}
use Rattle.redo_core.specs.Data.{RecordData}
use Rattle.redo_core.specs.Keys.{key_in, key_of, KeyBefore}
use Rattle.redo_core.specs.declared.keys.Key.{Key}
use Rattle.redo_core.specs.Order.{Lists, BeforeByNumber, PairBefore}
use Rattle.redo_core.proofs.Members.{none_in}
use Rattle.redo_core.proofs.Listing.{lists_as}
use Rattle.epoch_book.specs.Book.{BookData}
use Rattle.hot_log.specs.Alive.{IsHeldOf, IsAliveBetween, PartsAt, PartsAtKey}

-- the result, under another property
pub if_ok : {T E : Type 0} (r : Result T E) (P Q : T → Type 0) → ((v : T) → P v → Q v) → IfOk r P → IfOk r Q
if_ok r P Q f h = search rules

-- the alive records between the keys that part them at two LSNs are those between the LSNs
pub number_is : (b : BookData) (held : List RecordData) (page from to low : ℕ) (high : Key) → PartsAt b from low → PartsAtKey b to high → (r : RecordData) → IsAliveBetween b held page (key_in low from) high r ↔ IsHeldOf b held page from to r
number_is b held page from to low high above up r = (
  λ h. (
    h.0.0,
    h.0.1,
    h.0.2,
    (above.0 r.epoch r.number h.0.1).1 h.1,
    ⊎_elim
        (λ (l : to < r.number). absurd (h.2 ((up r.epoch r.number h.0.1).0 l)))
        (λ (l : r.number ≤ to). l)
        (cases_lt to r.number),
  ),
  λ h. (
    (h.0, h.1, h.2),
    (above.0 r.epoch r.number h.1).0 h.3,
    λ p. let l : to < r.number = (up r.epoch r.number h.1).1 p in let le : r.number ≤ to = h.4 in omega arith,
  ),
)

pub by_number : (b : BookData) (held : List RecordData) (page from to low : ℕ) (high : Key) (xs : List RecordData) → PartsAt b from low → PartsAtKey b to high → Lists BeforeByNumber (IsAliveBetween b held page (key_in low from) high) xs → Lists BeforeByNumber (IsHeldOf b held page from to) xs
by_number b held page from to low high xs above up lists = search (rules, lists_as, number_is)

-- there are none where the keys, or the LSNs, do not rise
pub none_between : (b : BookData) (held : List RecordData) (page from to low : ℕ) (high : Key) (xs : List RecordData) → PartsAt b from low → PartsAtKey b to high → (low ≤ high.epoch → from < to → ⊥) → xs ≡ [] → Lists BeforeByNumber (IsHeldOf b held page from to) xs
none_between b held page from to low high xs above up apart is =
    subst (λ (l : List RecordData). Lists BeforeByNumber (IsHeldOf b held page from to) l) (sym is)
    (record {
      rising = tt;
      members = λ r. (
        λ h. absurd (none_in r h),
        λ h.
            let over : KeyBefore (key_in low from) (key_of r) = (above.0 r.epoch r.number h.1).0 h.3 in
            let under : KeyBefore high (key_of r) → ⊥ = λ p. let l : to < r.number = (up r.epoch r.number h.1).1 p in let le : r.number ≤ to = h.4 in omega arith in
            let lt : from < r.number = h.3 in
            let le : r.number ≤ to = h.4 in
            absurd (apart (rise low from high.epoch high.number r.epoch r.number over under) (omega arith)),
      );
    })
  where
    rise : (a b c d e n : ℕ) → PairBefore a b e n → (PairBefore c d e n → ⊥) → a ≤ c
    rise a b c d e n p q = grind arith

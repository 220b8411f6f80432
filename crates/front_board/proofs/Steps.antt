-- A step that raises one word to a front keeps the rule.
use Rattle.std.proofs.Common.{◌≡◌, ℕ, ◌-◌, ◌≤◌, ◌⊎◌, ⊎_elim, List, length, slice_index, slice_set, max, refl, sym, subst, ◌∙◌, le_refl, arith, rules}
use Rattle.std.proofs.lemmas.Grind.{common_steps}
use mathlib.Core.Option.{some}
use lib.ListN.{get_elem?, length-set}
use Rattle.atomic_table.specs.Table.{Me, Allows, Splits, keeps}
use Rattle.atomic_table.proofs.Lists.{at_set, at_snoc, set_again}
use Rattle.redo_core.specs.declared.facts.Fact.{Fact}
use Rattle.front_board.specs.FrontWord.{IsFrontWord, AreFronts}
use Rattle.front_board.specs.Rule.{IsWithin, KeepsRule}
use Rattle.front_board.specs.Seat.{Publishes}

-- one entry and its word are replaced
within_set : (v w : List ℕ) (i y z : ℕ) → ((k : ℕ) → slice_index v k ≤ slice_index w k) → length v ≡ length w → y ≤ z → (k : ℕ)
    → slice_index (slice_set v i y) k ≤ slice_index (slice_set w i z) k
within_set v w i y z h l le k = grind (arith, common_steps)

-- one word is raised
within_raised : (f : ℕ → ℕ) (w : List ℕ) (i z : ℕ) → ((k : ℕ) → f k ≤ slice_index w k) → slice_index w i ≤ z → (k : ℕ) → f k ≤ slice_index (slice_set w i z) k
within_raised f w i z h up k = grind (arith, common_steps)

-- what each word has
each_after_set : (P : ℕ → Type 0) (w : List ℕ) (i z : ℕ) → ((k : ℕ) → P (slice_index w k)) → P z → (k : ℕ) → P (slice_index (slice_set w i z) k)
each_after_set P w i z h p k = grind (arith, common_steps)

pub fronts_after_set : (log : List Fact) (words : List ℕ) (node word : ℕ) → AreFronts log words → IsFrontWord log word
    → AreFronts log (slice_set words node word)
fronts_after_set log words node word all front = record { each = each_after_set (IsFrontWord log) words node word all.each front }

-- a step that raises a word, and after which the seat knows the new word
pub raise_keeps : {S : Type 0} (log : List Fact) (slots id : ℕ) (me : Me S (List ℕ)) (i : ℕ) (f : ℕ → ℕ) → ((n : ℕ) → n ≤ f n)
    → ((n : ℕ) → IsFrontWord log n → IsFrontWord log (f n))
    → Allows {S = S} (λ s. KeepsRule log s.words s.views) slots id me i f
    (λ n w. IsFrontWord log n × (slice_index me.0 i ≤ n) × (w ≡ (slice_set me.0 i (f n), me.1)))
raise_keeps log slots id me i f up fronts s kept homes at bound =
    let n = slice_index s.words i in
    let mine = kept.within id me.0 at in
    let words' = slice_set s.words i (f n) in
    let own : IsWithin (slice_set me.0 i (f n)) words' = record {
      same = length-set me.0 i (f n) ∙ (mine.same ∙ sym (length-set s.words i (f n)));
      each = within_set me.0 s.words i (f n) (f n) mine.each mine.same (le_refl (f n));
    } in (
      slice_set me.0 i (f n),
      keeps,
      tt,
      record {
        fronts = fronts_after_set log s.words i (f n) kept.fronts (fronts n (kept.fronts.each i));
        within = λ seat seen e. ⊎_elim
            (λ t. subst (λ u. IsWithin u words') t.1 own)
            (λ t. let theirs = kept.within seat seen t.1 in record {
              same = theirs.same ∙ sym (length-set s.words i (f n));
              each = within_raised (slice_index seen) s.words i (f n) theirs.each (up n);
            })
            (at_set s.views id seat (slice_set me.0 i (f n)) seen e);
      },
      (kept.fronts.each i, mine.each i, refl),
    )

-- a seat that knows the same
pub split_keeps : {S : Type 0} (log : List Fact) (id : ℕ) (v : List ℕ) → Splits {S = S} (λ s. KeepsRule log s.words s.views) id v v v
split_keeps log id v s kept at = record {
  fronts = kept.fronts;
  within = λ seat seen e. ⊎_elim
      (λ was. kept.within seat seen (subst (λ l. get_elem? l seat ≡ some seen) (set_again s.views id v at) was))
      (λ (same : v ≡ seen). subst (λ u. IsWithin u s.words) same (kept.within id v at))
      (at_snoc (slice_set s.views id v) v seen seat e);
}

max_is_either : (n k : ℕ) → (max n k ≡ n) ⊎ (max n k ≡ k)
max_is_either n k = grind arith

pub max_above : (n k : ℕ) → n ≤ max n k
max_above n k = omega arith

-- the greater of two fronts is a front
pub max_is_front : (log : List Fact) (n k : ℕ) → IsFrontWord log k → IsFrontWord log n → IsFrontWord log (max n k)
max_is_front log n k a b = search (rules, max_is_either)

-- what a seat that publishes finds
pub publishes : (log : List Fact) (seen old new : List ℕ) (node word published found : ℕ) → seen ≡ old → word ≡ published → IsFrontWord log found
    → slice_index seen (node - 1) ≤ found → new ≡ slice_set seen (node - 1) (max found word) → Publishes log old new node published
publishes log seen old new node word published found same value front above entry = search rules

-- after a step of one word the entries are still fronts
pub fronts_after_raise : (log : List Fact) (seen new : List ℕ) (node word found : ℕ) → AreFronts log seen → IsFrontWord log word → IsFrontWord log found
    → new ≡ slice_set seen node (max found word) → AreFronts log new
fronts_after_raise log seen new node word found all front front' entry = search (rules, fronts_after_set)

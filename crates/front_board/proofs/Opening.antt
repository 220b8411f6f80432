-- A board at its opening: each word holds the front (0, 0), which every log has.
use Rattle.std.proofs.Common.{◌≡◌, ℕ, List, [], ◌∷◌, replicate, slice_index, sym, subst, arith, rules}
use Rattle.std.proofs.lemmas.Grind.{common_steps}
use Rattle.redo_core.specs.Linked.Linked.{start}
use Rattle.redo_core.specs.declared.facts.Fact.{Fact}
use Rattle.front_board.specs.FrontWord.{IsFrontWord, AreFronts}
use Rattle.front_board.specs.Rule.{KeepsRule}

zero_at : (n k : ℕ) → slice_index (replicate n 0) k ≡ 0
zero_at n k = grind (arith, common_steps)

zero_front : (log : List Fact) → IsFrontWord log 0
zero_front log = ((λ e l m. absurd (omega (arith, l, m))), start)

pub zeros_are_fronts : (log : List Fact) (n : ℕ) → AreFronts log (replicate n 0)
zeros_are_fronts log n = record { each = λ k. subst (IsFrontWord log) (sym (zero_at n k)) (zero_front log) }

pub open_keeps : (log : List Fact) (n : ℕ) → KeepsRule log (replicate n 0) (replicate n 0 ∷ [])
open_keeps log n = search (rules, zeros_are_fronts)

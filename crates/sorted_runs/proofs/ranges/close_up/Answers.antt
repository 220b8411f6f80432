use Rattle.std.proofs.Common.{◌≡◌, ℕ, ◌+◌, ◌-◌, ◌≤◌, ◌<◌, List, [], ◌∷◌, length, get_or, take, drop, refl, sym, ◌∙◌, ⊎_elim, arith, rules}
use Rattle.std.proofs.lemmas.Bool.{cases_lt}
use Rattle.std.proofs.lemmas.List.{ext_get_or, get_or-take, get_or-drop, get_or_append_left, get_or-append_right}
use Rattle.std.specs.List.{remove_range}
use Rattle.sorted_runs.proofs.Lists.{take_long}
use Rattle.sorted_runs.proofs.Gone.{long_range, none_left}
use Rattle.sorted_runs.proofs.ranges.close_up.Goals as goal

-- a list whose elements after a gap have moved down to where it begins
closed : {X : Type 0} (xs row : List X) (from gap place : ℕ) → length row ≡ length xs → from + gap ≤ length xs → length xs - gap ≤ place → ((k : ℕ) (d : X) → k < from → get_or row k d ≡ get_or xs k d)
    → ((k : ℕ) (d : X) → from ≤ k → k < place → get_or row k d ≡ get_or xs (from + gap + (k - from)) d) → take (length xs - gap) row ≡ remove_range xs from (from + gap)
closed {X} [] row from gap place long le end kept moved =
    let taken : length (take (0 - gap) row) ≡ 0 - gap = take_long row (0 - gap) (omega arith) in
    let none : List X = [] in
    let cut = long_range none from (from + gap) (omega arith) le in
    sym (none_left (take (0 - gap) row) (omega arith)) ∙ none_left (remove_range none from (from + gap)) (omega arith)
closed (x ∷ xs) row from gap place long le end kept moved =
    let all = x ∷ xs in
    let left = length all - gap in
    let taken : length (take left row) ≡ left = take_long row left (omega arith) in
    let front : length (take from all) ≡ from = take_long all from (omega arith) in
    let cut = long_range all from (from + gap) (omega arith) le in
    ext_get_or x (take left row) (remove_range all from (from + gap)) (omega arith) (λ k lt. get_or-take left row k x (omega arith) ∙ ⊎_elim
    (λ below. kept k x below ∙ sym (get_or_append_left (take from all) (drop (from + gap) all) x k (omega arith) ∙ get_or-take from all k x below))
    (λ above. moved k x above (omega arith) ∙ sym (get_or-append_right (take from all) (drop (from + gap) all) from k x front above ∙ get_or-drop (from + gap) all (k - from) x))
    (cases_lt k from))

pub loop-place-init : goal.loop-place-init
loop-place-init g c = record { kept = λ k d lt. refl; moved = λ k d ge lt. absurd (omega arith); rest = λ k d ge. refl }

pub loop-place-preserved : goal.loop-place-preserved
loop-place-preserved g c = search rules

pub returns-clause-closed : goal.returns-clause-closed
returns-clause-closed g c = search (rules, closed)

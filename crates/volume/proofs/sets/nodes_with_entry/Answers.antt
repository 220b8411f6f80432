use Rattle.std.proofs.Common.{◌≡◌, ◌<◌, ◌≤◌, ◌+◌, ◌++◌, ◌∷◌, [], length, take, slice_set, slice_index_or, is_some, Option, None, ℕ, List, Bool, ◌∙◌, ap, sym, subst, arith}
use Rattle.std.proofs.lemmas.List.{map_more, take_more_set, take_all, length-set}
use Rattle.volume.specs.Sets.{marks_of}
use Rattle.volume.proofs.sets.nodes_with_entry.Goals as goal

one_more : (set : List Bool) (table : List (Option ℕ)) (i : ℕ) → i < length set → i < length table → take i set ≡ marks_of (take i table)
    → take (i + 1) (slice_set set i (is_some (slice_index_or table i None))) ≡ marks_of (take (i + 1) table)
one_more set table i in_set in_table before =
    take_more_set set i (is_some (slice_index_or table i None)) in_set
    ∙ ap (λ xs. xs ++ is_some (slice_index_or table i None) ∷ []) before
    ∙ sym (map_more (λ b. is_some b) table i None in_table)

pub loop-place-preserved : goal.loop-place-preserved
loop-place-preserved c =
    let set = c.loop-place.set in let table = c.args.table.now in let i = c.loop-place.place in
    let before = c.loop-place.invariant.1 in
    let in_set : i < length set = omega (arith, c.loop-place.invariant.0) in
    let in_table : i < length table = omega arith in (
      length-set set i c.is_some.result ∙ c.loop-place.invariant.0,
      subst (λ b. take (i + 1) (slice_set set i b) ≡ marks_of (take (i + 1) table)) (sym c.is_some.ensures) (one_more set table i in_set in_table before),
    )

pub returns : goal.returns
returns c =
    let set = c.loop-place.set in let table = c.args.table.now in let i = c.loop-place.place in
    let all_set : length set ≤ i = omega (arith, c.loop-place.invariant.0) in
    let all_table : length table ≤ i = omega arith in
    sym (take_all i set all_set) ∙ c.loop-place.invariant.1 ∙ ap marks_of (take_all i table all_table)

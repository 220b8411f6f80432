use Rattle.std.proofs.Common.{◌≡◌, ◌&&◌, Bool, eqb, true, arith, subst}
use Rattle.std.proofs.lemmas.Bool.Decides.{nat_tests}
use Rattle.std.proofs.lemmas.Slice.Eq.{slice_eq-Decides}
use Rattle.redo_core.specs.declared.keys.Key.{Key}
use Rattle.hot_log.proofs.KeySearch.{are_one}
use Rattle.segment_join.proofs.covering.are_same_keys.Goals as goal

abbrev same : Key → Key → Bool
same k l = eqb k.epoch l.epoch && eqb k.number l.number

same_itself : (k : Key) → same k k ≡ true
same_itself k = grind (arith, nat_tests)

pub returns : goal.returns
returns c =
    (slice_eq-Decides {A = Key} {E = same} (λ k l. (are_one k l, λ e. subst (λ x. same k x ≡ true) e (same_itself k)))
    c.args.own.now c.args.others.now c.eq.result c.eq.ensures).0

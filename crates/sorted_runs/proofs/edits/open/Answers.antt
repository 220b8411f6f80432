use Rattle.std.proofs.lemmas.Grind.{common_steps}
use Rattle.std.proofs.Common.{List, [], ◌∷◌, ◌++◌, arith, ap, ◌∙◌}
use Rattle.std.specs.Global.{Vec}
use Rattle.std.specs.List.{insert}
use Rattle.sorted_runs.proofs.Lists.{as_many}
use Rattle.sorted_runs.proofs.Shaped.{kept_ok, opened_shape, opened_gains}
use Rattle.sorted_runs.proofs.edits.open.Goals as goal

pub put_in-requires : goal.put_in-requires
put_in-requires g c = omega (arith, as_many)

pub returns-clause-shaped : goal.returns-clause-shaped
returns-clause-shaped g c =
    let run_is = c.in_ok-push.ensures.items ∙ ap (λ l. l ++ (c.args.key, c.args.value) ∷ []) c.new-run.ensures.items in
    let first_is = kept_ok c.put_in.result _ _ _ (c.put_in.ensures.succeeds (let h = c.in-Ok.ensures.ok in omega arith)) c.put_in.ensures.items ∙ ap (λ l. insert l c.args.r c.args.key) c.reserve.ensures.items in
    let runs_is = kept_ok c.put_in-2.result _ _ _ (c.put_in-2.ensures.succeeds (let h = c.in-Ok-reserve.ensures.ok in omega arith)) c.put_in-2.ensures.items ∙ ap (λ (l : List (Vec _)). insert l c.args.r c.push.new.self) c.reserve-2.ensures.items in
    rw (first_is, runs_is) (opened_shape c.args.firsts.now.items c.args.runs.now.items c.args.r (c.args.key, c.args.value) c.push.new.self c.requires.shaped run_is)

pub returns-clause-gains : goal.returns-clause-gains
returns-clause-gains g c =
    let run_is = c.in_ok-push.ensures.items ∙ ap (λ l. l ++ (c.args.key, c.args.value) ∷ []) c.new-run.ensures.items in
    let runs_is = kept_ok c.put_in-2.result _ _ _ (c.put_in-2.ensures.succeeds (let h = c.in-Ok-reserve.ensures.ok in omega arith)) c.put_in-2.ensures.items ∙ ap (λ (l : List (Vec _)). insert l c.args.r c.push.new.self) c.reserve-2.ensures.items in
    rw runs_is (opened_gains c.args.runs.now.items c.args.r (c.args.key, c.args.value) c.push.new.self run_is)

pub returns-in_default-reserve-clause-unchanged : goal.returns-in_default-reserve-clause-unchanged
returns-in_default-reserve-clause-unchanged g c = grind (arith, common_steps)

pub returns-in_err-push-clause-returned : goal.returns-in_err-push-clause-returned
returns-in_err-push-clause-returned g c = grind (arith, common_steps)

pub returns-in_default-reserve-clause-shaped : goal.returns-in_default-reserve-clause-shaped
returns-in_default-reserve-clause-shaped g c = grind (arith, common_steps)

pub returns-in_default-clause-shaped : goal.returns-in_default-clause-shaped
returns-in_default-clause-shaped g c = grind (arith, common_steps)

pub put_in-requires-2 : goal.put_in-requires-2
put_in-requires-2 g c = grind (arith, common_steps)

pub returns-in_err-push-clause-shaped : goal.returns-in_err-push-clause-shaped
returns-in_err-push-clause-shaped g c = grind (arith, common_steps)

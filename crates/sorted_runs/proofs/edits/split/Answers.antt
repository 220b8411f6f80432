use Rattle.std.proofs.lemmas.Grind.{common_steps}
use Rattle.std.proofs.Common.{◌≡◌, length, length-drop, ap, arith, rules}
use Rattle.sorted_runs.proofs.Lists.{as_many}
use Rattle.sorted_runs.proofs.Shaped.{kept_ok, split_all, cut_in, split_failed}
use Rattle.sorted_runs.proofs.edits.split.Goals as goal

pub put_in-requires : goal.put_in-requires
put_in-requires g c = omega (arith, as_many)

pub returns-clause-shaped : goal.returns-clause-shaped
returns-clause-shaped g c =
    let first_is = kept_ok c.put_in.result _ _ _ (c.put_in.ensures.succeeds (let h = c.in_ok-reserve.ensures.ok in omega arith)) c.put_in.ensures.items in
    let runs_is = kept_ok c.put_in-2.result _ _ _ (c.put_in-2.ensures.succeeds (let h = c.in_ok-reserve-2.ensures.ok in omega arith)) c.put_in-2.ensures.items in
    let d = c.index_mut-run.result.now in
    let all = split_all c.reserve.new.self.items c.args.firsts.now.items c.reserve-2.new.self.items c.args.runs.now.items c.args.r c.args.cut c.index.result.now d c.split_off.new.self c.in_ok-rest.rest c.put_in.new.list.items c.put_in-2.new.list.items c.requires.shaped c.reserve.ensures.items c.reserve-2.ensures.items c.requires.within c.index_mut-run.ensures.value c.requires.some (c.requires.place d) c.in_ok-rest.ensures.items c.in_ok-rest.ensures.tail c.index.ensures first_is runs_is in
    all.shaped

pub returns-clause-same : goal.returns-clause-same
returns-clause-same g c =
    let first_is = kept_ok c.put_in.result _ _ _ (c.put_in.ensures.succeeds (let h = c.in_ok-reserve.ensures.ok in omega arith)) c.put_in.ensures.items in
    let runs_is = kept_ok c.put_in-2.result _ _ _ (c.put_in-2.ensures.succeeds (let h = c.in_ok-reserve-2.ensures.ok in omega arith)) c.put_in-2.ensures.items in
    let d = c.index_mut-run.result.now in
    let all = split_all c.reserve.new.self.items c.args.firsts.now.items c.reserve-2.new.self.items c.args.runs.now.items c.args.r c.args.cut c.index.result.now d c.split_off.new.self c.in_ok-rest.rest c.put_in.new.list.items c.put_in-2.new.list.items c.requires.shaped c.reserve.ensures.items c.reserve-2.ensures.items c.requires.within c.index_mut-run.ensures.value c.requires.some (c.requires.place d) c.in_ok-rest.ensures.items c.in_ok-rest.ensures.tail c.index.ensures first_is runs_is in
    all.same

pub returns-clause-cuts : goal.returns-clause-cuts
returns-clause-cuts g c =
    let first_is = kept_ok c.put_in.result _ _ _ (c.put_in.ensures.succeeds (let h = c.in_ok-reserve.ensures.ok in omega arith)) c.put_in.ensures.items in
    let runs_is = kept_ok c.put_in-2.result _ _ _ (c.put_in-2.ensures.succeeds (let h = c.in_ok-reserve-2.ensures.ok in omega arith)) c.put_in-2.ensures.items in
    let d = c.index_mut-run.result.now in
    let all = split_all c.reserve.new.self.items c.args.firsts.now.items c.reserve-2.new.self.items c.args.runs.now.items c.args.r c.args.cut c.index.result.now d c.split_off.new.self c.in_ok-rest.rest c.put_in.new.list.items c.put_in-2.new.list.items c.requires.shaped c.reserve.ensures.items c.reserve-2.ensures.items c.requires.within c.index_mut-run.ensures.value c.requires.some (c.requires.place d) c.in_ok-rest.ensures.items c.in_ok-rest.ensures.tail c.index.ensures first_is runs_is in
    all.splits

pub overflow_add-r : goal.overflow_add-r
overflow_add-r g c =
    let lt = c.requires.within in
    let fits = c.args.runs.now.ok in
    omega arith

pub overflow_add-r-2 : goal.overflow_add-r-2
overflow_add-r-2 g c =
    let lt = c.requires.within in
    let fits = c.args.runs.now.ok in
    omega arith

pub split_off-requires : goal.split_off-requires
split_off-requires g c =
    let lt = cut_in c.reserve-2.new.self.items c.args.runs.now.items c.args.r c.index_mut-run.result.now c.reserve-2.ensures.items c.index_mut-run.ensures.value c.args.cut (c.requires.place c.index_mut-run.result.now) in
    omega arith

pub index-requires : goal.index-requires
index-requires g c =
    let lt = cut_in c.reserve-2.new.self.items c.args.runs.now.items c.args.r c.index_mut-run.result.now c.reserve-2.ensures.items c.index_mut-run.ensures.value c.args.cut (c.requires.place c.index_mut-run.result.now) in
    let rest = ap (λ l. length l) c.in_ok-rest.ensures.tail in
    let left = length-drop c.args.cut c.index_mut-run.result.now.items in
    omega arith

pub returns-in_err-rest-clause-shaped : goal.returns-in_err-rest-clause-shaped
returns-in_err-rest-clause-shaped g c =
    let kept : c.split_off.new.self.items ≡ c.index_mut-run.result.now.items = search rules in
    (split_failed c.reserve-2.new.self.items c.args.runs.now.items c.args.r c.index_mut-run.result.now c.reserve-2.ensures.items c.index_mut-run.ensures.value c.reserve.new.self.items c.args.firsts.now.items c.split_off.new.self c.requires.shaped c.reserve.ensures.items c.requires.within kept).0

pub returns-in_err-rest-clause-same : goal.returns-in_err-rest-clause-same
returns-in_err-rest-clause-same g c =
    let kept : c.split_off.new.self.items ≡ c.index_mut-run.result.now.items = search rules in
    (split_failed c.reserve-2.new.self.items c.args.runs.now.items c.args.r c.index_mut-run.result.now c.reserve-2.ensures.items c.index_mut-run.ensures.value c.reserve.new.self.items c.args.firsts.now.items c.split_off.new.self c.requires.shaped c.reserve.ensures.items c.requires.within kept).1

pub returns-in_err-reserve-2-clause-shaped : goal.returns-in_err-reserve-2-clause-shaped
returns-in_err-reserve-2-clause-shaped g c = grind (arith, common_steps)

pub put_in-requires-2 : goal.put_in-requires-2
put_in-requires-2 g c = grind (arith, common_steps)

use Rattle.std.proofs.Common.{length, refl, ap, ◌∙◌, arith}
use Rattle.std.specs.Global.{Vec}
use Rattle.std.proofs.lemmas.List.{get_or_default}
use Rattle.sorted_runs.proofs.Gone.{over_loses, one_long, two_long, still_there}
use Rattle.sorted_runs.proofs.ranges.cut_over.Goals as goal

pub returns-clause-loses : goal.returns-clause-loses
returns-clause-loses g c =
    let d = c.index.result.now in
    let same = ap (λ (v : Vec _). length v.items) c.index.ensures in
    let long = d.ok in
    let end = c.len-end.ensures in
    over_loses c.args.runs.now.items c.cut_run-left.new.runs.items c.cut_whole-left.new.runs.items c.args.from.run c.args.to.run c.requires.rising c.requires.to_within c.cut_run-left.ensures.before c.cut_whole-left.ensures.before c.args.from.at c.args.to.at c.len-end.result d c.cut_run.new.runs.items (c.requires.from_place d) (omega arith) c.cut_run-left.ensures.loses c.cut_whole-left.ensures.loses c.cut_run.ensures.loses

pub cut_whole-left-requires-clause-within : goal.cut_whole-left-requires-clause-within
cut_whole-left-requires-clause-within g c =
    let one = c.cut_run-left.new.runs.items in
    one_long c.args.runs.now.items one one c.args.from.run c.args.to.run c.requires.rising c.requires.to_within c.cut_run-left.ensures.before refl

pub index-requires : goal.index-requires
index-requires g c =
    let lt = two_long c.args.runs.now.items c.cut_run-left.new.runs.items c.cut_whole-left.new.runs.items c.args.from.run c.args.to.run c.requires.rising c.requires.to_within c.cut_run-left.ensures.before c.cut_whole-left.ensures.before in
    omega arith

pub cut_run-requires-clause-within : goal.cut_run-requires-clause-within
cut_run-requires-clause-within g c = two_long c.args.runs.now.items c.cut_run-left.new.runs.items c.cut_whole-left.new.runs.items c.args.from.run c.args.to.run c.requires.rising c.requires.to_within c.cut_run-left.ensures.before c.cut_whole-left.ensures.before

pub cut_run-requires-clause-rising : goal.cut_run-requires-clause-rising
cut_run-requires-clause-rising g c =
    let d = c.index.result.now in
    let read = ap (λ (v : Vec _). length v.items) c.index.ensures in
    let still = ap (λ (v : Vec _). length v.items) (still_there c.args.runs.now.items c.cut_run-left.new.runs.items c.cut_whole-left.new.runs.items c.args.from.run c.args.to.run c.requires.rising c.requires.to_within c.cut_run-left.ensures.before c.cut_whole-left.ensures.before d) in
    let within = c.requires.from_place d in
    let end = c.len-end.ensures in
    omega arith

pub cut_run-requires-clause-place : goal.cut_run-requires-clause-place
cut_run-requires-clause-place g c = λ m.
    let d = c.index.result.now in
    let read = ap (λ (v : Vec _). length v.items) (c.index.ensures ∙ get_or_default c.cut_whole-left.new.runs.items c.args.from.run d m (cut_run-requires-clause-within g c)) in
    let end = c.len-end.ensures in
    omega arith

use Rattle.std.proofs.Common.{rules, ◌<◌, length, arith}
use Rattle.sorted_runs.proofs.Lists.{firsts_rise, in_runs, sorted_run}
use Rattle.sorted_runs.proofs.Placed.{gap_place}
use Rattle.sorted_runs.proofs.Removed.{hit_place}
use Rattle.sorted_runs.proofs.Cuts.{cut_hit, cut_behind, cut_gap}
use Rattle.sorted_runs.proofs.search.place_of.Goals as goal

pub run_for-run-requires-clause-rising : goal.run_for-run-requires-clause-rising
run_for-run-requires-clause-rising g c = firsts_rise g.met.K.Ord.total c.args.key.now _ _ _ c.requires.whole

pub offset_bounds-runs-run : goal.offset_bounds-runs-run
offset_bounds-runs-run g c =
    let lt : c.run_for-run.result < length c.args.runs.now = in_runs g.met.K.Ord.total c.args.key.now c.args.firsts.now c.args.runs.now _ c.requires.whole c.run_for-run.result c.run_for-run.ensures in
    search rules

pub bounds-runs-run : goal.bounds-runs-run
bounds-runs-run g c = in_runs g.met.K.Ord.total c.args.key.now c.args.firsts.now c.args.runs.now _ c.requires.whole c.run_for-run.result c.run_for-run.ensures

pub slot-requires : goal.slot-requires
slot-requires g c =
    sorted_run g.met.K.Ord.total c.args.key.now c.args.firsts.now c.args.runs.now _ c.requires.whole c.run_for-run.result c.run_for-run.ensures c.index-runs-run.result c.index-runs-run.is c.deref.result.now c.deref.ensures.value

pub returns-in-Ok-clause-within : goal.returns-in-Ok-clause-within
returns-in-Ok-clause-within g c = in_runs g.met.K.Ord.total c.args.key.now c.args.firsts.now c.args.runs.now _ c.requires.whole c.run_for-run.result c.run_for-run.ensures

pub returns-in-Ok-clause-place : goal.returns-in-Ok-clause-place
returns-in-Ok-clause-place g c = λ d.
    let h = hit_place g.met.K.Ord.total c.args.key.now c.args.firsts.now c.args.runs.now _ c.requires.whole c.run_for-run.result c.run_for-run.ensures c.index-runs-run.result c.index-runs-run.is c.deref.result.now c.deref.ensures.value c.in-Ok.at c.in-Ok.ensures.hit d in
    omega arith

pub returns-in-Ok-clause-cut : goal.returns-in-Ok-clause-cut
returns-in-Ok-clause-cut g c =
    cut_behind g.met.K.Ord.total c.args.key.now c.args.firsts.now c.args.runs.now _ c.requires.whole c.run_for-run.result c.run_for-run.ensures c.index-runs-run.result c.index-runs-run.is c.deref.result.now c.deref.ensures.value c.args.past c.in-Ok.at c.in-Ok.ensures.hit c.if-past.true

pub returns-in-Ok-2-clause-within : goal.returns-in-Ok-2-clause-within
returns-in-Ok-2-clause-within g c = in_runs g.met.K.Ord.total c.args.key.now c.args.firsts.now c.args.runs.now _ c.requires.whole c.run_for-run.result c.run_for-run.ensures

pub returns-in-Ok-2-clause-place : goal.returns-in-Ok-2-clause-place
returns-in-Ok-2-clause-place g c = λ d.
    let h = hit_place g.met.K.Ord.total c.args.key.now c.args.firsts.now c.args.runs.now _ c.requires.whole c.run_for-run.result c.run_for-run.ensures c.index-runs-run.result c.index-runs-run.is c.deref.result.now c.deref.ensures.value c.in-Ok.at c.in-Ok.ensures.hit d in
    omega arith

pub returns-in-Ok-2-clause-cut : goal.returns-in-Ok-2-clause-cut
returns-in-Ok-2-clause-cut g c =
    cut_hit g.met.K.Ord.total c.args.key.now c.args.firsts.now c.args.runs.now _ c.requires.whole c.run_for-run.result c.run_for-run.ensures c.index-runs-run.result c.index-runs-run.is c.deref.result.now c.deref.ensures.value c.args.past c.in-Ok.at c.in-Ok.ensures.hit c.if-past.false

pub returns-in-Err-clause-within : goal.returns-in-Err-clause-within
returns-in-Err-clause-within g c = in_runs g.met.K.Ord.total c.args.key.now c.args.firsts.now c.args.runs.now _ c.requires.whole c.run_for-run.result c.run_for-run.ensures

pub returns-in-Err-clause-place : goal.returns-in-Err-clause-place
returns-in-Err-clause-place g c = λ d.
    gap_place g.met.K.Ord.total c.args.key.now c.args.firsts.now c.args.runs.now _ c.requires.whole c.run_for-run.result c.run_for-run.ensures c.index-runs-run.result c.index-runs-run.is c.deref.result.now c.deref.ensures.value c.in-Err.at d c.in-Err.ensures.gap

pub returns-in-Err-clause-cut : goal.returns-in-Err-clause-cut
returns-in-Err-clause-cut g c =
    cut_gap g.met.K.Ord.total c.args.key.now c.args.firsts.now c.args.runs.now _ c.requires.whole c.run_for-run.result c.run_for-run.ensures c.index-runs-run.result c.index-runs-run.is c.deref.result.now c.deref.ensures.value c.args.past c.in-Err.at c.in-Err.ensures.gap

use Rattle.redo_wire.specs.Lists.{each_at}
use Rattle.redo_wire.proofs.Failures.{handed_on}
use Rattle.redo_wire.proofs.Loops.{starts, goes_on, ends, is_done}
use Rattle.redo_wire.proofs.lists.read_list.Goals as goal

pub returns-in_err-item : goal.returns-in_err-item
returns-in_err-item g c =
    let e = c.in_err-item.field-0.0 in
    let total = each_at (g.R.ListReader.step c.args.reader) g.R.ListReader.next c.args.count c.args.start c.args.bytes.now in
    handed_on _ c.from_residual-in_err-item.result e total c.from_residual-in_err-item.ensures.1
    (ends (g.R.ListReader.step c.args.reader) g.R.ListReader.next e c.loop.items.items c.args.count c.loop.counter c.loop.state c.loop.rest.now total
    c.loop-test.true c.in_err-item.ensures c.loop.invariant)

pub loop-init : goal.loop-init
loop-init g c =
    starts (g.R.ListReader.step c.args.reader) g.R.ListReader.next c.in_ok-items.items.items c.args.count c.args.start c.args.bytes.now c.in_ok-items.ensures.items

pub loop-preserved : goal.loop-preserved
loop-preserved g c =
    goes_on (g.R.ListReader.step c.args.reader) g.R.ListReader.next c.loop.items.items c.args.count c.loop.counter c.loop.state c.loop.rest.now
    c.in_ok-item.item c.in_ok-item.after.now (each_at (g.R.ListReader.step c.args.reader) g.R.ListReader.next c.args.count c.args.start c.args.bytes.now)
    c.push.new.self.items c.state_after-state.result c.loop-test.true c.in_ok-item.ensures c.loop.invariant c.in_ok-push.ensures.items c.state_after-state.ensures

pub returns : goal.returns
returns g c =
    is_done (g.R.ListReader.step c.args.reader) g.R.ListReader.next c.loop.items.items c.args.count c.loop.counter c.loop.state c.loop.rest.now
    (each_at (g.R.ListReader.step c.args.reader) g.R.ListReader.next c.args.count c.args.start c.args.bytes.now) c.loop-test.false c.loop.invariant

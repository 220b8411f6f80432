use Rattle.std.proofs.Common.{◌≡◌, ◌∙◌, ap, sym, subst, Some, ◌-◌}
use Rattle.std.specs.Prelude.{slice_get}
use Rattle.node_threads.proofs.Places.{also_at}
use Rattle.fleet_drill.proofs.Lists.{named_same, was_at}
use Rattle.thread_cases.proofs.worker_calls.missing.serve_fewer_inlets.Goals as goal

pub serve-requires-clause-feeds : goal.serve-requires-clause-feeds
serve-requires-clause-feeds g c κs within = λ k f i ef named.
    let fewer = c.drop_last.ensures in
    let x = also_at c.args.setup.inlets.items c.args.setup.feeds.items k f (c.args.setup.len.0 ∙ sym c.args.setup.len.1) ef in
    let t = c.args.setup.feeds_fit.at k x.0 f x.1 ef in
    let there = was_at c.args.setup.inlets.items c.drop_last.new.items.items fewer.0 (f.inlet - 1) i fewer.1 named.1 in
    t.1 ∙ ap (λ z. z.intake.id) (named_same c.args.setup.inlets.items f.inlet k x.0 i t.0 there x.1)

pub serve-requires-clause-inlets : goal.serve-requires-clause-inlets
serve-requires-clause-inlets g c κs within = λ k i ei.
    let fewer = c.drop_last.ensures in
    let old = was_at c.args.setup.inlets.items c.drop_last.new.items.items fewer.0 k i fewer.1 ei in
    let x = also_at c.args.setup.nodes.items c.args.setup.inlets.items k i c.args.setup.len.1 old in
    let t = c.args.setup.inlets_fit.at k x.0 i x.1 old in (t.1, t.2)

pub serve-requires-clause-passes : goal.serve-requires-clause-passes
serve-requires-clause-passes g c κs within = λ k i n ei named.
    let fewer = c.drop_last.ensures in
    let old = was_at c.args.setup.inlets.items c.drop_last.new.items.items fewer.0 k i fewer.1 ei in
    let x = also_at c.args.setup.nodes.items c.args.setup.inlets.items k i c.args.setup.len.1 old in
    let t = c.args.setup.inlets_fit.at k x.0 i x.1 old in
    let here : slice_get c.args.setup.nodes.items (i.node - 1) ≡ Some n = subst (λ ns. slice_get ns (i.node - 1) ≡ Some n) c.as_slice-lent.ensures.value named.1 in
    let same = named_same c.args.setup.nodes.items i.node k x.0 n t.0 here x.1 in
    (t.3.0 ∙ ap (λ m. m.lock) same, t.3.1)

use Rattle.std.proofs.Common.{◌≡◌, ◌∙◌, ap, sym, subst, Some, ◌++◌, is_some, ◌-◌}
use Rattle.std.specs.Prelude.{slice_get}
use Rattle.node_threads.specs.Work.{receipts_in}
use Rattle.node_threads.proofs.Places.{also_at}
use Rattle.fleet_drill.proofs.Lists.{named_same, some_same}
use Rattle.fleet_drill.proofs.working.work.Goals as goal

pub serve-requires-clause-feeds : goal.serve-requires-clause-feeds
serve-requires-clause-feeds g c κs within = λ k f i ef named.
    let x = also_at c.args.floor.inlets.items c.args.floor.feeds.items k f (c.args.floor.len.0 ∙ sym c.args.floor.len.1) ef in
    let t = c.args.floor.feeds_fit.at k x.0 f x.1 ef in
    t.1 ∙ ap (λ z. z.intake.id) (named_same c.args.floor.inlets.items f.inlet k x.0 i t.0 named.1 x.1)

pub serve-requires-clause-inlets : goal.serve-requires-clause-inlets
serve-requires-clause-inlets g c κs within = λ k i ei.
    let x = also_at c.args.floor.nodes.items c.args.floor.inlets.items k i c.args.floor.len.1 ei in
    let t = c.args.floor.inlets_fit.at k x.0 i x.1 ei in (t.1, t.2)

pub serve-requires-clause-passes : goal.serve-requires-clause-passes
serve-requires-clause-passes g c κs within = λ k i n ei named.
    let x = also_at c.args.floor.nodes.items c.args.floor.inlets.items k i c.args.floor.len.1 ei in
    let t = c.args.floor.inlets_fit.at k x.0 i x.1 ei in
    let here : slice_get c.args.floor.nodes.items (i.node - 1) ≡ Some n = subst (λ ns. slice_get ns (i.node - 1) ≡ Some n) c.as_slice-lent.ensures.value named.1 in
    let same = named_same c.args.floor.nodes.items i.node k x.0 n t.0 here x.1 in
    (t.3.0 ∙ ap (λ m. m.lock) same, t.3.1)

pub invariant_of-result : goal.invariant_of-result
invariant_of-result g c =
    let served = c.in-Ok.ensures in
    record {
      len = (served.len.1 ∙ c.args.floor.len.1, served.len.2 ∙ c.args.floor.len.1);
      numbers = c.args.floor.numbers;
      passes = λ all. record {
        at = λ k n s en es.
            let i = also_at c.args.floor.inlets.items c.args.floor.nodes.items k n (sym c.args.floor.len.1) en in
            let t = c.args.floor.inlets_fit.at k n i.0 en i.1 in
            let r = (served.inlets all).at k i.0 s i.1 es in
            let a = also_at c.in-Ok.served.answers.items c.args.floor.inlets.items k i.0 (sym served.len.2) i.1 in
            let w = (r.5 a.0 a.1).0 in (
              ap is_some r.1,
              λ j e.
                  let same = some_same s r.0 j r.1 e in (
                    (ap (λ z. z.pass.lock) (sym same) ∙ (ap (λ p. p.lock) w.receipts ∙ t.3.0), ap (λ z. z.pass.out) (sym same) ∙ (ap (λ p. p.out) w.receipts ∙ t.3.1)),
                    λ b eb. ap (λ z. z.pass.list) (sym same) ∙ (ap (λ p. p.list) (r.5 b eb).0.receipts ∙ ap (λ l. l ++ receipts_in b.items) t.4),
                  ),
            );
      };
    }

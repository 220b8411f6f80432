use Rattle.std.proofs.Common.{◌≡◌, ◌∙◌, sym, ap, subst, ◌-◌, length, Some, arith}
use Rattle.std.specs.Prelude.{slice_get, vec_capacity}
use Rattle.node_cell.specs.Node.{IsPassOf}
use Rattle.node_threads.specs.Work.{Names, NamesItem, count_of}
use Rattle.node_threads.proofs.Answers.{answered_same}
use Rattle.node_threads.proofs.Places.{also_at, each_weaker, same_items}
use Rattle.node_threads.proofs.serving.serve.Goals as goal

pub run_in_scope-requires-clause-feeds : goal.run_in_scope-requires-clause-feeds
run_in_scope-requires-clause-feeds g c κs within = λ k f i ef named.
    let s = c.split-intakes.ensures in
    let lent = c.context_of-context.ensures.intakes ∙ c.as_slice-lent.ensures.value in
    let here : slice_get c.split-intakes.result.intakes.items (f.inlet - 1) ≡ Some i = subst (λ xs. slice_get xs (f.inlet - 1) ≡ Some i) lent named.1 in
    let x = also_at c.args.input.inlets.items c.split-intakes.result.intakes.items (f.inlet - 1) i s.len.0 here in
    c.requires.feeds k f x.0 ef (named.0, x.1) ∙ ap (λ n. n.id) (sym (s.intakes.at (f.inlet - 1) x.0 i x.1 here))

pub run_in_scope-requires-clause-holds : goal.run_in_scope-requires-clause-holds
run_in_scope-requires-clause-holds g c κs within =
    let s = c.split-intakes.ensures in
    let made = c.context_of-context.ensures in
    let lent = made.intakes ∙ c.as_slice-lent.ensures.value in (
      s.len.1 ∙ sym (ap length lent ∙ s.len.0),
      record {
        at = λ k i h ei eh.
            let here : slice_get c.split-intakes.result.intakes.items k ≡ Some i = subst (λ xs. slice_get xs k ≡ Some i) lent ei in
            let x = also_at c.args.input.inlets.items c.split-intakes.result.intakes.items k i s.len.0 here in
            let t = s.holds.at k x.0 h x.1 eh in
            let own = c.requires.inlets k x.0 x.1 in record {
              taker = ap (λ n. n.intake) t.2 ∙ (own.0 ∙ ap (λ n. n.id) (sym (s.intakes.at k x.0 i x.1 here)));
              seat = ap (λ n. n.board) t.5 ∙ (own.1 ∙ sym made.board);
              pass = λ n named.
                  let there = subst (λ ns. NamesItem h.node ns n) made.nodes named in
                  subst (IsPassOf n) (sym t.4) (c.requires.passes k x.0 n x.1 (subst (λ m. NamesItem m c.args.shared.now.nodes.now n) t.3 there));
              none = ap (λ v. v.items) t.7 ∙ t.0.room.0;
              room = omega (arith, t.0.room.1, t.6, ap vec_capacity t.7);
            };
      },
    )

pub returns-clause-feeds : goal.returns-clause-feeds
returns-clause-feeds g c = λ all.
    let s = c.split-intakes.ensures in
    let lent = c.context_of-context.ensures.intakes ∙ c.as_slice-lent.ensures.value in
    let len = ap length lent ∙ s.len.0 in
    each_weaker _ _ _ _ (c.in-Ok-run_in_scope.ensures.feeds all) (λ k f o q. (q.0, q.1, q.2.inlet, q.2.offered, λ n. q.2.done (subst (Names f.inlet) (sym len) n)))

pub returns-clause-inlets : goal.returns-clause-inlets
returns-clause-inlets g c = λ all.
    let s = c.split-intakes.ensures in
    let ran = c.in-Ok-run_in_scope.ensures in
    let whole = c.assemble-inlets.ensures in
    record {
      at = λ k i o ei eo.
          let hold = also_at c.split-intakes.result.holds.items c.args.input.inlets.items k i (sym s.len.1) ei in
          let was = s.holds.at k i hold.0 ei hold.1 in
          let back = also_at c.in-Ok-run_in_scope.ran.holds.items c.split-intakes.result.holds.items k hold.0 (sym ran.len.1) hold.1 in
          let r = (ran.holds all).at k hold.0 back.0 hold.1 back.1 in
          let w = whole.inlets.at k back.0 o back.1 eo r.0 r.1 in
          let count = was.6 ∙ (c.in-Ok.ensures.rooms.1 k was.0 was.1 ∙ ap (λ xs. count_of xs k) c.as_slice.ensures.value) in (
            w.0,
            w.1,
            s.intakes.at k i w.0.intake ei w.2,
            ap (λ x. x.board) w.6 ∙ (r.2.seat ∙ ap (λ x. x.board) was.5),
            w.4 ∙ (r.2.node ∙ was.3),
            λ a ea.
                let list = whole.answers.at k back.0 a back.1 ea r.0 r.1 in (
                  answered_same _ _ _ _ _ _ _ _ _ _ r.2.answered was.2 w.3 was.4 w.5 list,
                  λ n.
                      let there = subst (λ ns. Names i.node (length ns)) (sym c.context_of-context.ensures.nodes) n in
                      ap length list ∙ (r.2.count (subst (λ m. Names m (length c.context_of-context.result.nodes.now)) (sym was.3) there) ∙ count),
                ),
          );
    }

pub returns-in-Err-clause-err : goal.returns-in-Err-clause-err
returns-in-Err-clause-err g c =
    let s = c.split-intakes.ensures in
    let r = c.rejoin-inlets.ensures in
    let e = c.in-Err.ensures.err in
    let holds = e.1 in
    let len : length c.rejoin-inlets.result.items ≡ length c.args.input.inlets.items = r.len ∙ (ap (λ v. length v.items) holds ∙ s.len.1) in (
      c.no_memory-in-Err.ensures.0 ∙ e.0,
      ap (λ v. v.items) c.no_memory-in-Err.ensures.1 ∙ same_items c.args.input.inlets.items c.rejoin-inlets.result.items len (record {
        at = λ k i j ei ej.
            let hold = also_at c.in-Err.refused.value.holds.items c.rejoin-inlets.result.items k j r.len ej in
            let t = r.each.at k hold.0 j hold.1 ej in
            let here : slice_get c.split-intakes.result.holds.items k ≡ Some hold.0 = ap (λ v. slice_get v.items k) (sym holds) ∙ hold.1 in
            let w = s.holds.at k i hold.0 ei here in
            let n = s.intakes.at k i j.intake ei t.0 in
            let a = t.1 ∙ w.2 in
            let b = t.2 ∙ w.3 in
            let p = t.3 ∙ w.4 in
            let q = t.4 ∙ w.5 in
            λ z. record { intake = n z; taker = a z; node = b z; pass = p z; seat = q z };
      }),
      c.no_memory-in-Err.ensures.2,
    )

pub rejoin-inlets-requires-clause-len : goal.rejoin-inlets-requires-clause-len
rejoin-inlets-requires-clause-len g c =
    let len = c.split-intakes.ensures.len in
    len.0 ∙ sym (ap (λ v. length v.items) c.in-Err.ensures.err.1 ∙ len.1)

pub returns-clause-len : goal.returns-clause-len
returns-clause-len g c =
    let ran = c.in-Ok-run_in_scope.ensures.len in
    let whole = c.assemble-inlets.ensures.len in
    let back = ran.1 ∙ c.split-intakes.ensures.len.1 in
    (ran.0, whole.0 ∙ back, whole.1 ∙ back)

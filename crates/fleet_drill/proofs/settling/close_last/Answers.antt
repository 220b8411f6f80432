use Rattle.std.proofs.lemmas.Grind.{common_steps}
use Rattle.std.proofs.Common.{◌≡◌, ◌∙◌, ◌++◌, ap, subst, length, length-append, arith, Some, is_some, true, ◌∷◌, []}
use Rattle.std.specs.Prelude.{slice_get}
use Rattle.front_board.specs.Seat.{IsNode}
use Rattle.node_cell.specs.Node.{IsPassOf}
use Rattle.node_threads.specs.Work.{receipts_in}
use Rattle.fleet_drill.proofs.Lists.{all_before, each_less, last_at, slice_as, was_at}
use Rattle.fleet_drill.proofs.settling.close_last.Goals as goal

pub invariant_of-worked-clause-numbers : goal.invariant_of-worked-clause-numbers
invariant_of-worked-clause-numbers g c = all_before _ c.take_last-node.new.items.items _ (λ n. IsNode c.args.worked.now.board.words n.number) c.take_last-node.ensures c.args.worked.now.numbers

pub invariant_of-worked-clause-passes : goal.invariant_of-worked-clause-passes
invariant_of-worked-clause-passes g c = λ all. record {
  at = λ k n s en es.
      let r = (c.args.worked.now.passes all).at k n s (was_at _ c.take_last-node.new.items.items _ k n c.take_last-node.ensures en) (was_at _ c.take_last-back.new.items.items _ k s c.take_last-back.ensures es) in (
        r.0,
        λ j e.
            let t = r.1 j e in (
              t.0,
              λ a ea. t.1 a (was_at _ c.take_last-list.new.items.items _ k a c.take_last-list.ensures ea),
            ),
      );
}

pub pass_of-pass-requires : goal.pass_of-pass-requires
pass_of-pass-requires g c =
    let worked = c.args.worked.now in
    let less = each_less worked.nodes.items c.take_last-node.new.items.items worked.inlets.items c.take_last-back.new.items.items c.take_last-node.result c.take_last-back.result (λ k n s. (is_some s ≡ true) × ((j : _) → s ≡ Some j → IsPassOf n j.pass × ((a : _) → slice_get worked.answers.items k ≡ Some a → j.pass.list ≡ receipts_in a.items))) (worked.passes c.requires.started) worked.len.0 c.take_last-node.ensures c.take_last-back.ensures in
    less.1.0

pub close_one-requires-clause-pass : goal.close_one-requires-clause-pass
close_one-requires-clause-pass g c =
    let worked = c.args.worked.now in
    let less = each_less worked.nodes.items c.take_last-node.new.items.items worked.inlets.items c.take_last-back.new.items.items c.take_last-node.result c.take_last-back.result (λ k n s. (is_some s ≡ true) × ((j : _) → s ≡ Some j → IsPassOf n j.pass × ((a : _) → slice_get worked.answers.items k ≡ Some a → j.pass.list ≡ receipts_in a.items))) (worked.passes c.requires.started) worked.len.0 c.take_last-node.ensures c.take_last-back.ensures in
    let p = c.pass_of-pass.ensures in
    let own = (less.1.1 p.0 p.1).0 in
    (ap (λ x. x.lock) p.2 ∙ own.0, ap (λ x. x.out) p.2 ∙ own.1)

pub close_one-requires-clause-list : goal.close_one-requires-clause-list
close_one-requires-clause-list g c =
    let worked = c.args.worked.now in
    let less = each_less worked.nodes.items c.take_last-node.new.items.items worked.inlets.items c.take_last-back.new.items.items c.take_last-node.result c.take_last-back.result (λ k n s. (is_some s ≡ true) × ((j : _) → s ≡ Some j → IsPassOf n j.pass × ((a : _) → slice_get worked.answers.items k ≡ Some a → j.pass.list ≡ receipts_in a.items))) (worked.passes c.requires.started) worked.len.0 c.take_last-node.ensures c.take_last-back.ensures in
    let p = c.pass_of-pass.ensures in
    let list = c.take_last-list.result in
    let left = c.take_last-list.new.items.items in
    let nodes = ap length c.take_last-node.ensures ∙ length-append c.take_last-node.new.items.items (c.take_last-node.result ∷ []) in
    let answers = ap length c.take_last-list.ensures ∙ length-append c.take_last-list.new.items.items (c.take_last-list.result ∷ []) in
    let same : length c.take_last-list.new.items.items ≡ length c.take_last-node.new.items.items = omega (arith, nodes, answers, worked.len.1) in
    let last = subst (λ n. slice_get (c.take_last-list.new.items.items ++ c.take_last-list.result ∷ []) n ≡ Some c.take_last-list.result) same (last_at left list) in
    let there = slice_as worked.answers.items (c.take_last-list.new.items.items ++ c.take_last-list.result ∷ []) (length c.take_last-node.new.items.items) list c.take_last-list.ensures last in
    ap (λ x. x.list) p.2 ∙ (less.1.1 p.0 p.1).1 list there

pub invariant_of-worked-clause-len : goal.invariant_of-worked-clause-len
invariant_of-worked-clause-len g c = grind (arith, common_steps)

pub returns-in_err-reserve-clause-closed : goal.returns-in_err-reserve-clause-closed
returns-in_err-reserve-clause-closed g c = grind (arith, common_steps)

pub returns-clause-left : goal.returns-clause-left
returns-clause-left g c = grind (arith, common_steps)

pub returns-in_err-close_one-clause-refusals : goal.returns-in_err-close_one-clause-refusals
returns-in_err-close_one-clause-refusals g c = grind (arith, common_steps)

pub returns-clause-closed : goal.returns-clause-closed
returns-clause-closed g c = grind (arith, common_steps)

pub returns-clause-refusals : goal.returns-clause-refusals
returns-clause-refusals g c = grind (arith, common_steps)

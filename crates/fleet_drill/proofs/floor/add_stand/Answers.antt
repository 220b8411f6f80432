use Rattle.std.proofs.lemmas.Grind.{common_steps}
use Rattle.std.proofs.Common.{rules, ◌≡◌, ◌∙◌, ◌+◌, ◌++◌, ◌∷◌, [], ap, sym, length, length-append, arith}
use Rattle.front_board.specs.Seat.{IsNode}
use Rattle.node_cell.specs.Node.{IsPassOf}
use Rattle.fleet_drill.proofs.Lists.{all_more, each_both}
use Rattle.fleet_drill.proofs.floor.add_stand.Goals as goal

pub invariant_of-floor-2 : goal.invariant_of-floor-2
invariant_of-floor-2 g c =
    let floor = c.args.floor.now in
    let e = c.in_ok-stand.ensures in
    let stand = c.in_ok-stand.stand in
    let nodes : c.push_reserved.new.self.items ≡ floor.nodes.items ++ c.in_ok-stand.stand.node ∷ [] = c.push_reserved.ensures.items ∙ ap (λ l. l ++ c.in_ok-stand.stand.node ∷ []) c.reserve.ensures.items in
    let feeds : c.push_reserved-2.new.self.items ≡ floor.feeds.items ++ c.in_ok-stand.stand.feed ∷ [] = c.push_reserved-2.ensures.items ∙ ap (λ l. l ++ c.in_ok-stand.stand.feed ∷ []) c.reserve-2.ensures.items in
    let inlets : c.push_reserved-3.new.self.items ≡ floor.inlets.items ++ c.in_ok-stand.stand.inlet ∷ [] = c.push_reserved-3.ensures.items ∙ ap (λ l. l ++ c.in_ok-stand.stand.inlet ∷ []) c.reserve-3.ensures.items in
    let len = ap length nodes ∙ length-append floor.nodes.items (c.in_ok-stand.stand.node ∷ []) in
    let feeds_len = ap length feeds ∙ length-append floor.feeds.items (c.in_ok-stand.stand.feed ∷ []) in
    let inlets_len = ap length inlets ∙ length-append floor.inlets.items (c.in_ok-stand.stand.inlet ∷ []) in
    let index : c.len-number.result ≡ length floor.nodes.items = search rules in
    record {
      len = (omega (arith, len, feeds_len, floor.len.0), omega (arith, len, inlets_len, floor.len.1), omega (arith, len, c.requires.room.0, c.requires.room.1));
      numbers = all_more floor.nodes.items c.push_reserved.new.self.items c.in_ok-stand.stand.node (λ m. IsNode floor.board.words m.number) floor.numbers nodes
          (omega (arith, e.node, index), omega (arith, e.node, index, c.requires.room.0));
      feeds_fit = each_both floor.inlets.items c.push_reserved-3.new.self.items floor.feeds.items c.push_reserved-2.new.self.items c.in_ok-stand.stand.inlet c.in_ok-stand.stand.feed
          (λ k n d. (d.inlet ≡ k + 1) × (d.sender.intake ≡ n.intake.id)) floor.feeds_fit (floor.len.0 ∙ sym floor.len.1) inlets feeds (omega (arith, e.feed.0, index, floor.len.1), e.feed.1);
      inlets_fit = each_both floor.nodes.items c.push_reserved.new.self.items floor.inlets.items c.push_reserved-3.new.self.items c.in_ok-stand.stand.node c.in_ok-stand.stand.inlet
          (λ k n d. (d.node ≡ k + 1) × (d.taker.intake ≡ d.intake.id) × (d.seat.board ≡ floor.board) × IsPassOf n d.pass × (d.pass.list ≡ [])) floor.inlets_fit floor.len.1 nodes inlets
          (omega (arith, e.inlet.0, index), e.inlet.1, ap (λ x. x.board) e.inlet.2 ∙ c.requires.seat, e.inlet.3, e.inlet.4);
    }

pub invariant_of-floor-in-Break-branch-3 : goal.invariant_of-floor-in-Break-branch-3
invariant_of-floor-in-Break-branch-3 g c = grind (arith, common_steps)

pub invariant_of-floor-in-Break-branch-2 : goal.invariant_of-floor-in-Break-branch-2
invariant_of-floor-in-Break-branch-2 g c = grind (arith, common_steps)

pub same-seat : goal.same-seat
same-seat g c = grind (arith, common_steps)

pub push_reserved-requires-3 : goal.push_reserved-requires-3
push_reserved-requires-3 g c = grind (arith, common_steps)

pub returns-clause-board : goal.returns-clause-board
returns-clause-board g c = grind (arith, common_steps)

pub push_reserved-requires-2 : goal.push_reserved-requires-2
push_reserved-requires-2 g c = grind (arith, common_steps)

pub push_reserved-requires : goal.push_reserved-requires
push_reserved-requires g c = grind (arith, common_steps)

pub returns-clause-len : goal.returns-clause-len
returns-clause-len g c = grind (arith, common_steps)

pub invariant_of-floor-in-Break-branch-4 : goal.invariant_of-floor-in-Break-branch-4
invariant_of-floor-in-Break-branch-4 g c = grind (arith, common_steps)

pub returns-in_err-reserve-3-clause-board : goal.returns-in_err-reserve-3-clause-board
returns-in_err-reserve-3-clause-board g c = grind (arith, common_steps)

pub returns-in_err-stand-clause-board : goal.returns-in_err-stand-clause-board
returns-in_err-stand-clause-board g c = grind (arith, common_steps)

pub overflow_add-number : goal.overflow_add-number
overflow_add-number g c = grind (arith, common_steps)

pub invariant_of-floor : goal.invariant_of-floor
invariant_of-floor g c = grind (arith, common_steps)

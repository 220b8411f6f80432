use Rattle.std.proofs.lemmas.Grind.{common_steps}
use Rattle.std.proofs.Common.{◌≡◌, ◌∙◌, ap, sym, length, arith, drop}
use Rattle.std.specs.Prelude.{replicate}
use Rattle.std.proofs.lemmas.Option.{slice_get_within}
use Rattle.front_board.specs.Seat.{new_seat}
use Rattle.node_threads.proofs.Places.{next_at}
use Rattle.fleet_drill.proofs.Lists.{copy_at, copies}
use Rattle.fleet_drill.proofs.floor.open_stands.Goals as goal

pub add_stand-requires-clause-room : goal.add_stand-requires-clause-room
add_stand-requires-clause-room g c =
    let i = c.loop-seat.invariant in
    let empty = new_seat c.args.floor.now.board c.args.count in
    let next = next_at (replicate c.args.count empty) (length c.loop-seat.floor.nodes.items) c.in-Some.seat c.next.new.self.rest.items (sym c.in-Some.ensures.steps.0 ∙ i.rest) in
    let within = slice_get_within (replicate c.args.count empty) (length c.loop-seat.floor.nodes.items) c.in-Some.seat next.0 in
    let size = copies c.args.count empty in
    let words : c.loop-seat.floor.board.words ≡ c.args.count = ap (λ b. b.words) i.board ∙ c.requires.words in
    (omega (arith, within, size, words), omega (arith, words, c.requires.count))

pub add_stand-requires-clause-seat : goal.add_stand-requires-clause-seat
add_stand-requires-clause-seat g c =
    let i = c.loop-seat.invariant in
    let empty = new_seat c.args.floor.now.board c.args.count in
    let next = next_at (replicate c.args.count empty) (length c.loop-seat.floor.nodes.items) c.in-Some.seat c.next.new.self.rest.items (sym c.in-Some.ensures.steps.0 ∙ i.rest) in
    let seat : c.in-Some.seat ≡ empty = copy_at c.args.count empty (length c.loop-seat.floor.nodes.items) c.in-Some.seat next.0 in
    ap (λ x. x.board) seat ∙ sym i.board

pub loop-seat-preserved : goal.loop-seat-preserved
loop-seat-preserved g c =
    let i = c.loop-seat.invariant in
    let s = c.in-Some.ensures.steps in
    let empty = new_seat c.args.floor.now.board c.args.count in
    let next = next_at (replicate c.args.count empty) (length c.loop-seat.floor.nodes.items) c.in-Some.seat c.next.new.self.rest.items (sym s.0 ∙ i.rest) in
    let within = slice_get_within (replicate c.args.count empty) (length c.loop-seat.floor.nodes.items) c.in-Some.seat next.0 in
    let size = copies c.args.count empty in
    let len = c.in_ok-add_stand.ensures.len in
    let left = ap length s.0 in
    record {
      rest = next.1 ∙ ap (λ m. drop m (replicate c.args.count empty)) (sym len);
      fits = omega (arith, left, s.1, i.fits);
      within = omega (arith, len, within, size);
      board = c.add_stand.ensures.board ∙ i.board;
    }

pub returns : goal.returns
returns g c = grind (arith, common_steps)

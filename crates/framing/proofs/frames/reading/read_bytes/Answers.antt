use Rattle.std.proofs.lemmas.Grind.{common_steps}
use Rattle.std.proofs.Common.{◌≡◌, ℕ, List, ◌+◌, ◌*◌, ◌++◌, ◌≤◌, length, take, refl, ◌∙◌, subst, arith, length-append}
use Rattle.std.specs.Prelude.{max}
use Rattle.std.proofs.lemmas.List.{length-take}
use Rattle.std.proofs.lemmas.Result.{err_from_is_err_and}
use borrow.Rule.Slice.PartMut.{same_len_mid}
use Rattle.framing.specs.declared.devices.fault.RunFault.TheVariants.{Input}
use Rattle.framing.specs.FrameKeeping.{HoldsFrame, room_of}
use Rattle.framing.proofs.Buffers.{taken_front}
use Rattle.framing.proofs.Pieces.{comes_more}
use Rattle.framing.proofs.frames.reading.read_bytes.Goals as goal

pub returns-in_err-n : goal.returns-in_err-n
returns-in_err-n g c =
    let inv = c.loop-left.invariant in
    let out = err_from_is_err_and c.from_residual.result c.from_residual.ensures.1 in
    let is : out.0 ≡ Input = cc (out.2, c.in_err-n.ensures.errors) in
    let fails = c.in_err-n.ensures.err in
    rw (out.1, is) (
      inv.1 ++ fails.bytes,
      comes_more _ c.args.reader.now c.loop-left.reader c.fill.new.reader c.args.incoming.now c.loop-left.incoming c.loop-left.incoming inv.1 fails.bytes inv.2 fails.read refl (omega arith),
      omega (arith, fails.short, inv.3, length-append inv.1 fails.bytes, length-take c.min-size.result c.loop-left.chunk),
      fails.failed,
      refl,
    )

pub returns-then-n-size : goal.returns-then-n-size
returns-then-n-size g c =
    let inv = c.loop-left.invariant in
    let few = c.in_ok-n.ensures.bound in
    let part = take c.in_ok-n.n c.fill.new.buffer in
    let front = taken_front c.min-size.result c.in_ok-n.n c.loop-left.chunk c.fill.new.buffer few in
    let room : room_of c.add.new.self ≤ max (room_of c.loop-left.incoming) (2 * (length inv.1 + length part)) =
    subst (λ (l : List ℕ). room_of c.add.new.self ≤ max (room_of c.loop-left.incoming) (2 * (length inv.1 + length l))) front (c.add.ensures.room c.args.length inv.1 inv.4) in (
      inv.1 ++ part,
      comes_more _ c.args.reader.now c.loop-left.reader c.fill.new.reader c.args.incoming.now c.loop-left.incoming c.add.new.self inv.1 part inv.2 c.in_ok-n.ensures.bytes
          c.add.ensures.limit room,
      omega (arith, c.if-n-size.true, c.min-size.ensures, inv.3, length-append inv.1 part, length-take c.in_ok-n.n c.fill.new.buffer),
      c.in_ok-n.ensures.end (omega (arith, c.if-n-size.true, c.min-size.ensures, c.fill.auto.buffer, inv.0, length-take c.min-size.result c.loop-left.chunk)),
    )

pub loop-left-preserved : goal.loop-left-preserved
loop-left-preserved g c =
    let inv = c.loop-left.invariant in
    let few = c.in_ok-n.ensures.bound in
    let part = take c.in_ok-n.n c.fill.new.buffer in
    let front = taken_front c.min-size.result c.in_ok-n.n c.loop-left.chunk c.fill.new.buffer few in
    let room : room_of c.add.new.self ≤ max (room_of c.loop-left.incoming) (2 * (length inv.1 + length part)) =
    subst (λ (l : List ℕ). room_of c.add.new.self ≤ max (room_of c.loop-left.incoming) (2 * (length inv.1 + length l))) front (c.add.ensures.room c.args.length inv.1 inv.4) in (
      same_len_mid 0 c.min-size.result c.loop-left.chunk c.fill.new.buffer c.fill.auto.buffer ∙ inv.0,
      inv.1 ++ part,
      comes_more _ c.args.reader.now c.loop-left.reader c.fill.new.reader c.args.incoming.now c.loop-left.incoming c.add.new.self inv.1 part inv.2 c.in_ok-n.ensures.bytes
          c.add.ensures.limit room,
      omega (arith, c.if-n-size.false, few, c.fill.auto.buffer, c.min-size.ensures, inv.0, inv.3, length-append inv.1 part, length-take c.in_ok-n.n c.fill.new.buffer, length-take c.min-size.result c.loop-left.chunk),
      subst (λ (l : List ℕ). HoldsFrame c.add.new.self c.args.length (inv.1 ++ l)) front (c.add.ensures.holds c.args.length inv.1 inv.4),
    )

pub loop-left-init : goal.loop-left-init
loop-left-init g c = grind (arith, common_steps)

pub returns : goal.returns
returns g c = grind (arith, common_steps)

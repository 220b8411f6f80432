use Rattle.std.proofs.Common.{◌≡◌, ◌++◌, ◌∙◌, [], take, rules, arith}
use Rattle.std.proofs.lemmas.Grind.{common_steps}
use Rattle.std.proofs.KnownBytes.{Consumes-nil, Consumes-trans, Consumes-kept}
use Rattle.std.proofs.lemmas.Result.{err_from_is_err_and}
use Rattle.framing.specs.declared.devices.fault.RunFault.TheVariants.{Output}
use Rattle.framing.proofs.DeviceBytes.{Consumes-nothing}
use Rattle.framing.proofs.Going.{ends_start, ends_more, cut_more, failed_now}
use Rattle.framing.proofs.lines.serving.serve.Goals as goal

pub loop-init : goal.loop-init
loop-init g c = (c.new-pending.ensures.limit, [], [], Consumes-nil _, c.new-pending.ensures.holds, ends_start _ _ _ c.args.machine.now c.args.writer.now)

pub returns-in-Ok-eq0 : goal.returns-in-Ok-eq0
returns-in-Ok-eq0 g c = grind (arith, common_steps, Consumes-nothing)

pub returns-in_err-answer_bytes-in-Ok : goal.returns-in_err-answer_bytes-in-Ok
returns-in_err-answer_bytes-in-Ok g c =
    let inv = c.loop.invariant in
    let out = err_from_is_err_and c.from_residual.result c.from_residual.ensures.1 in
    let is : out.0 ≡ Output = cc (out.2, c.in_err-answer_bytes-in-Ok.ensures.errors) in
    rw (out.1, is) (record {
      input = inv.1 ++ take c.in-Ok.n c.read.new.buf;
      read = Consumes-trans _ _ _ inv.1 (take c.in-Ok.n c.read.new.buf) inv.3 c.in-Ok.ensures.bytes.0;
      ends = cut_more _ _ _ inv.1 (take c.in-Ok.n c.read.new.buf) c.args.machine.now c.loop.machine c.answer_bytes.new.machine c.args.writer.now c.loop.writer
          c.answer_bytes.new.writer inv.2 inv.5 _ inv.0 (c.in_err-answer_bytes-in-Ok.ensures.err inv.2 inv.4);
    })

pub returns-in-Err : goal.returns-in-Err
returns-in-Err g c =
    let inv = c.loop.invariant in record {
      input = inv.1;
      read = Consumes-kept _ _ _ inv.1 inv.3 c.in-Err.ensures.bytes;
      ends = (failed_now _ _ c.in-Err.ensures.failed, (inv.2, inv.5));
    }

pub loop-preserved : goal.loop-preserved
loop-preserved g c =
    let inv = c.loop.invariant in
    let more = c.in_ok-answer_bytes-in-Ok.ensures.ok inv.2 inv.4 in (
      c.answer_bytes.ensures.limit ∙ inv.0,
      inv.1 ++ take c.in-Ok.n c.read.new.buf,
      more.0,
      Consumes-trans _ _ _ inv.1 (take c.in-Ok.n c.read.new.buf) inv.3 c.in-Ok.ensures.bytes.0,
      more.1,
      ends_more _ _ _ inv.1 (take c.in-Ok.n c.read.new.buf) c.args.machine.now c.loop.machine c.answer_bytes.new.machine c.args.writer.now c.loop.writer
          c.answer_bytes.new.writer inv.2 more.0 inv.5 _ inv.0 more.2,
    )

pub returns : goal.returns
returns g c = search rules

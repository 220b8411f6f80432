use Rattle.std.proofs.lemmas.Grind.{common_steps}
use Rattle.std.proofs.Common.{◌≡◌, [], ◌∷◌, ◌++◌, ◌∙◌, map, inl, refl, sym, subst, false, true, rules, arith, append-nil}
use Rattle.std.specs.List.{concat}
use Rattle.std.specs.Io.KnownBytes.{Consumes}
use Rattle.std.proofs.KnownBytes.{Consumes-nil, Consumes-trans}
use Rattle.std.proofs.lemmas.List.Elements.{All-nil, All-push}
use Rattle.std.proofs.lemmas.Result.{err_from_is_err_and}
use Rattle.framing.specs.Watching.{device_of}
use Rattle.framing.specs.declared.devices.fault.RunFault.TheVariants.{Input, Output}
use Rattle.framing.specs.Frames.{framed, IsShort}
use Rattle.framing.proofs.FramesAnswered.{answered_none, answered_more, cut_more, joined}
use Rattle.framing.proofs.Pieces.{read_whole, read_end}
use Rattle.framing.proofs.frames.serving.serve.Goals as goal

pub loop-init : goal.loop-init
loop-init g c = (c.new-incoming.ensures.limit, [], Consumes-nil _, All-nil IsShort, answered_none _ _ _ c.args.machine.now c.args.writer.now)

pub returns-in_err-read_frame : goal.returns-in_err-read_frame
returns-in_err-read_frame g c =
    let inv = c.loop.invariant in
    let came = c.in_err-read_frame.ensures in
    let out = err_from_is_err_and c.from_residual.result c.from_residual.ensures.1 in
    let is : out.0 ≡ Input = cc (out.2, came.4) in
    rw (out.1, is) (record {
      input = concat (map framed inv.1) ++ came.0;
      frames = inv.1;
      rest = came.0;
      holds = record { encoded = refl; short = inv.3; begun = came.2 };
      read = Consumes-trans _ _ _ (concat (map framed inv.1)) came.0 inv.2 came.1.read;
      ends = (came.3, inv.4);
    })

pub returns-then-not-branch : goal.returns-then-not-branch
returns-then-not-branch g c =
    let inv = c.loop.invariant in
    let is : c.in_ok-read_frame.field-0 ≡ false = search rules in
    let came = read_end g.R.Read.remaining c.loop.reader c.read_frame.new.reader c.loop.incoming c.read_frame.new.incoming c.in_ok-read_frame.field-0 is c.in_ok-read_frame.ensures in record {
      input = concat (map framed inv.1) ++ came.0;
      frames = inv.1;
      rest = came.0;
      holds = record { encoded = refl; short = inv.3; begun = came.2 };
      read = Consumes-trans _ _ _ (concat (map framed inv.1)) came.0 inv.2 came.1.read;
      ends = (came.3, inv.4);
    }

pub returns-in_err-write_frame : goal.returns-in_err-write_frame
returns-in_err-write_frame g c =
    let inv = c.loop.invariant in
    let is : c.in_ok-read_frame.field-0 ≡ true = search rules in
    let came = read_whole g.R.Read.remaining c.loop.reader c.read_frame.new.reader c.loop.incoming c.read_frame.new.incoming c.in_ok-read_frame.field-0 is c.in_ok-read_frame.ensures in
    let out = err_from_is_err_and c.from_residual-in_err-write_frame.result c.from_residual-in_err-write_frame.ensures.1 in
    let cut : out.0 ≡ Output = cc (out.2, c.in_err-write_frame.ensures.errors) in
    let part = c.in_err-write_frame.ensures.part in
    rw (out.1, cut) (record {
      input = concat (map framed (inv.1 ++ came.0 ∷ [])) ++ [];
      frames = inv.1 ++ came.0 ∷ [];
      rest = [];
      holds = record { encoded = refl; short = All-push IsShort inv.1 came.0 inv.3 came.2; begun = inl (omega arith) };
      read = subst (Consumes (g.R.Read.remaining (device_of c.args.reader.now)) (g.R.Read.remaining (device_of c.read_frame.new.reader)))
          (sym (joined inv.1 came.0) ∙ sym (append-nil (concat (map framed (inv.1 ++ came.0 ∷ [])))))
          (Consumes-trans _ _ _ (concat (map framed inv.1)) (framed came.0) inv.2 came.1.read);
      ends = (
        refl,
        cut_more _ _ _ inv.1 c.args.machine.now c.loop.machine c.answer-answer.new.machine c.args.writer.now c.loop.writer c.write_frame.new.writer came.0 _ part.0
            inv.4 _ (came.1.limit ∙ inv.0) (c.answer-answer.ensures.answers came.0 came.3) c.as_bytes.result.now c.as_bytes.ensures c.answer-answer.ensures.short part.1
            (c.in_err-write_frame.ensures.failed refl),
      );
    })

pub loop-preserved : goal.loop-preserved
loop-preserved g c =
    let inv = c.loop.invariant in
    let is : c.in_ok-read_frame.field-0 ≡ true = search rules in
    let came = read_whole g.R.Read.remaining c.loop.reader c.read_frame.new.reader c.loop.incoming c.read_frame.new.incoming c.in_ok-read_frame.field-0 is c.in_ok-read_frame.ensures in (
      came.1.limit ∙ inv.0,
      inv.1 ++ came.0 ∷ [],
      subst (Consumes (g.R.Read.remaining (device_of c.args.reader.now)) (g.R.Read.remaining (device_of c.read_frame.new.reader))) (sym (joined inv.1 came.0))
          (Consumes-trans _ _ _ (concat (map framed inv.1)) (framed came.0) inv.2 came.1.read),
      All-push IsShort inv.1 came.0 inv.3 came.2,
      answered_more _ _ _ inv.1 c.args.machine.now c.loop.machine c.answer-answer.new.machine c.args.writer.now c.loop.writer c.write_frame.new.writer came.0 _
          inv.4 _ (came.1.limit ∙ inv.0) (c.answer-answer.ensures.answers came.0 came.3) c.as_bytes.result.now c.as_bytes.ensures c.answer-answer.ensures.short c.in_ok-write_frame.ensures.ok,
    )

pub returns : goal.returns
returns g c = grind (arith, common_steps)

pub write_frame-requires : goal.write_frame-requires
write_frame-requires g c = grind (arith, common_steps)

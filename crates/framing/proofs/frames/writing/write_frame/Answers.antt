use Rattle.std.proofs.lemmas.Grind.{common_steps}
use Rattle.std.proofs.Common.{◌≡◌, ℕ, List, ◌++◌, length, take, drop, sym, ap, ◌∙◌, take-append-drop, arith}
use Rattle.std.specs.Io.KnownBytes.{Appends}
use Rattle.framing.specs.Watching.{device_of}
use Rattle.framing.proofs.Going.{on_err}
use Rattle.framing.specs.Frames.{header, framed}
use Rattle.framing.proofs.Written.{then_err, first_part, second_part}
use Rattle.framing.proofs.frames.writing.write_frame.Goals as goal

pub returns-in_err-write_all-clause-part : goal.returns-in_err-write_all-clause-part
returns-in_err-write_all-clause-part g c =
    let front = c.split_at.result.0.now in
    let behind = c.split_at.result.1.now in
    let all : c.args.bytes.now ≡ front ++ behind = sym (take-append-drop c.min.result c.args.bytes.now) ∙ ap (λ (l : List ℕ). l ++ drop c.min.result c.args.bytes.now) (sym c.split_at.ensures.front)
    ∙ ap (λ (l : List ℕ). front ++ l) (sym c.split_at.ensures.back) in
    let part = c.in_err-write_all.ensures.part in
    on_err c.from_residual.result ((n : ℕ) × Appends (g.W.Write.contents (device_of c.args.writer.now)) (g.W.Write.contents (device_of c.write_all.new.writer)) (take n (framed c.args.bytes.now)))
    (first_part (take c.put-size.result c.put-size.new.chunk) (header (length c.args.bytes.now)) front behind c.args.bytes.now c.put-size.ensures.bytes all _ _ part.0 part.1)

pub returns-clause-part : goal.returns-clause-part
returns-clause-part g c =
    let front = c.split_at.result.0.now in
    let behind = c.split_at.result.1.now in
    let all : c.args.bytes.now ≡ front ++ behind = sym (take-append-drop c.min.result c.args.bytes.now) ∙ ap (λ (l : List ℕ). l ++ drop c.min.result c.args.bytes.now) (sym c.split_at.ensures.front)
    ∙ ap (λ (l : List ℕ). front ++ l) (sym c.split_at.ensures.back) in
    then_err c.write_all-2.result _ ((n : ℕ) × Appends (g.W.Write.contents (device_of c.args.writer.now)) (g.W.Write.contents (device_of c.write_all-2.new.writer)) (take n (framed c.args.bytes.now)))
    (second_part (take c.put-size.result c.put-size.new.chunk) (header (length c.args.bytes.now)) front behind c.args.bytes.now c.put-size.ensures.bytes all
    (g.W.Write.contents (device_of c.args.writer.now)) (g.W.Write.contents (device_of c.write_all.new.writer)) (g.W.Write.contents (device_of c.write_all-2.new.writer)) c.in_ok-write_all.ensures.ok) c.write_all-2.ensures.part

pub returns-then-is_empty-clause-ok : goal.returns-then-is_empty-clause-ok
returns-then-is_empty-clause-ok g c = grind (arith, common_steps)

pub returns-in_err-write_all-clause-failed : goal.returns-in_err-write_all-clause-failed
returns-in_err-write_all-clause-failed g c = grind (arith, common_steps)

pub returns-clause-ok : goal.returns-clause-ok
returns-clause-ok g c = grind (arith, common_steps)

use Rattle.std.proofs.Common.{string_bytes}
use Rattle.text.specs.Parts.{parts_at}
use Rattle.fleet_tool.specs.Inspect.{parts_text}
use Rattle.fleet_tool.proofs.Captures.{line_told}
use Rattle.fleet_tool.proofs.inspect.lines_text.Goals as goal

pub loop-line-preserved : goal.loop-line-preserved
loop-line-preserved c = line_told (string_bytes c.loop-line.text) (string_bytes c.put_line.new.text) c.loop-line.rest.now c.in-Some.line.now c.in-Some.after.now
    (parts_text (parts_at 10 c.args.input.now)) c.in-Some.ensures.some c.in_ok-put_line.ensures c.loop-line.invariant

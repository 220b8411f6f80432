use Rattle.script_text.proofs.RoundGo.{go_found}
use Rattle.script_text.proofs.blocks.round_go.Goals as goal

pub returns : goal.returns
returns c = go_found c.args.text.now c.in_ok-before.before.now c.in_ok-before.behind.now c.in_ok-after.after.now c.in_ok-before.ensures.some
    (c.is_ended.ensures c.if-not-is_ended.false) c.in_ok-after.ensures

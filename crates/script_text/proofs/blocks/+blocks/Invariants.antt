use Rattle.std.proofs.Common.{◌+◌, ◌*◌}
use Rattle.script_text.proofs.blocks.+blocks.Given as goal

abbrev pub decreases-facts_in_blocks : goal.decreases-facts_in_blocks
decreases-facts_in_blocks g l = 2 * l.threads

abbrev pub decreases-front : goal.decreases-front
decreases-front g l = 2 * l.low + 1

abbrev pub decreases-back : goal.decreases-back
decreases-back g l = 2 * l.high + 1

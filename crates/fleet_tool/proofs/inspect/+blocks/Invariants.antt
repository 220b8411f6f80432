use Rattle.std.proofs.Common.{◌+◌, ◌*◌}
use Rattle.fleet_tool.proofs.inspect.+blocks.Given as goal

abbrev pub decreases-block_texts : goal.decreases-block_texts
decreases-block_texts g l = 2 * l.blocks

abbrev pub decreases-front : goal.decreases-front
decreases-front g l = 2 * l.others + 1

use Rattle.std.proofs.Common.{sym, rules}
use Rattle.page_base.proofs.Shown.{at_place, at_gap}
use Rattle.page_base.proofs.places.version_in.Goals as goal

pub returns-in-Ok : goal.returns-in-Ok
returns-in-Ok c = search (rules, at_place)

pub returns-in-Err : goal.returns-in-Err
returns-in-Err c = sym (at_gap c.args.images.now c.args.floor c.args.page c.in-Err.field-0 c.requires c.in-Err.ensures).0

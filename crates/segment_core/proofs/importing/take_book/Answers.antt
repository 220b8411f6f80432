use Rattle.std.proofs.lemmas.Grind.{common_steps}
use Rattle.std.proofs.Common.{rules, arith}
use Rattle.segment_core.proofs.Ordered.{takes_append, refuses_sooner, refuses_later}
use Rattle.segment_core.proofs.importing.take_book.Goals as goal

pub take_points-requires-clause-roster : goal.take_points-requires-clause-roster
take_points-requires-clause-roster c = grind (arith, common_steps)

pub take_points-requires-clause-shaped : goal.take_points-requires-clause-shaped
take_points-requires-clause-shaped c = search rules

pub returns-in-Err-clause-refused : goal.returns-in-Err-clause-refused
returns-in-Err-clause-refused c = search (rules, refuses_sooner)

pub returns-in-Err-take_points-clause-refused : goal.returns-in-Err-take_points-clause-refused
returns-in-Err-take_points-clause-refused c = grind (arith, common_steps, refuses_later, refuses_sooner)

pub returns-clause-takes : goal.returns-clause-takes
returns-clause-takes c = search (rules, takes_append)

pub returns-clause-refused : goal.returns-clause-refused
returns-clause-refused c = grind (arith, common_steps, refuses_later)

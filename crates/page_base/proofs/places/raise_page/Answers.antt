use Rattle.std.proofs.Common.{arith}
use Rattle.std.proofs.lemmas.Grind.{common_steps}
use Rattle.page_base.proofs.places.raise_page.Goals as goal

pub returns-in-Err-clause-refused : goal.returns-in-Err-clause-refused
returns-in-Err-clause-refused c = grind (arith, common_steps)

pub returns-else-is_err-2-clause-raises : goal.returns-else-is_err-2-clause-raises
returns-else-is_err-2-clause-raises c = grind (arith, common_steps)

pub raise-requires : goal.raise-requires
raise-requires c = grind (arith, common_steps)

pub returns-in-Err-clause-form : goal.returns-in-Err-clause-form
returns-in-Err-clause-form c = grind (arith, common_steps)

pub returns-then-is_err-clause-form : goal.returns-then-is_err-clause-form
returns-then-is_err-clause-form c = grind (arith, common_steps)

pub unreachable-requires : goal.unreachable-requires
unreachable-requires c = grind (arith, common_steps)

pub returns-then-version-version_in-clause-raises : goal.returns-then-version-version_in-clause-raises
returns-then-version-version_in-clause-raises c = grind (arith, common_steps)

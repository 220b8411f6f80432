use Rattle.std.proofs.Common.{rules}
use Rattle.std.proofs.lemmas.List.Elements.{AllZip-get_or}
use Rattle.redo_core.proofs.Points.{zip_of}
use Rattle.reference_model.proofs.comparing.are_at_most.Goals as goal

pub returns-then-below-place : goal.returns-then-below-place
returns-then-below-place c = search (rules, AllZip-get_or)

pub returns : goal.returns
returns c = search (rules, zip_of)

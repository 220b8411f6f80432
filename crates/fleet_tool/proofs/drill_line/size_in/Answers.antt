use Rattle.std.proofs.Common.{codes}
use Rattle.clap.specs.Words.{found_of}
use Rattle.clap.proofs.WalkLemmas.{first_value-rows}
use Rattle.fleet_tool.proofs.DrillWords.{given_text, no_text, none_is_some, size_is_named}
use Rattle.fleet_drill.proofs.Lists.{some_same}
use Rattle.fleet_tool.proofs.drill_line.size_in.Goals as goal

pub returns-in_err-get_str-clause-known : goal.returns-in_err-get_str-clause-known
returns-in_err-get_str-clause-known c = λ size is.
    absurd (none_is_some _ _ (no_text c.get_str.result _ _ c.get_str.ensures (first_value-rows (found_of c.args.options.now) (codes "size")) c.in_err-get_str.was) is)

pub returns-clause-named : goal.returns-clause-named
returns-clause-named c =
    let is = given_text c.get_str.result _ _ _ c.get_str.ensures (first_value-rows (found_of c.args.options.now) (codes "size")) c.in_ok-get_str.was in
    size_is_named c.size_of.result _ _ is c.size_of.ensures.named

pub returns-clause-known : goal.returns-clause-known
returns-clause-known c = λ size is.
    let given = given_text c.get_str.result _ _ _ c.get_str.ensures (first_value-rows (found_of c.args.options.now) (codes "size")) c.in_ok-get_str.was in
    c.size_of.ensures.known size (some_same _ _ _ given is)

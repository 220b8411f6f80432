use Rattle.std.specs.Str.Parse.{ParsesUnsigned, ExplainsUnsignedError, HasUnsignedDigitsIfOk}
use Rattle.clap.specs.Words.{found_of}
use Rattle.clap.proofs.WalkLemmas.{one_text-rows}
use Rattle.fleet_tool.proofs.DrillWords.{read_is_encoded, encoded_is_read}
use Rattle.fleet_tool.proofs.drill_line.number_in.Goals as goal

pub returns-clause-encoded : goal.returns-clause-encoded
returns-clause-encoded c = rw (← one_text-rows (found_of c.args.options.now) c.args.id.now)
    (read_is_encoded _ (λ bs r. ParsesUnsigned 64 10 bs r × ExplainsUnsignedError 10 bs r × HasUnsignedDigitsIfOk bs r) _ c.get_one.result
    (λ u x g. g.0) c.get_one.ensures.none c.get_one.ensures.value)

pub returns-clause-known : goal.returns-clause-known
returns-clause-known c = λ n small encoded.
    encoded_is_read _ (λ bs r. ParsesUnsigned 64 10 bs r × ExplainsUnsignedError 10 bs r × HasUnsignedDigitsIfOk bs r) _ c.get_one.result n
    (λ u x g. g.0) c.get_one.ensures.value small (rw (one_text-rows (found_of c.args.options.now) c.args.id.now) encoded)

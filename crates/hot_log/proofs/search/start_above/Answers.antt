use Rattle.std.proofs.lemmas.Bool.{false≢true}
use Rattle.hot_log.proofs.Since.{parting_starts, first_starts}
use Rattle.hot_log.proofs.search.start_above.Goals as goal

pub returns-then-is_up_to-clause-starts : goal.returns-then-is_up_to-clause-starts
returns-then-is_up_to-clause-starts c = parting_starts c.args.book.now c.args.number c.args.since c.epoch_above.result c.epoch_above.ensures.parts

pub returns-else-is_up_to-clause-starts : goal.returns-else-is_up_to-clause-starts
returns-else-is_up_to-clause-starts c =
    first_starts c.args.book.now c.args.number c.args.since c.epoch_above.result c.epoch_above.ensures.parts (λ no. false≢true (c.if-is_up_to.ensures.1 no))

use Rattle.epoch_book.proofs.SoundLogs.{cut_is_learnt, advance_is_learnt}
use Rattle.epoch_book.proofs.laws.sound_facts_are_learnt.Goals as goal

pub returns-clause-cuts : goal.returns-clause-cuts
returns-clause-cuts c = λ roster log b t sound known h e r. cut_is_learnt roster log b sound known t h e r

pub returns-clause-advances : goal.returns-clause-advances
returns-clause-advances c = λ roster log b a sound known h e r. advance_is_learnt roster log b sound known a h e r

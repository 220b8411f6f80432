use Rattle.log_theorems.proofs.Log.{log_of_sound}
use Rattle.log_theorems.proofs.Meanings.{meaning_exists, meaning_unique}
use Rattle.log_theorems.proofs.one_meaning.Goals as goal

pub returns : goal.returns
returns c = λ roster log F sound p. let m = meaning_exists log F (log_of_sound roster log sound) p in (m.0, m.1, λ n h. meaning_unique F n m.0 h m.1)

use Rattle.redo_core.specs.Sets.{SameSet}
use Rattle.log_theorems.proofs.Log.{log_of_sound}
use Rattle.log_theorems.proofs.Fronts.{page_unique}
use Rattle.log_theorems.proofs.Meanings.{page_exists}
use Rattle.log_theorems.proofs.one_page.Goals as goal

pub returns : goal.returns
returns c = λ roster log part k page q sound p has.
    let one : SameSet part part = λ x. (λ h. h, λ h. h) in
    let s = page_exists log part (log_of_sound roster log sound) p k has page q in
    (s.0, s.1, λ image h. page_unique part part one k page q image s.0 h s.1)

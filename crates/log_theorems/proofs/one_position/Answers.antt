use Rattle.redo_core.specs.Sets.{SameSet}
use Rattle.redo_core.proofs.FactParts.{part_records}
use Rattle.log_theorems.proofs.Log.{log_of_sound}
use Rattle.log_theorems.proofs.Fronts.{front_exists, front_unique}
use Rattle.log_theorems.proofs.one_position.Goals as goal

pub returns : goal.returns
returns c = λ roster log part sound p.
    let l = log_of_sound roster log sound in
    let one : SameSet part part = λ x. (λ h. h, λ h. h) in
    let s = front_exists roster part (λ r h. (l.backs r (part_records part log p r h)).1) in
    (s.0, s.1, λ q h. front_unique part part one q s.0 h s.1)

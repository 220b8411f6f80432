use Rattle.reference_model.specs.Stands.{position_of}
use Rattle.reference_model.proofs.Coverings.{covers_where, where_covers}
use Rattle.log_theorems.proofs.Meanings.{meaning_at}
use Rattle.reference_model.proofs.comparing.covers.Goals as goal

pub returns : goal.returns
returns c = λ x y means_x means_y.
    let facts = c.args.facts.now in let others = c.args.others.now in
    let p = position_of c.in_ok-above.above in let q = position_of c.in_ok-below.below in
    let my = meaning_at facts p y c.in_ok-above.ensures means_y in
    let mx = meaning_at others q x c.in_ok-below.ensures means_x in
    (λ t. covers_where facts others p q x y my mx (c.covers_at.ensures.0 t), λ covers. c.covers_at.ensures.1 (where_covers facts others p q x y my mx covers))

use Rattle.std.proofs.Common.{◌≡◌, ◌↔◌, IsTrue, sym, subst, rules}
use Rattle.epoch_book.proofs.Scans.{found_cut}
use Rattle.redo_core.specs.CompleteEpoch.{HasCut}
use Rattle.epoch_book.proofs.cuts.has_epoch.Goals as goal

pub returns-in-Ok-clause-found : goal.returns-in-Ok-clause-found
returns-in-Ok-clause-found c =
    let same : c.in-Ok.epoch ≡ c.args.epoch = c.in-Ok.ensures.1 in
    let found = found_cut c.args.cuts.now c.in-Ok.epoch c.place_of_epoch.result c.place_of_epoch.ensures.found c.place_of_epoch.ensures.absent in
    subst (λ e. IsTrue c.is_ok.result ↔ HasCut c.args.cuts.now e) same
    (subst (λ b. IsTrue b ↔ HasCut c.args.cuts.now c.in-Ok.epoch) (sym c.is_ok.ensures.value) found)

pub returns-in-Err-clause-found : goal.returns-in-Err-clause-found
returns-in-Err-clause-found c = search rules

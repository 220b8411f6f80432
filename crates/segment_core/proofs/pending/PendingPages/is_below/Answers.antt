use Rattle.std.proofs.Common.{◌≡◌, ◌≤◌, Some, None, ap, arith}
use Rattle.std.proofs.lemmas.Bool.{leb-true}
use Rattle.segment_core.specs.PendingPages.{PendingData}
use Rattle.segment_core.proofs.DuePages.{above_least}
use Rattle.segment_core.proofs.pending.PendingPages.is_below.Goals as goal

pub returns-in-Some : goal.returns-in-Some
returns-in-Some c = λ low r alive lt.
    let under : c.self.inside.top ≤ c.in-Some.lo = leb-true c.self.inside.top c.in-Some.lo low in
    let same : c.self.inside.top ≡ c.args.self.now.top = ap (λ (d : PendingData). d.top) c.self.view_is in
    above_least c.args.book.now c.args.epoch c.args.self.now.top (Some c.in-Some.lo) c.least_lo.ensures.book c.in-Some.ensures.least
    (let t : c.args.self.now.top ≤ c.in-Some.lo = omega arith in t) r alive lt

pub returns-in-None : goal.returns-in-None
returns-in-None c = λ low r alive lt.
    above_least c.args.book.now c.args.epoch c.args.self.now.top None c.least_lo.ensures.book c.in-None.ensures.least tt r alive lt

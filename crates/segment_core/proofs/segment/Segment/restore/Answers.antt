use Rattle.std.proofs.lemmas.Grind.{common_steps}
use Rattle.std.proofs.Common.{subst, [], List, arith}
use Rattle.redo_core.specs.Data.{RecordData}
use Rattle.segment_core.specs.Restoring.{GainsEach}
use Rattle.segment_core.proofs.Restored.{made_at}
use Rattle.segment_core.proofs.segment.Segment.restore.Goals as goal

pub returns : goal.returns
returns c =
    let gains : GainsEach [] c.args.records.items c.hold_all.new.hot =
    subst (λ (old : List RecordData). GainsEach old c.args.records.items c.hold_all.new.hot) c.new-hot.ensures c.in_ok-hold_all.ensures in
    made_at c.args.book c.hold_all.new.hot c.args.records.items c.args.base c.args.pages.items c.in_ok-store.store c.requires.none_at_0 gains
    c.in_ok-store.ensures.adopts c.in_ok-store.ensures.listed

pub same-store : goal.same-store
same-store c = grind (arith, common_steps)

pub same-book : goal.same-book
same-book c = grind (arith, common_steps)

pub anew-points-requires : goal.anew-points-requires
anew-points-requires c = grind (arith, common_steps)

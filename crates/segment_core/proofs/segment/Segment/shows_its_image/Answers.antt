use Rattle.std.proofs.Common.{subst}
use Rattle.std.specs.Option.{option_copied}
use Rattle.hot_log.specs.Alive.{IsHeldOf}
use Rattle.hot_log.specs.Found.{IsLeastRecord}
use Rattle.segment_theorems.specs.State.{State, image_of}
use Rattle.segment_theorems.specs.Shows.{Shows}
use Rattle.segment_core.proofs.SamePages.{shows_image}
use Rattle.segment_core.proofs.segment.Segment.shows_its_image.Goals as goal

pub returns-in-None : goal.returns-in-None
returns-in-None c = λ t.
    let i = c.self.inside in
    subst (λ (s : State). Shows s c.args.page c.args.point (image_of s.store c.args.page)) c.self.view_is
    (shows_image i.book i.hot i.base i.store c.args.page c.version.result c.args.point c.version.ensures
    (subst (λ o. IsLeastRecord (IsHeldOf i.book i.hot c.args.page c.version.result c.args.point) (option_copied o)) c.in-None.is c.next_of.ensures))

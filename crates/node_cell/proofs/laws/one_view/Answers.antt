use Rattle.std.proofs.Common.{subst}
use Rattle.redo_core.specs.PageAt.{IsPageAt}
use Rattle.node_cell.proofs.Keeping.{one_image}
use Rattle.node_cell.proofs.laws.one_view.Goals as goal

pub returns : goal.returns
returns g c =
    let log = g.L.LogName.log in
    let a = c.args.one.now in
    let b = c.args.other.now in
    one_image g.L.LogName.roster log a.epoch b.epoch a.page b.page a.point b.point a.image b.image c.requires.epoch c.requires.page c.requires.point
    c.one_page.ensures g.met.L.LogName.sound c.image.ensures.own.front.0
    (subst (IsPageAt log a.epoch a.page a.point) c.image.ensures.value c.image.ensures.own.shown)
    (subst (IsPageAt log b.epoch b.page b.point) c.image-2.ensures.value c.image-2.ensures.own.shown)

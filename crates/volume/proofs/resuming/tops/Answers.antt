use Rattle.std.proofs.Common.{ℕ, Option, Some, sym, subst, IfSome}
use Rattle.segment_theorems.specs.Shows.{Shows}
use Rattle.segment_core.specs.StoredPages.{IsStoredPage}
use Rattle.volume.proofs.Tops.{TopsTo, HasNumberAt, tops_none, tops_more}
use Rattle.volume.proofs.resuming.tops.Goals as goal

pub loop-next-init : goal.loop-next-init
loop-next-init c =
    let s = c.args.union.now in let next = c.stored_page_after-next.result in
    subst (TopsTo (IsStoredPage s) (HasNumberAt s c.args.point) next) (sym c.new-tops.ensures.items)
    (tops_none (IsStoredPage s) (HasNumberAt s c.args.point) next c.stored_page_after-next.ensures)

pub loop-next-preserved : goal.loop-next-preserved
loop-next-preserved c =
    let s = c.args.union.now in let point = c.args.point in let page = c.in-Some.page in let image = c.in-Some-2.image in
    let before : TopsTo (IsStoredPage s) (HasNumberAt s point) (Some page) c.loop-next.tops.items =
    subst (λ (n : Option ℕ). TopsTo (IsStoredPage s) (HasNumberAt s point) n c.loop-next.tops.items) c.in-Some.is c.loop-next.invariant in
    let shown : IfSome (Some image) (Shows s page point) = subst (λ o. IfSome o (Shows s page point)) c.in-Some-2.is c.in_ok-image.ensures.shows in
    tops_more (IsStoredPage s) (HasNumberAt s point) page c.number_of.result c.stored_page_after-next-in-Some.result c.loop-next.tops.items
    c.put_top.new.tops.items c.stored_page_after-next-in-Some.ensures (image, shown, c.number_of.ensures) before c.in_ok-put_top.ensures

use Rattle.std.proofs.Common.{◌≡◌, [], ◌∷◌, ◌++◌, List, Some, None, sym, subst}
use Rattle.redo_core.specs.Meaning.{ImageData}
use Rattle.segment_theorems.specs.Shows.{Shows}
use Rattle.segment_core.specs.StoredPages.{IsImageAtAnchor}
use Rattle.segment_core.proofs.PagesShown.{IsShown, ListsPassed, passed_none, passed_zeros, passed_more, passed_all}
use Rattle.segment_core.proofs.exported_pages.pages_at_anchor.Goals as goal
use Rattle.segment_core.proofs.exported_pages.pages_at_anchor.Goals.{in-Some-2+in_ok-push, in_default-2}

pub loop-next-init : goal.loop-next-init
loop-next-init c = λ anchor has.
    let s = c.args.segment.now in let next = c.stored_page_after-next.result in
    subst (ListsPassed s anchor next) (sym c.new-pages.ensures.items) (passed_none s anchor next c.opens_form.ensures.form c.stored_page_after-next.ensures)

pub loop-next-preserved : goal.loop-next-preserved
loop-next-preserved c = λ anchor has.
    let s = c.args.segment.now in let page = c.in-Some.page in let next = c.stored_page_after-next-in-Some.result in
    let form = c.opens_form.ensures.form in let is = c.stored_page_after-next-in-Some.ensures in
    let ys : List ImageData = c.loop-next.pages.items in
    let before : ListsPassed s anchor (Some page) ys = subst (λ n. ListsPassed s anchor n ys) c.in-Some.is (c.loop-next.invariant anchor has) in
    elim c.match-branch-2.branch [
      | in-Some-2+in_ok-push w ↦
          let x = w.in-Some-2.image in
          let at : IsImageAtAnchor s page (Some x) = subst (IsImageAtAnchor s page) w.in-Some-2.is c.in_ok-image.ensures in
          let shown : IsShown s anchor x = (subst (λ g. Shows s g anchor x.bytes) (sym at.0) (at.2 anchor has), at.1) in
          let more : ListsPassed s anchor next (ys ++ x ∷ []) = passed_more s anchor page next ys x form is at.0 shown before in
          let items : c.match-branch-2.pages.items ≡ ys ++ x ∷ [] = rw (w.pages-is, w.in_ok-push.ensures.items) in
          subst (ListsPassed s anchor next) (sym items) more
      | in_default-2 w ↦
          let none : IsImageAtAnchor s page None = subst (IsImageAtAnchor s page) w.in_default-2.is c.in_ok-image.ensures in
          let left : ListsPassed s anchor next ys = passed_zeros s anchor page next ys form is (none anchor has) before in
          subst (λ pages. ListsPassed s anchor next pages.items) (sym w.pages-is) left
    ]

pub returns : goal.returns
returns c = λ anchor has.
    let s = c.args.segment.now in let ys : List ImageData = c.loop-next.pages.items in
    passed_all s anchor ys (subst (λ n. ListsPassed s anchor n ys) c.in_default.is (c.loop-next.invariant anchor has))

use Rattle.std.proofs.Common.{◌≡◌, ◌<◌, length, Some, None, sym, subst, arith}
use Rattle.redo_core.specs.Shape.{page_len}
use Rattle.segment_core.specs.StoredPages.{IsImageAtAnchor}
use Rattle.segment_core.proofs.PagesShown.{CountsPassed, counts_none, counts_zeros, counts_more, counts_all}
use Rattle.segment_core.proofs.exported_pages.count_at_anchor.Goals as goal
use Rattle.segment_core.proofs.exported_pages.count_at_anchor.Goals.{in-Some-2, in_default-2}

pub loop-next-init : goal.loop-next-init
loop-next-init c = counts_none c.args.segment.now c.stored_page_after-next.result c.opens_form.ensures.form c.stored_page_after-next.ensures

pub loop-next-preserved : goal.loop-next-preserved
loop-next-preserved c =
    let s = c.args.segment.now in let page = c.in-Some.page in let next = c.stored_page_after-next-in-Some.result in
    let form = c.opens_form.ensures.form in let is = c.stored_page_after-next-in-Some.ensures in let count = c.loop-next.count in
    let before : CountsPassed s (Some page) count = subst (λ n. CountsPassed s n count) c.in-Some.is c.loop-next.invariant in
    let lt : page < 65536 = omega arith in
    elim c.match-branch-2.branch [
      | in-Some-2 w ↦
          let x = w.in-Some-2.image in
          let at : IsImageAtAnchor s page (Some x) = subst (IsImageAtAnchor s page) w.in-Some-2.is c.in_ok-image.ensures in
          let long : length x.bytes ≡ page_len = subst (λ bytes. length bytes ≡ page_len) w.page.ensures w.bytes-bytes.ensures.len in
          subst (CountsPassed s next) (sym w.count-is) (counts_more s page count next x form is lt at long before)
      | in_default-2 w ↦
          let none : IsImageAtAnchor s page None = subst (IsImageAtAnchor s page) w.in_default-2.is c.in_ok-image.ensures in
          subst (CountsPassed s next) (sym w.count-is) (counts_zeros s page count next form is lt none before)
    ]

pub returns : goal.returns
returns c =
    let s = c.args.segment.now in
    counts_all s c.loop-next.count (subst (λ n. CountsPassed s n c.loop-next.count) c.in_default.is c.loop-next.invariant)

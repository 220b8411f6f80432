use Rattle.std.proofs.Common.{◌≤◌, ◌<◌, length, sym, subst, ◌∙◌, arith, rules}
use Rattle.std.proofs.lemmas.Grind.{common_steps}
use Rattle.std.specs.List.{insert}
use Rattle.std.specs.List.Sorted.{IsPartitionPoint}
use Rattle.redo_core.specs.CompleteEpoch.{HasCutsTo, IsCompleteEpoch}
use Rattle.epoch_book.specs.Book.{book_of}
use Rattle.epoch_book.specs.Learning.{LearnsCut}
use Rattle.epoch_book.specs.Lows.{AreLows}
use Rattle.epoch_book.proofs.Books.{cuts_rise, cuts_shaped, epochs_fit, still_known, cut_book_by, cut_learns_by}
use Rattle.epoch_book.proofs.Least.{lows_kept}
use Rattle.redo_core.proofs.CompleteEpochs.{has_cuts}
use Rattle.epoch_book.proofs.book.EpochBook.add_cut.Goals as goal

pub complete_epoch_from-complete-requires-clause-rising : goal.complete_epoch_from-complete-requires-clause-rising
complete_epoch_from-complete-requires-clause-rising c = grind (arith, common_steps, cuts_rise)

pub complete_epoch_from-complete-requires-clause-fits : goal.complete_epoch_from-complete-requires-clause-fits
complete_epoch_from-complete-requires-clause-fits c = grind (arith, common_steps, epochs_fit)

pub complete_epoch_from-complete-requires-clause-known : goal.complete_epoch_from-complete-requires-clause-known
complete_epoch_from-complete-requires-clause-known c =
    let b = book_of c.self.inside.cuts.items c.self.inside.complete c.self.inside.points c.self.inside.waits in
    subst (λ cs. HasCutsTo cs c.self.inside.complete) (sym (c.deref.ensures.value ∙ c.in_ok-put_in.ensures.items))
    (still_known b c.args.place c.args.cut c.self.invariant.0)

pub raise-requires-clause-rising : goal.raise-requires-clause-rising
raise-requires-clause-rising c = grind (arith, common_steps, cuts_rise)

pub raise-requires-clause-shaped : goal.raise-requires-clause-shaped
raise-requires-clause-shaped c = search (rules, cuts_shaped)

pub raise-requires-clause-known : goal.raise-requires-clause-known
raise-requires-clause-known c =
    subst (λ cs. HasCutsTo cs c.complete_epoch_from-complete.result) (c.deref.ensures.value ∙ sym c.deref-2.ensures.value)
    (has_cuts c.deref.result.now c.complete_epoch_from-complete.result c.complete_epoch_from-complete.ensures)

pub raise-requires-clause-before : goal.raise-requires-clause-before
raise-requires-clause-before c =
    let b = book_of c.self.inside.cuts.items c.self.inside.complete c.self.inside.points c.self.inside.waits in
    let lows = c.self.inside.lows.items in
    subst (λ cs. AreLows cs c.self.inside.complete lows) (sym (c.deref-2.ensures.value ∙ c.in_ok-put_in.ensures.items))
    (lows_kept b c.args.place c.args.cut lows c.self.invariant.0
    (subst (λ b. IsPartitionPoint (λ d. d.epoch < c.args.cut.epoch) (λ d. c.args.cut.epoch < d.epoch) b.cuts c.args.place) (sym c.self.view_is) c.requires.gap)
    c.requires.shaped c.self.invariant.1)

pub raise-requires-clause-later : goal.raise-requires-clause-later
raise-requires-clause-later c =
    let b = book_of c.self.inside.cuts.items c.self.inside.complete c.self.inside.points c.self.inside.waits in
    let k = c.complete_epoch_from-complete.result in
    let complete : IsCompleteEpoch (insert b.cuts c.args.place c.args.cut) k =
    subst (λ cs. IsCompleteEpoch cs k) (c.deref.ensures.value ∙ c.in_ok-put_in.ensures.items) c.complete_epoch_from-complete.ensures in
    complete.1 c.self.inside.complete (still_known b c.args.place c.args.cut c.self.invariant.0)

pub invariant_of-self-in_default : goal.invariant_of-self-in_default
invariant_of-self-in_default c = grind (arith, common_steps)

pub invariant_of-self-2 : goal.invariant_of-self-2
invariant_of-self-2 c =
    let b = book_of c.self.inside.cuts.items c.self.inside.complete c.self.inside.points c.self.inside.waits in (
      cut_book_by b c.args.place c.args.cut c.complete_epoch_from-complete.result c.raise_points.new.points c.put_in.new.list.items c.deref.result.now
          c.as_slice.result.now c.keep_later.new.waits
          c.in_ok-put_in.ensures.items c.deref.ensures.value c.as_slice.ensures c.self.invariant.0
          (subst (λ b. c.args.place ≤ length b.cuts) (sym c.self.view_is) c.requires.within)
          (subst (λ b. IsPartitionPoint (λ d. d.epoch < c.args.cut.epoch) (λ d. c.args.cut.epoch < d.epoch) b.cuts c.args.place) (sym c.self.view_is) c.requires.gap)
          c.requires.shaped c.requires.fits c.complete_epoch_from-complete.ensures c.raise_points.ensures c.keep_later.ensures,
      subst (λ cs. AreLows cs c.complete_epoch_from-complete.result c.raise.new.lows.items) c.deref-2.ensures.value c.in-Ok.ensures.ok,
    )

pub returns-clause-ok : goal.returns-clause-ok
returns-clause-ok c =
    let b = book_of c.self.inside.cuts.items c.self.inside.complete c.self.inside.points c.self.inside.waits in
    subst (λ b. LearnsCut b c.args.cut (book_of c.put_in.new.list.items c.complete_epoch_from-complete.result c.raise_points.new.points
    c.keep_later.new.waits)) c.self.view_is
    (cut_learns_by b c.args.place c.args.cut c.complete_epoch_from-complete.result c.raise_points.new.points c.put_in.new.list.items c.as_slice.result.now
    c.keep_later.new.waits
    c.in_ok-put_in.ensures.items c.as_slice.ensures c.raise_points.ensures c.keep_later.ensures)

pub returns-clause-book : goal.returns-clause-book
returns-clause-book c =
    let b = book_of c.self.inside.cuts.items c.self.inside.complete c.self.inside.points c.self.inside.waits in
    cut_book_by b c.args.place c.args.cut c.complete_epoch_from-complete.result c.raise_points.new.points c.put_in.new.list.items c.deref.result.now
    c.as_slice.result.now c.keep_later.new.waits
    c.in_ok-put_in.ensures.items c.deref.ensures.value c.as_slice.ensures c.self.invariant.0
    (subst (λ b. c.args.place ≤ length b.cuts) (sym c.self.view_is) c.requires.within)
    (subst (λ b. IsPartitionPoint (λ d. d.epoch < c.args.cut.epoch) (λ d. c.args.cut.epoch < d.epoch) b.cuts c.args.place) (sym c.self.view_is) c.requires.gap)
    c.requires.shaped c.requires.fits c.complete_epoch_from-complete.ensures c.raise_points.ensures c.keep_later.ensures

pub returns-in_default-clause-book : goal.returns-in_default-clause-book
returns-in_default-clause-book c = (invariant_of-self-in_default c).0

pub remove-requires : goal.remove-requires
remove-requires c = grind (arith, common_steps)

pub invariant_of-self : goal.invariant_of-self
invariant_of-self c = grind (arith, common_steps)

pub raise_points-requires : goal.raise_points-requires
raise_points-requires c = grind (arith, common_steps)

pub returns-in_default-clause-err : goal.returns-in_default-clause-err
returns-in_default-clause-err c = grind (arith, common_steps)

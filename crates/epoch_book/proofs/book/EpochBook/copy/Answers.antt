use Rattle.std.proofs.Common.{◌≡◌, sym, ap, ◌∙◌, subst}
use Rattle.std.proofs.lemmas.List.Elements.{same_from_all_zip}
use Rattle.epoch_book.specs.Book.{IsBook, book_of}
use Rattle.epoch_book.specs.Lows.{AreLows}
use Rattle.epoch_book.proofs.book.EpochBook.copy.Goals as goal

cuts_are : (c : goal.In_ok-copy) → c.in_ok-clone.field-0.items ≡ c.self.inside.cuts.items
cuts_are c = same_from_all_zip _ c.self.inside.cuts.items c.in_ok-clone.field-0.items c.in_ok-clone.ensures.cases.0 (λ x y is. is)

is_copied : (c : goal.In_ok-copy) → book_of c.in_ok-clone.field-0.items c.self.inside.complete c.in_ok-clone-3.field-0 c.in_ok-copy.field-0
    ≡ book_of c.self.inside.cuts.items c.self.inside.complete c.self.inside.points c.self.inside.waits
is_copied c =
    let b = c.self.inside in
    ap (λ cs. book_of cs b.complete c.in_ok-clone-3.field-0 c.in_ok-copy.field-0) (cuts_are c)
    ∙ ap (λ ps. book_of b.cuts.items b.complete ps c.in_ok-copy.field-0) c.in_ok-clone-3.ensures.cases
    ∙ ap (λ ws. book_of b.cuts.items b.complete b.points ws) c.in_ok-copy.ensures

pub invariant_of-result : goal.invariant_of-result
invariant_of-result c =
    let lows = same_from_all_zip _ c.self.inside.lows.items c.in_ok-clone-2.field-0.items c.in_ok-clone-2.ensures.cases.0 (λ x y is. is) in (
      subst IsBook (sym (is_copied c)) c.self.invariant.0,
      subst (λ cs. AreLows cs c.self.inside.complete c.in_ok-clone-2.field-0.items) (sym (cuts_are c))
          (subst (AreLows c.self.inside.cuts.items c.self.inside.complete) (sym lows) c.self.invariant.1),
    )

pub returns : goal.returns
returns c = is_copied c ∙ c.self.view_is

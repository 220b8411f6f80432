use Rattle.std.proofs.Common.{◌≡◌, sym, ap, ◌∙◌, subst}
use Rattle.std.proofs.lemmas.List.Elements.{same_from_all_zip}
use Rattle.redo_core.specs.Book.{IsBook, book_of}
use Rattle.messages.proofs.books.Book.copy.Goals as goal

is_copied : (c : goal.In_ok-clone-2) → book_of c.in_ok-clone.field-0.items c.self.inside.complete c.in_ok-copy.field-0 c.in_ok-clone-2.field-0.items
    ≡ book_of c.self.inside.cuts.items c.self.inside.complete c.self.inside.points c.self.inside.waits.items
is_copied c =
    let b = c.self.inside in
    let cuts = same_from_all_zip _ b.cuts.items c.in_ok-clone.field-0.items c.in_ok-clone.ensures.cases.0 (λ x y is. is) in
    let waits = same_from_all_zip _ b.waits.items c.in_ok-clone-2.field-0.items c.in_ok-clone-2.ensures.cases.0 (λ x y is. is) in
    ap (λ cs. book_of cs b.complete c.in_ok-copy.field-0 c.in_ok-clone-2.field-0.items) cuts
    ∙ ap (λ ps. book_of b.cuts.items b.complete ps c.in_ok-clone-2.field-0.items) c.in_ok-copy.ensures
    ∙ ap (λ ws. book_of b.cuts.items b.complete b.points ws) waits

pub invariant_of-result : goal.invariant_of-result
invariant_of-result c = subst IsBook (sym (is_copied c)) c.self.invariant

pub returns : goal.returns
returns c = is_copied c ∙ c.self.view_is

use Rattle.std.proofs.Common.{◌≡◌, sym, ap, ◌∙◌, subst}
use Rattle.std.proofs.lemmas.List.Elements.{same_from_all_zip}
use Rattle.messages.specs.Deltas.{IsDelta, delta_of}
use Rattle.messages.proofs.deltas.Delta.copy.Goals as goal

is_copied : (c : goal.In_ok-records) → delta_of c.in_ok-book.book c.self.inside.base c.in_ok-pages.pages.items c.in_ok-records.records.items
    ≡ delta_of c.self.inside.book c.self.inside.base c.self.inside.pages.items c.self.inside.records.items
is_copied c =
    let d = c.self.inside in
    let pages = same_from_all_zip _ d.pages.items c.in_ok-pages.pages.items c.in_ok-pages.ensures.cases.0 (λ x y is. is) in
    let records = same_from_all_zip _ d.records.items c.in_ok-records.records.items c.in_ok-records.ensures.cases.0 (λ x y is. is) in
    ap (λ b. delta_of b d.base c.in_ok-pages.pages.items c.in_ok-records.records.items) c.in_ok-book.ensures
    ∙ ap (λ ps. delta_of d.book d.base ps c.in_ok-records.records.items) pages
    ∙ ap (λ rs. delta_of d.book d.base d.pages.items rs) records

pub new-requires : goal.new-requires
new-requires c = subst IsDelta (sym (is_copied c)) c.self.invariant

pub returns : goal.returns
returns c = c.new.ensures ∙ is_copied c.before ∙ c.self.view_is

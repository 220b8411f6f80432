use Rattle.std.proofs.Common.{◌≡◌, ℕ, List, sym, ap, ◌∙◌, subst}
use Rattle.std.proofs.lemmas.Result.{IfOk-weaker}
use Rattle.redo_core.specs.Data.{CutData, AdvanceData}
use Rattle.redo_core.specs.Book.{BookData, IsBook, book_of}
use Rattle.snapshot.proofs.finishing.book_from.Goals as goal

pub returns : goal.returns
returns c =
    let b = c.args.book.now in
    IfOk-weaker c.from_parts.result _ (λ (own : BookData). own ≡ b) (λ own is. is
    ∙ ap (λ (xs : List CutData). book_of xs c.complete.result c.from_vec-points.result c.in_ok-waits.waits.items) (c.in_ok-cuts.ensures.items ∙ c.cuts.ensures.cuts)
    ∙ ap (λ n. book_of b.cuts n c.from_vec-points.result c.in_ok-waits.waits.items) c.complete.ensures.complete
    ∙ ap (λ (xs : List ℕ). book_of b.cuts b.complete xs c.in_ok-waits.waits.items) (c.from_vec-points.ensures ∙ c.in_ok-from_slice.ensures.items ∙ c.points.ensures.points)
    ∙ ap (λ (xs : List AdvanceData). book_of b.cuts b.complete b.points xs) (c.in_ok-waits.ensures.items ∙ c.waits.ensures.waits))
    c.from_parts.ensures

pub from_parts-requires : goal.from_parts-requires
from_parts-requires c =
    let b = c.args.book.now in
    let cuts = c.in_ok-cuts.ensures.items ∙ c.cuts.ensures.cuts in
    let points = c.from_vec-points.ensures ∙ c.in_ok-from_slice.ensures.items ∙ c.points.ensures.points in
    let waits = c.in_ok-waits.ensures.items ∙ c.waits.ensures.waits in
    subst (λ (xs : List CutData). IsBook (book_of xs c.complete.result c.from_vec-points.result c.in_ok-waits.waits.items)) (sym cuts)
    (subst (λ n. IsBook (book_of b.cuts n c.from_vec-points.result c.in_ok-waits.waits.items)) (sym c.complete.ensures.complete)
    (subst (λ (xs : List ℕ). IsBook (book_of b.cuts b.complete xs c.in_ok-waits.waits.items)) (sym points)
    (subst (λ (xs : List AdvanceData). IsBook (book_of b.cuts b.complete b.points xs)) (sym waits) c.complete.ensures.shape)))

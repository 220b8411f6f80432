use Rattle.std.proofs.Common.{◌≡◌, ℕ, List, Option, Some, None, false, not, refl, ap, ◌∙◌}
use Rattle.std.specs.Option.{is_some}
use Rattle.redo_core.specs.Data.{RecordData}
use Rattle.redo_core.specs.Standing.{IsAlive}
use Rattle.redo_core.specs.declared.keys.Key.{Key}
use Rattle.epoch_book.specs.Book.{BookData}
use Rattle.hot_log.specs.Alive.{IsAliveOfBack}
use Rattle.hot_log.specs.Indexing.{IsNextHeld}
use Rattle.hot_log.proofs.Climb.{alive_key, from_zero}
use Rattle.hot_log.proofs.Since.{over_first}
use Rattle.hot_log.proofs.view.BookView.first_of_back.Goals as goal

none_second : (b : BookData) (held : List RecordData) (back : ℕ) (key : Key) (o : Option Key) → IsNextHeld (λ r. r.back) held back key o → is_some o ≡ false → IsAliveOfBack b held back key None
none_second b held back key None none is = λ r h e p. none r h.0 e p
none_second b held back key (Some next) found is = absurd (cc)

pub returns-in_err-first-clause-none : goal.returns-in_err-first-clause-none
returns-in_err-first-clause-none c = λ _ r h e p.
    c.in_err-first.ensures.none refl r h.0 e (over_first c.args.self.now.book.now c.args.self.now.held.now c.args.back c.args.since c.requires c.in_err-first.ensures.form r h e)

pub returns-then-is_alive-clause-some : goal.returns-then-is_alive-clause-some
returns-then-is_alive-clause-some c =
    let b = c.args.self.now.book.now in let held = c.args.self.now.held.now in let first = c.in_ok-first.first in
    let s = c.in_ok-first.ensures.some in
    let t = s.0.0 in
    let a : IsAlive b.cuts b.complete t.0.epoch t.0.number = alive_key b t.0 first t.3 (c.if-is_alive.ensures.alive.0 refl) in (
      (
        (t.0, (t.1, a), t.2, t.3, from_zero held t.0 c.in_ok-first.ensures.form t.1),
        λ r h e p. s.0.1 r h.0 e (over_first b held c.args.back c.args.since c.requires c.in_ok-first.ensures.form r h e),
      ),
      (None, none_second b held c.args.back first c.in_ok-first.second s.1 (c.is_none.ensures ∙ ap not c.if-is_none.true), refl),
    )

pub returns-in_err-first-clause-some : goal.returns-in_err-first-clause-some
returns-in_err-first-clause-some c = rw c.from_residual.ensures tt

pub returns-in_err-first-2-clause-none : goal.returns-in_err-first-2-clause-none
returns-in_err-first-2-clause-none c = λ _. c.in_err-first-2.ensures.found

pub returns-in_err-first-2-clause-some : goal.returns-in_err-first-2-clause-some
returns-in_err-first-2-clause-some c = rw c.from_residual-in_err-first-2.ensures tt

pub returns-clause-some : goal.returns-clause-some
returns-clause-some c = (c.in_ok-first-2.ensures.found, (c.alive_of_back-2.result, c.alive_of_back-2.ensures.found, c.is_some-is_second.ensures))

pub returns-then-is_alive-clause-book : goal.returns-then-is_alive-clause-book
returns-then-is_alive-clause-book c = c.if-is_alive.ensures.book

pub returns-then-is_alive-clause-form : goal.returns-then-is_alive-clause-form
returns-then-is_alive-clause-form c = c.in_ok-first.ensures.form

pub returns-in_err-first-2-clause-book : goal.returns-in_err-first-2-clause-book
returns-in_err-first-2-clause-book c = c.in_err-first-2.ensures.book

pub returns-in_err-first-2-clause-form : goal.returns-in_err-first-2-clause-form
returns-in_err-first-2-clause-form c = c.in_err-first-2.ensures.form

pub returns-clause-book : goal.returns-clause-book
returns-clause-book c = c.in_ok-first-2.ensures.book

pub returns-clause-form : goal.returns-clause-form
returns-clause-form c = c.in_ok-first-2.ensures.form

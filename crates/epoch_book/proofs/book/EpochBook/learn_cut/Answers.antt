use Rattle.std.proofs.lemmas.Grind.{common_steps}
use Rattle.std.proofs.Common.{◌≡◌, sym, subst, ap, ◌∙◌, arith, Err, OnOk}
use Rattle.std.specs.List.{Contains}
use Rattle.redo_core.specs.declared.facts.Fact.TheVariants.{Cut}
use Rattle.std.proofs.lemmas.Bool.Decides.{nat_tests}
use Rattle.epoch_book.specs.Book.{book_of, IsBook}
use Rattle.epoch_book.specs.Knowing.{KnowsMore}
use Rattle.epoch_book.specs.Refusing.{RefusesCut, LacksCut}
use Rattle.epoch_book.specs.declared.refusals.BookRefusal.TheVariants.{Contradiction, OtherCut}
use Rattle.epoch_book.proofs.Books.{cut_knows, held_learns}
use Rattle.epoch_book.proofs.Scans.{no_cut}
use Rattle.epoch_book.proofs.OneReason.{one_cut_refusal, held_unrefused, held_at, same_data}
use Rattle.epoch_book.proofs.book.EpochBook.learn_cut.Goals as goal
use Rattle.epoch_book.proofs.book.EpochBook.learn_cut.Goals.{then-eq, else-eq}

pub returns-in-Some-clause-refuses : goal.returns-in-Some-clause-refuses
returns-in-Some-clause-refuses c = λ e h.
    let lacks : LacksCut c.args.self.now.cuts c.args.cut.epoch =
    subst (λ b. LacksCut b.cuts c.args.cut.epoch) c.self.view_is
    (subst (λ cs. LacksCut cs c.args.cut.epoch) c.deref.ensures.value
    (subst (λ n. LacksCut c.deref.result.now n) c.epoch.ensures.value (no_cut c.deref.result.now c.epoch.result c.in-Err.place c.in-Err.ensures.absent.1))) in
    ap Err (one_cut_refusal c.args.self.now c.args.cut c.against_cut.ensures.book (Contradiction c.in-Some.held) e (c.in-Some.ensures.some lacks) h)

pub returns-in_ok-add_cut-in-Err-clause-knows : goal.returns-in_ok-add_cut-in-Err-clause-knows
returns-in_ok-add_cut-in-Err-clause-knows c = cut_knows c.args.self.now c.args.cut c.add_cut.new.self c.against_cut.ensures.book c.add_cut.ensures.book
    c.in_ok-add_cut-in-Err.ensures.ok

pub returns-after-eq-clause-knows : goal.returns-after-eq-clause-knows
returns-after-eq-clause-knows c =
    let b = book_of c.self.inside.cuts.items c.self.inside.complete c.self.inside.points c.self.inside.waits in
    let held = held_at b c.deref.result.now c.in-Ok.place c.epoch.result c.index.result.now c.deref.ensures.value c.in-Ok.ensures.found c.index.ensures in
    elim c.if-eq.branch [
      | then-eq w ↦
          let e : c.index.result.now.epoch ≡ c.args.cut.epoch = grind (arith, nat_tests) in
          let l : c.index.result.now.lo ≡ c.args.cut.lo = grind (arith, nat_tests) in
          let h : c.index.result.now.hi ≡ c.args.cut.hi = grind (arith, nat_tests) in
          let there : Contains b.cuts c.args.cut = subst (Contains b.cuts) (same_data c.index.result.now c.args.cut e l h) held.0 in
          subst (λ r. OnOk r (KnowsMore c.args.self.now (Cut c.args.cut) c.args.self.now)) (sym w.result-is)
          (subst (λ x. KnowsMore x (Cut c.args.cut) x) c.self.view_is
          (cut_knows b c.args.cut b c.self.invariant.0 c.self.invariant.0 (held_learns b c.args.cut c.self.invariant.0 there)))
      | else-eq w ↦ subst (λ r. OnOk r (KnowsMore c.args.self.now (Cut c.args.cut) c.args.self.now)) (sym w.result-is) tt
    ]

pub returns-after-eq-clause-refuses : goal.returns-after-eq-clause-refuses
returns-after-eq-clause-refuses c = λ e h.
    let b = book_of c.self.inside.cuts.items c.self.inside.complete c.self.inside.points c.self.inside.waits in
    let refused : RefusesCut b c.args.cut e = subst (λ x. RefusesCut x c.args.cut e) (sym c.self.view_is) h in
    let held = held_at b c.deref.result.now c.in-Ok.place c.epoch.result c.index.result.now c.deref.ensures.value c.in-Ok.ensures.found c.index.ensures in
    elim c.if-eq.branch [
      | then-eq w ↦
          let e' : c.index.result.now.epoch ≡ c.args.cut.epoch = grind (arith, nat_tests) in
          let l : c.index.result.now.lo ≡ c.args.cut.lo = grind (arith, nat_tests) in
          let h' : c.index.result.now.hi ≡ c.args.cut.hi = grind (arith, nat_tests) in
          absurd (held_unrefused b c.args.cut c.self.invariant.0 (subst (Contains b.cuts) (same_data c.index.result.now c.args.cut e' l h') held.0) e refused)
      | else-eq w ↦
          w.result-is ∙ ap Err (one_cut_refusal b c.args.cut c.self.invariant.0 (OtherCut c.index.result.now) e (
            held.0,
            held.1 ∙ c.epoch.ensures.value,
            λ q. absurd (
                let e' : c.index.result.now.epoch ≡ c.args.cut.epoch = ap (λ x. x.epoch) q in
                let l : c.index.result.now.lo ≡ c.args.cut.lo = ap (λ x. x.lo) q in
                let h' : c.index.result.now.hi ≡ c.args.cut.hi = ap (λ x. x.hi) q in
                grind (arith, nat_tests)),
          )
          refused)
    ]

pub returns-after-eq-clause-book : goal.returns-after-eq-clause-book
returns-after-eq-clause-book c = subst IsBook c.self.view_is c.self.invariant.0

pub returns-after-eq-clause-unchanged : goal.returns-after-eq-clause-unchanged
returns-after-eq-clause-unchanged c = grind (arith, common_steps)

pub returns-in_ok-add_cut-in-Err-clause-memory : goal.returns-in_ok-add_cut-in-Err-clause-memory
returns-in_ok-add_cut-in-Err-clause-memory c = grind (arith, common_steps)

pub returns-after-eq-clause-memory : goal.returns-after-eq-clause-memory
returns-after-eq-clause-memory c = grind (arith, common_steps)

pub returns-after-eq-clause-refused : goal.returns-after-eq-clause-refused
returns-after-eq-clause-refused c = grind (arith, common_steps)

pub returns-in_ok-add_cut-in-Err-clause-known : goal.returns-in_ok-add_cut-in-Err-clause-known
returns-in_ok-add_cut-in-Err-clause-known c = grind (arith, common_steps)

pub returns-in_ok-add_cut-in-Err-clause-book : goal.returns-in_ok-add_cut-in-Err-clause-book
returns-in_ok-add_cut-in-Err-clause-book c = grind (arith, common_steps)

pub add_cut-requires-clause-gap : goal.add_cut-requires-clause-gap
add_cut-requires-clause-gap c = grind (arith, common_steps)

pub add_cut-requires-clause-shaped : goal.add_cut-requires-clause-shaped
add_cut-requires-clause-shaped c = grind (arith, common_steps)

pub returns-after-eq-clause-err : goal.returns-after-eq-clause-err
returns-after-eq-clause-err c = grind (arith, common_steps)

pub returns-after-eq-clause-known : goal.returns-after-eq-clause-known
returns-after-eq-clause-known c = grind (arith, common_steps)

pub add_cut-requires-clause-within : goal.add_cut-requires-clause-within
add_cut-requires-clause-within c = grind (arith, common_steps)

pub returns-in_ok-add_cut-in-Err-clause-ok : goal.returns-in_ok-add_cut-in-Err-clause-ok
returns-in_ok-add_cut-in-Err-clause-ok c = grind (arith, common_steps)

pub returns-in-Some-clause-refused : goal.returns-in-Some-clause-refused
returns-in-Some-clause-refused c = grind (arith, common_steps)

pub returns-in-Some-clause-book : goal.returns-in-Some-clause-book
returns-in-Some-clause-book c = grind (arith, common_steps)

pub returns-in_ok-add_cut-in-Err-clause-refuses : goal.returns-in_ok-add_cut-in-Err-clause-refuses
returns-in_ok-add_cut-in-Err-clause-refuses c = grind (arith, common_steps)

pub returns-in-Some-clause-memory : goal.returns-in-Some-clause-memory
returns-in-Some-clause-memory c = grind (arith, common_steps)

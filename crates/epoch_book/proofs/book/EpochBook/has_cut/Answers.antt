use Rattle.std.proofs.lemmas.Grind.{common_steps}
use Rattle.std.proofs.Common.{◌≡◌, ◌↔◌, ap, subst, arith, true, IsTrue, ◌∙◌}
use Rattle.std.specs.List.{Contains}
use Rattle.std.proofs.lemmas.Bool.Decides.{nat_tests}
use Rattle.epoch_book.specs.Book.{book_of}
use Rattle.epoch_book.proofs.OneReason.{held_at, same_data, same_cut}
use Rattle.epoch_book.proofs.book.EpochBook.has_cut.Goals as goal

pub returns-in-Ok : goal.returns-in-Ok
returns-in-Ok c =
    let b = book_of c.self.inside.cuts.items c.self.inside.complete c.self.inside.points c.self.inside.waits in
    let held = held_at b c.deref.result.now c.in-Ok.place c.epoch.result c.index.result.now c.deref.ensures.value c.in-Ok.ensures.found c.index.ensures in
    subst (λ x. IsTrue c.eq.result ↔ Contains x.cuts c.args.cut) c.self.view_is (
      λ h.
          let is : c.eq.result ≡ true = h in
          let e : c.index.result.now.epoch ≡ c.args.cut.epoch = grind (arith, nat_tests) in
          let l : c.index.result.now.lo ≡ c.args.cut.lo = grind (arith, nat_tests) in
          let k : c.index.result.now.hi ≡ c.args.cut.hi = grind (arith, nat_tests) in
          subst (Contains b.cuts) (same_data c.index.result.now c.args.cut e l k) held.0,
      λ h.
          let one : c.index.result.now ≡ c.args.cut = same_cut b c.index.result.now c.args.cut c.self.invariant.0 held.0 h (held.1 ∙ c.epoch.ensures.value) in
          let e : c.index.result.now.epoch ≡ c.args.cut.epoch = ap (λ x. x.epoch) one in
          let l : c.index.result.now.lo ≡ c.args.cut.lo = ap (λ x. x.lo) one in
          let k : c.index.result.now.hi ≡ c.args.cut.hi = ap (λ x. x.hi) one in
          let is : c.eq.result ≡ true = grind (arith, nat_tests) in
          is,
    )

pub returns-in-Err : goal.returns-in-Err
returns-in-Err c = grind (arith, common_steps)

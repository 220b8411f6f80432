use Rattle.std.proofs.Common.{◌≡◌, ℕ, nat_eq, IsTrue, arith}
use Rattle.std.proofs.lemmas.Bool.{false≢true}
use Rattle.hot_log.proofs.Start.{back_at}
use Rattle.hot_log.proofs.log.HotLog.has_back.Goals as goal

equal : (a b n : ℕ) → a ≡ b → IsTrue (nat_eq a n) → b ≡ n
equal a b n e h = grind arith

equal_of : (a b n : ℕ) → a ≡ b → b ≡ n → IsTrue (nat_eq a n)
equal_of a b n e h = grind arith

pub returns-in-Some : goal.returns-in-Some
returns-in-Some c =
    let x = c.in-Some.redo.now in let at = c.in-Some.ensures in
    let same = back_at c.args.self.now c.args.key x c.args.back c.opens_form.ensures.form at.0 at.1 in (
      λ (h : IsTrue (nat_eq c.back.result c.args.back)). same.0 (equal c.back.result x.back c.args.back c.back.ensures.value h),
      λ h. equal_of c.back.result x.back c.args.back c.back.ensures.value (same.1 h),
    )

pub returns-in-None : goal.returns-in-None
returns-in-None c = (λ h. absurd (false≢true h), λ h. absurd (c.in-None.ensures h.0 h.1 h.2))

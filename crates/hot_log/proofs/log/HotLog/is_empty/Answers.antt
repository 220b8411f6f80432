use Rattle.std.proofs.Common.{◌≡◌, ◌==◌, ℕ, List, [], ◌∷◌, length, IsTrue, refl, sym, ◌∙◌, ap, subst, arith}
use Rattle.std.proofs.lemmas.Bool.{eqb-true}
use Rattle.redo_core.specs.Data.{RecordData}
use Rattle.hot_log.proofs.log.HotLog.is_empty.Goals as goal

none : (held : List RecordData) → length held ≡ 0 → held ≡ []
none [] e = refl
none (r ∷ rs) e = absurd (omega arith)

pub returns-clause-value : goal.returns-clause-value
returns-clause-value c = (
  λ h. none c.args.self.now (sym c.len.ensures.value ∙ eqb-true c.len.result 0 h),
  λ h. subst (λ (n : ℕ). IsTrue (n == 0)) (sym (c.len.ensures.value ∙ ap (λ (l : List RecordData). length l) h)) refl,
)

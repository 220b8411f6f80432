use Rattle.std.proofs.Common.{◌≡◌, ℕ, ◌+◌, List, Option, Some, None, MatchOption, refl, sym, ◌∙◌, ap}
use Rattle.redo_core.specs.Sound.{IsSound}
use Rattle.redo_core.specs.declared.facts.Fact.{Fact}
use Rattle.redo_core.specs.declared.laws.Law.{Law}
use Rattle.redo_core.specs.declared.laws.LawFault.{LawFault}
use Rattle.log_theorems.proofs.FirstFaults.{one_fault, no_fault}
use Rattle.log_law.specs.Report.{Reports}
use Rattle.log_law.proofs.fixed.log_is_judged_one_way.Goals as goal

one_report : (roster : ℕ) (log : List Fact) (one other : LawFault) → Reports roster log one → Reports roster log other → one ≡ other
one_report roster log one other r s =
    let same = one_fault roster log r.0 s.0 one.law other.law r.2 s.2 in
    let place : one.place ≡ other.place = r.1 ∙ ap (λ (n : ℕ). n + 1) same.0 ∙ sym s.1 in
    let with_law : Law → LawFault = λ l. record { law = l; place = one.place } in
    let with_place : ℕ → LawFault = λ n. record { law = other.law; place = n } in
    ap with_law same.1 ∙ ap with_place place

one_verdict : (roster : ℕ) (log : List Fact) (one other : Option LawFault) → MatchOption one (IsSound roster log) (Reports roster log)
    → MatchOption other (IsSound roster log) (Reports roster log) → one ≡ other
one_verdict roster log None None h k = refl
one_verdict roster log None (Some other) h k = absurd (no_fault roster log k.0 other.law h k.2)
one_verdict roster log (Some one) None h k = absurd (no_fault roster log h.0 one.law k h.2)
one_verdict roster log (Some one) (Some other) h k = ap Some (one_report roster log one other h k)

pub returns : goal.returns
returns c = one_verdict c.args.roster c.args.facts.now c.in_ok-one.one c.in_ok-other.other (c.in_ok-one.ensures {u = tt}) (c.in_ok-other.ensures {u = tt})

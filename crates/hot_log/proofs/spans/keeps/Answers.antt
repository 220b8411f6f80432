use Rattle.std.proofs.Common.{◌≡◌, ℕ, ◌<◌, ◌≤◌, ◌^◌, IfSome, Option, sym, subst, arith}
use Rattle.redo_core.specs.Keys.{key_in}
use Rattle.hot_log.specs.Kept.{KeepsKey}
use Rattle.hot_log.specs.Spans.{IsSpan}
use Rattle.hot_log.specs.declared.spans.Span.{Span}
use Rattle.hot_log.proofs.spans.keeps.Goals as goal

pub returns-in-Some-clause-keeps : goal.returns-in-Some-clause-keeps
returns-in-Some-clause-keeps c =
    let b = c.args.book.now in
    let point : ℕ = c.args.point in
    let n : ℕ = c.args.key.number in
    let known : Span = c.in-Some.known in
    let spans : IsSpan b point known = subst (λ (o : Option Span). IfSome o (IsSpan b point)) c.in-Some.is c.requires in
    let same : known.epoch ≡ c.args.key.epoch = c.if-known-key.true in
    let from : known.from ≤ n = omega (arith, c.if-known-key-2.true) in
    let small : n < 2 ^ 64 = omega (arith, c.well_formed) in
    let both = spans n from small in (
      λ told. let upto : n ≤ known.to = grind (arith, told) in subst (λ (k : ℕ). KeepsKey b point (key_in k n)) same (both.0 upto),
      λ keeps. let upto : n ≤ known.to = both.1 (subst (λ (k : ℕ). KeepsKey b point (key_in k n)) (sym same) keeps) in grind (arith, upto),
    )

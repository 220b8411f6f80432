use Rattle.std.proofs.Common.{◌≡◌, ◌<◌, take, replicate, get_or, arith, sym, ap, ◌∙◌, refl}
use Rattle.std.proofs.lemmas.Bool.{false≢true}
use Rattle.std.proofs.lemmas.List.{get_or-replicate, take_all}
use Rattle.redo_core.specs.Writing.{zeros}
use Rattle.redo_core.proofs.pages.is_zero_to_end.Goals as goal

pub returns-then-b-ne0 : goal.returns-then-b-ne0
unfolding zeros
returns-then-b-ne0 c =
    let i = c.loop-b.b-index in
    let lt : i < 4096 = omega (arith, c.requires) in
    (λ t. absurd (false≢true t), λ e. absurd (c.if-b-ne0.true (ap (λ xs. get_or xs i 0) e ∙ get_or-replicate 4096 i 0 0 lt)))

pub returns : goal.returns
unfolding zeros
returns c =
    let i = c.loop-b.b-index in
    let whole : i ≡ 4096 = omega (arith, c.requires) in
    let all : take i c.args.bytes.now ≡ c.args.bytes.now = take_all i c.args.bytes.now (omega arith) in
    let same : c.args.bytes.now ≡ replicate 4096 0 = sym all ∙ (c.loop-b.invariant ∙ ap (λ n. replicate n 0) whole) in
    (λ t. same, λ e. refl)

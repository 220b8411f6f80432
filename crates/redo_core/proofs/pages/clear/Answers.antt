use Rattle.std.proofs.Common.{◌≡◌, ◌++◌, drop, replicate, arith, ap, ◌∙◌}
use Rattle.std.proofs.lemmas.List.{drop_all, append-nil}
use Rattle.redo_core.specs.Writing.{zeros}
use Rattle.redo_core.proofs.pages.clear.Goals as goal

pub returns : goal.returns
unfolding zeros
returns c =
    let whole : c.loop-i.i ≡ 4096 = omega arith in
    c.loop-i.invariant ∙ ap (λ n. replicate n 0 ++ drop n c.args.page.now) whole ∙ ap (λ xs. replicate 4096 0 ++ xs)
    (drop_all 4096 c.args.page.now (omega (arith, c.requires))) ∙ append-nil (replicate 4096 0)

use Rattle.std.proofs.Common.{◌≡◌, ◌==◌, drop, None, Some, ap, sym, ◌∙◌}
use Rattle.std.specs.Prelude.{position}
use Rattle.text.proofs.FirstPart.{not_parted}
use Rattle.text.proofs.Cuts.{cut_behind}
use Rattle.text.proofs.fields.split_after.Goals as goal

pub returns-in-None-clause-none : goal.returns-in-None-clause-none
returns-in-None-clause-none c =
    let none : position (λ b. b == c.args.separator) (drop c.args.from c.args.text.now) ≡ None =
    ap (position (λ b. b == c.args.separator)) (sym c.split_at.ensures.back) ∙ (sym c.first_at.ensures ∙ c.in-None.is) in
    not_parted c.args.separator (drop c.args.from c.args.text.now) none

pub returns-in-Some-clause-cut : goal.returns-in-Some-clause-cut
returns-in-Some-clause-cut c =
    let found : position (λ b. b == c.args.separator) (drop c.args.from c.args.text.now) ≡ Some c.in-Some.at =
    ap (position (λ b. b == c.args.separator)) (sym c.split_at.ensures.back) ∙ (sym c.first_at.ensures ∙ c.in-Some.is) in
    cut_behind c.args.separator c.args.text.now c.split_at-in-Some.result.0.now c.split_at-in-Some.result.1.now c.args.from c.in-Some.at found
    c.split_at-in-Some.ensures.front c.split_at-in-Some.ensures.back

use Rattle.std.proofs.Common.{rules, ap, ◌∙◌, sym, ◌∷◌, Some}
use Rattle.atomic_table.specs.Table.{rest}
use Rattle.node_lock.proofs.Keeping.{gives_back}
use Rattle.node_lock.proofs.steps.give.Goals as goal

pub swap-requires : goal.swap-requires
swap-requires g c = let now = c.exchange.ensures.3 in let h = c.requires.holds in (
  search rules,
  search rules,
  gives_back g.S.Trailed.trail g.S.Trailed.keeps c.args.steps.now.key _ _ _ c.args.state (ap (λ m. m.0.holds) now ∙ h.0)
      (ap (λ m. m.1) now ∙ ap (λ cs. (0, Some c.args.state) ∷ rest cs) h.2) (sym (ap (λ m. m.0.noted) now ∙ h.1)) c.requires.state,
)

use Rattle.std.proofs.lemmas.Grind.{common_steps}
use Rattle.std.proofs.Common.{rules, ap, ◌∙◌, sym, ◌∷◌, ◌++◌, [], Some, arith}
use Rattle.atomic_table.specs.Table.{rest}
use Rattle.node_lock.proofs.Keeping.{posts}
use Rattle.node_lock.proofs.steps.post.Goals as goal

pub swap-requires : goal.swap-requires
swap-requires g c = let now = c.exchange.ensures.3 in let h = c.requires.holds in let o = c.requires.one in (
  search rules,
  search rules,
  posts g.S.Trailed.trail g.S.Trailed.keeps c.args.steps.now.key _ _ _ c.args.pass c.args.log_place o.0 c.args.state
      (ap (λ m. m.0.holds) now ∙ h.0.0) (ap (λ m. m.0.parts) now ∙ o.1) (ap (λ m. m.1) now ∙ ap (λ cs. (0, Some c.args.state) ∷ rest cs) h.0.2)
      (h.1 ∙ ap (λ t. t ++ (c.args.pass, c.args.log_place) ∷ []) (sym (ap (λ m. m.0.noted) now))) c.requires.state,
)

pub returns-clause-list : goal.returns-clause-list
returns-clause-list g c = grind (arith, common_steps)

pub exchange-requires : goal.exchange-requires
exchange-requires g c = grind (arith, common_steps)

use Rattle.std.proofs.lemmas.Grind.{common_steps}
use Rattle.std.proofs.Common.{arith, ◌≡◌, ◌∷◌, [], ◌++◌, length, ap, sym, subst, ◌∙◌, Some}
use Rattle.node_lock.specs.Passes.{PassData, AreIdle}
use Rattle.serve_example.proofs.Parts.{the_only, at_first, none_refused}
use Rattle.serve_example.proofs.work.Goals as goal

pub close-requires : goal.close-requires
close-requires g c =
    let site = c.args.site in
    let served = c.in-Ok.served in
    let few : length served.refusals.items ≡ 0 = grind (arith, common_steps) in
    let inlet = (c.in-Ok.ensures.inlets (none_refused served.refusals.items few)).at 0 site.inlet c.only.result
    (at_first c.in_ok-inlets.inlets.items site.inlet c.in_ok-inlets.ensures.items) (at_first served.inlets.items c.only.result c.only.ensures) in
    let answered = (inlet.5 c.only-answers.result (at_first served.answers.items c.only-answers.result c.only-answers.ensures)).0 in
    let at : Some inlet.0 ≡ Some c.in-Some-default.inlet = sym inlet.1 ∙ c.in-Some-default.is-0 in
    let same : inlet.0 ≡ c.in-Some-default.inlet = cc in
    let node = the_only c.in_ok-nodes.nodes.items site.node c.only-2.result c.in_ok-nodes.ensures.items c.only-2.ensures in
    let pass = c.in-Some-default.inlet.pass in
    let items : c.push_reserved.new.self.items ≡ pass ∷ [] =
    c.push_reserved.ensures.items ∙ ap (λ (xs : _). xs ++ pass ∷ []) c.in_ok-passes.ensures.items in
    subst (AreIdle c.only-2.result.lock) (sym items) (
      (
        ap (λ z. z.pass.lock) (sym same) ∙ (ap (λ (p : PassData). p.lock) answered.receipts ∙ (site.delivers.1.0 ∙ ap (λ n. n.lock) node)),
        ap (λ z. z.pass.out) (sym same) ∙ (ap (λ (p : PassData). p.out) answered.receipts ∙ site.delivers.1.1),
      ),
      tt,
    )

use Rattle.std.proofs.Common.{[], ◌∷◌, ◌++◌, sym, ap, ◌∙◌}
use Rattle.node_lock.specs.Known.{list_in, out_of, carried}
use Rattle.node_lock.proofs.Passes.{out_is, last_place}
use Rattle.node_lock.proofs.pass.Pass.post.Goals as goal

pub invariant_of-self : goal.invariant_of-self
invariant_of-self g c = let now = c.post.ensures.list _ c.self.invariant.0 in
    (ap (λ m. m.0.parts) now ∙ ap (λ m. (c.self.inside.number, list_in m.0.parts) ∷ []) (sym now), ap (λ m. m.1) now ∙ ap (λ m. carried m.0.holds) (sym now))

pub returns : goal.returns
returns g c = let now = c.post.ensures.list _ c.self.invariant.0 in let v = c.self.view_is in let h = c.requires.trail in
    let noted = (out_is _ _ _ (ap (λ p. p.out) v ∙ h.1)).1 in let place = last_place _ _ _ _ noted h.2 in λ i. record {
      lock = (c.post.ensures.table ∙ ap (λ p. p.lock) v) i;
      number = (v i).number;
      list = (ap (λ m. list_in m.0.parts) now ∙ (λ j. (v j).list ++ (place j, c.args.log_place) ∷ [])) i;
      out = out_of (now i).0.holds (now i).0.noted;
    }

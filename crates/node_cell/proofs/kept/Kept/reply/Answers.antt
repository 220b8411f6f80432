use Rattle.std.proofs.Common.{subst, sym, ap, ◌∙◌, rules}
use Rattle.segment_theorems.specs.Means.{MeansAt}
use Rattle.node_cell.proofs.kept.Kept.reply.Goals as goal

pub new-requires : goal.new-requires
new-requires g c =
    let roster = g.L.LogName.roster in
    let log = g.L.LogName.log in
    let k = c.self.invariant in
    let m = k.means.1 in record {
      facts = k.facts;
      p = k.means.0;
      part = m.part;
      position = m.position;
      sent = c.in-Ok.ensures.fills roster log k.facts k.means.0 g.met.L.LogName.sound
          (subst (MeansAt roster log k.facts k.means.0) (sym (c.segment.ensures ∙ ap (λ x. x.segment) c.deref.ensures)) m);
    }

pub returns-in-Ok-clause-mail : goal.returns-in-Ok-clause-mail
returns-in-Ok-clause-mail g c = search rules

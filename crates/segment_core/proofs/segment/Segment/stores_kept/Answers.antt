use Rattle.std.proofs.Common.{◌↔◌, subst, IsTrue}
use Rattle.hot_log.specs.Scanning.{StoresKept}
use Rattle.segment_theorems.specs.State.{State}
use Rattle.segment_core.proofs.segment.Segment.stores_kept.Goals as goal

pub returns : goal.returns
returns c =
    let own = c.args.self.now in
    subst (λ (t : State). IsTrue c.stores_kept.result ↔ StoresKept own.book own.held c.args.point t.book t.held c.args.base) c.lower.view_is
    (subst (λ (s : State). IsTrue c.stores_kept.result ↔ StoresKept s.book s.held c.args.point c.lower.inside.book c.lower.inside.hot c.args.base) c.self.view_is c.stores_kept.ensures)

use Rattle.std.proofs.Common.{subst}
use Rattle.std.specs.Option.{option_copied}
use Rattle.hot_log.specs.Held.{IsRecordAt}
use Rattle.segment_theorems.specs.State.{State}
use Rattle.segment_core.proofs.segment.Segment.get.Goals as goal

pub returns : goal.returns
returns c = subst (λ (s : State). IsRecordAt s.held c.args.key (option_copied c.get.result)) c.self.view_is c.get.ensures

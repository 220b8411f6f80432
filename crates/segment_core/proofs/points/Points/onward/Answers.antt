use Rattle.std.proofs.Common.{refl, rules}
use Rattle.segment_core.proofs.Moving.{top_of, moved_on}
use Rattle.segment_core.proofs.points.Points.onward.Goals.{in-Some, in-None}
use Rattle.segment_core.proofs.points.Points.onward.Goals as goal

pub returns : goal.returns
returns c =
    moved_on c.args.view.now.book.now c.args.view.now.held.now c.args.self
    (record { complete = c.match-straight_end_since.complete.0; anchor = c.linked_to-2.result; straight = c.match-straight_end_since.complete.1; since = c.args.self.since })
    (search (rules, top_of)) (search (rules, top_of)) (search (rules, top_of)) c.requires.since refl

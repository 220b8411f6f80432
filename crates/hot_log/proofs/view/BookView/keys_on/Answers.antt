use Rattle.hot_log.proofs.Since.{onward_since}
use Rattle.hot_log.proofs.view.BookView.keys_on.Goals as goal

pub returns : goal.returns
returns c =
    onward_since c.args.self.now.book.now c.args.self.now.held.now c.args.number c.args.since c.start_above.result c.keys_above.result c.start_above.ensures.starts c.requires
    c.keys_above.ensures.above

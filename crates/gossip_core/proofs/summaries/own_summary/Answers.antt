use Rattle.std.proofs.Common.{◌≤◌, sym, subst}
use Rattle.std.specs.List.{AllByRecursion}
use Rattle.redo_core.specs.Order.{IsRising}
use Rattle.redo_core.specs.Keys.{KeyBefore, IsKey}
use Rattle.redo_core.specs.Book.{IsBook}
use Rattle.redo_core.specs.Roster.{least}
use Rattle.gossip_core.proofs.Summed.{keys_rise, keys_fit}
use Rattle.segment_core.proofs.OneView.{anchor_low}
use Rattle.gossip_core.proofs.summaries.own_summary.Goals as goal

pub new-requires : goal.new-requires
new-requires c =
    let s = c.args.segment.now in let anchor = c.anchor-anchor.result in
    let all = c.in_ok-keys.ensures.keys in
    record {
      book = subst IsBook (sym c.in_ok-book.ensures.book) c.book_of.ensures.form.book;
      anchor = subst (λ b. anchor ≤ least b.points) (sym c.in_ok-book.ensures.book) (anchor_low s anchor c.anchor-anchor.ensures.own);
      keys = subst (IsRising KeyBefore) (sym all.keys_are) (keys_rise all.kept all.lists.rising);
      each_key = subst (AllByRecursion IsKey) (sym all.keys_are) (keys_fit s anchor all.kept c.book_of.ensures.form all.lists);
    }

pub returns-clause-own : goal.returns-clause-own
returns-clause-own c =
    let all = c.in_ok-keys.ensures.keys in
    rw (c.new.ensures) (record {
      book = c.in_ok-book.ensures.book;
      anchor = c.anchor-anchor.ensures.own;
      kept = all.kept;
      kept_are = all.lists;
      keys = all.keys_are;
    })

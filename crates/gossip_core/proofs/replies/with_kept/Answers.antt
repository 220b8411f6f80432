use Rattle.std.proofs.Common.{◌≢◌, ◌≤◌, sym, subst, arith}
use Rattle.redo_core.specs.Order.{Lists, RecordBefore}
use Rattle.redo_core.specs.Book.{IsBook}
use Rattle.redo_core.specs.Roster.{least}
use Rattle.redo_core.specs.Writing.{zeros}
use Rattle.redo_core.proofs.Members.{all_of}
use Rattle.gossip_core.specs.Replying.{IsSent}
use Rattle.gossip_core.proofs.Parts.{base_low}
use Rattle.segment_core.proofs.OneView.{anchor_low}
use Rattle.gossip_core.proofs.replies.with_kept.Goals as goal

pub new-requires : goal.new-requires
new-requires c =
    let s = c.args.segment.now in let anchor = c.anchor-anchor.result in
    let lists = c.requires.shown anchor c.anchor-anchor.ensures.own in
    let low : s.base ≤ anchor = base_low s anchor c.book_of.ensures.form c.anchor-anchor.ensures.own in
    record {
      book = subst IsBook (sym c.in_ok-book.ensures.book) c.book_of.ensures.form.book;
      base = subst (λ b. anchor ≤ least b.points) (sym c.in_ok-book.ensures.book) (anchor_low s anchor c.anchor-anchor.ensures.own);
      no_base = λ none. absurd (omega (arith, none, low, c.requires.above));
      pages = lists.rising;
      each_page = all_of (λ i. i.bytes ≢ zeros) c.args.pages.items (λ i h. ((lists.members i).0 h).1);
      records = c.in_ok-records.ensures.rising;
    }

pub returns : goal.returns
returns c =
    rw (c.new.ensures) (record {
      book = c.in_ok-book.ensures.book;
      base = c.anchor-anchor.ensures.own;
      pages = c.requires.shown c.anchor-anchor.result c.anchor-anchor.ensures.own;
      records = subst (λ keys. Lists RecordBefore (IsSent c.args.segment.now c.anchor-anchor.result keys) c.in_ok-records.records.items) c.keys.ensures.keys
          c.in_ok-records.ensures;
    })

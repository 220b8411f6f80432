use Rattle.std.proofs.Common.{◌<◌, ◌∙◌, subst, sym}
use Rattle.log_law.proofs.Reaching.{tops_from}
use Rattle.log_law.proofs.lows.tops_of.Goals as goal

pub returns : goal.returns
returns c = tops_from c.args.facts.now c.args.reader c.args.len c.in_ok-tops.tops.items c.rise.new.tops.items c.in_ok-tops.ensures
    (c.rise.ensures.len ∙ c.in_ok-tops.ensures.len) (λ e n l. c.rise.ensures.each e n (subst (λ k. e < k) (sym c.in_ok-tops.ensures.len) l))

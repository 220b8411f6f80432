use Rattle.std.proofs.Common.{◌≡◌, ◌<◌, get_or, min, ap, subst, sym, ◌∙◌, arith}
use Rattle.log_law.specs.Lows.{AreLeastPoints}
use Rattle.log_law.proofs.Reaching.{lows_one, lows_more}
use Rattle.log_law.proofs.lows.lows_of.Goals as goal

pub loop-reader-init : goal.loop-reader-init
loop-reader-init c = record {
  some = omega arith;
  within = omega (arith, c.readers-readers.ensures.range, c.readers-readers.ensures.value);
  lows = lows_one c.args.facts.now c.args.len c.in_ok-lows.lows.items c.in_ok-lows.ensures;
}

pub loop-reader-preserved : goal.loop-reader-preserved
loop-reader-preserved c = record {
  some = omega arith;
  within = omega (arith, c.loop-reader-test.true);
  lows = lows_more c.loop-reader.reader c.args.facts.now c.args.len c.loop-reader.lows.items c.in_ok-tops.tops.items c.lower_all.new.lows.items
      c.loop-reader.invariant.lows c.in_ok-tops.ensures (c.lower_all.ensures.len ∙ c.loop-reader.invariant.lows.len)
      (λ e l. c.lower_all.ensures.each e (subst (λ k. e < k) (sym c.loop-reader.invariant.lows.len) l)
      ∙ ap (λ xs. min (get_or c.loop-reader.lows.items e 0) (get_or xs e 0)) c.deref.ensures.value);
}

pub returns : goal.returns
returns c =
    let all : c.loop-reader.reader ≡ c.args.roster =
    (let t : c.loop-reader.reader ≡ c.readers-readers.result = omega (arith, c.loop-reader.invariant.within, c.loop-reader-test.false) in
    t ∙ c.readers-readers.ensures.value) in
    subst (λ n. AreLeastPoints n c.args.facts.now c.args.len c.loop-reader.lows.items) all c.loop-reader.invariant.lows

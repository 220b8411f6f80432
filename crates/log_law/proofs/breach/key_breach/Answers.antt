use Rattle.std.proofs.Common.{◌≡◌, ◌<◌, length, refl, arith, Some}
use Rattle.std.specs.Prelude.{slice_get}
use Rattle.std.proofs.lemmas.Option.{slice_get_read, slice_get_within}
use Rattle.redo_core.specs.Sound.{SameKey}
use Rattle.log_law.proofs.Candidates.{each_more}
use Rattle.log_law.proofs.breach.key_breach.Goals as goal

pub bounds-facts-earlier : goal.bounds-facts-earlier
bounds-facts-earlier c =
    let inside : c.args.place < length c.args.facts.now = slice_get_within c.args.facts.now c.args.place c.args.fact.now c.requires in omega arith

pub returns-then-is_other : goal.returns-then-is_other
returns-then-is_other c =
    let log = c.args.facts.now in let p = c.loop-earlier.earlier in let f = c.index-facts-earlier.result in
    let inside : c.args.place < length c.args.facts.now = slice_get_within c.args.facts.now c.args.place c.args.fact.now c.requires in
    let at : slice_get log p ≡ Some f = slice_get_read log (length log) p f refl (omega arith) c.index-facts-earlier.is in (
      omega arith,
      (f, (p, refl, at), c.if-is_other.ensures.0, c.if-is_other.ensures.1),
    )

pub loop-earlier-preserved : goal.loop-earlier-preserved
loop-earlier-preserved c =
    let log = c.args.facts.now in let p = c.loop-earlier.earlier in let f = c.index-facts-earlier.result in
    let inside : c.args.place < length c.args.facts.now = slice_get_within c.args.facts.now c.args.place c.args.fact.now c.requires in
    each_more log (λ g. SameKey g c.args.fact.now → g ≡ c.args.fact.now) p f
    (slice_get_read log (length log) p f refl (omega arith) c.index-facts-earlier.is) c.if-is_other.ensures c.loop-earlier.invariant

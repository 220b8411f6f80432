use Rattle.std.proofs.Common.{◌≡◌, refl, length, Some, rules}
use Rattle.std.specs.Prelude.{slice_get}
use Rattle.std.proofs.lemmas.Option.{slice_get_read, MatchOption-at_some, MatchOption-at_none}
use Rattle.redo_core.specs.Sound.{KeepsLaws}
use Rattle.log_law.proofs.Verdict.{verdict_at, link_judges, link_further, other_further, kept_further, reported, all_sound}
use Rattle.redo_core.specs.Fault.{BreaksFirst}
use Rattle.log_law.proofs.check.least_fault.Goals as goal

pub returns-in-Some : goal.returns-in-Some
returns-in-Some c =
    let log = c.args.facts.now in let place = c.loop-place.place in let f = c.index-facts-place.result in
    let at : slice_get c.args.facts.now c.loop-place.place ≡ Some f = slice_get_read log
    (length c.args.facts.now) place f refl c.loop-place-test.true c.index-facts-place.is in
    let one = verdict_at log place c.args.other f at c.requires.other c.loop-place.invariant.other in
    let links = link_judges log place f c.args.link c.law_at.result at c.requires.link c.loop-place.invariant.link c.law_at.ensures in
    let found = c.broken_law.ensures c.args.roster log place c.requires.cuts c.requires.least_later_lo at one.0 one.1 links in
    reported c.args.roster log place f c.in-Some.law _ refl refl at
    (MatchOption-at_some (KeepsLaws c.args.roster log place f) (BreaksFirst c.args.roster log place f) c.in-Some.law c.in-Some.is found)
    c.loop-place.invariant.kept

pub loop-place-preserved : goal.loop-place-preserved
loop-place-preserved c =
    let log = c.args.facts.now in let place = c.loop-place.place in let f = c.index-facts-place.result in
    let at : slice_get c.args.facts.now c.loop-place.place ≡ Some f = slice_get_read log
    (length c.args.facts.now) place f refl c.loop-place-test.true c.index-facts-place.is in
    let one = verdict_at log place c.args.other f at c.requires.other c.loop-place.invariant.other in
    let links = link_judges log place f c.args.link c.law_at.result at c.requires.link c.loop-place.invariant.link c.law_at.ensures in
    let found = c.broken_law.ensures c.args.roster log place c.requires.cuts c.requires.least_later_lo at one.0 one.1 links in
    let kept : KeepsLaws c.args.roster c.args.facts.now c.loop-place.place f = MatchOption-at_none (KeepsLaws c.args.roster log place f)
    (BreaksFirst c.args.roster log place f) c.in_default.is found in
    record {
      other = other_further c.args.roster log place c.args.other f at c.requires.other kept c.loop-place.invariant.other;
      link = link_further c.args.roster log place f c.args.link at c.requires.link kept c.loop-place.invariant.link;
      kept = kept_further c.args.roster log place f at kept c.loop-place.invariant.kept;
    }

pub returns : goal.returns
returns c = search (rules, all_sound)

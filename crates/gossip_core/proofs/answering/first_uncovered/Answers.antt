use Rattle.std.proofs.Common.{◌≡◌, get_or, true, false, sym, ◌∙◌, rules}
use Rattle.redo_core.proofs.Scans.{whole}
use Rattle.redo_core.specs.Keys.{KeyBefore}
use Rattle.redo_core.specs.declared.keys.Key.{Key}
use Rattle.segment_core.proofs.Scanning.{next_passes}
use Rattle.gossip_core.specs.Answering.{IsCovered}
use Rattle.std.proofs.lemmas.List.{get_or_default}
use Rattle.gossip_core.proofs.Accounting.{first_fails}
use Rattle.gossip_core.proofs.answering.first_uncovered.Goals as goal

pub returns-then-not-is_covered : goal.returns-then-not-is_covered
returns-then-not-is_covered c =
    let keys = c.args.keys.now in let i = c.loop-key.key-index in let none : Key = record { epoch = 0; number = 0 } in
    first_fails KeyBefore (IsCovered c.args.segment.now c.args.anchor) keys i (get_or keys i none) c.requires c.loop-key-test.true
    (get_or_default keys i none (get_or keys i none) c.loop-key-test.true) c.loop-key.invariant
    (λ p. let e : true ≡ false = sym (c.is_covered.ensures.1 p) ∙ c.if-not-is_covered.true in cc)

pub loop-key-preserved : goal.loop-key-preserved
loop-key-preserved c = search (rules, next_passes)

pub returns : goal.returns
returns c = whole (IsCovered c.args.segment.now c.args.anchor) c.args.keys.now c.loop-key.key-index c.loop-key-test.false c.loop-key.invariant

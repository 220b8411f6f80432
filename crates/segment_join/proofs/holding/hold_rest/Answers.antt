use Rattle.std.proofs.Common.{◌≡◌, ◌<◌, length, get_or, map, ◌∙◌, sym, ap, arith, Bor, rules}
use Rattle.std.proofs.Math.ListN.{get_or-map}
use Rattle.std.proofs.lemmas.List.{length-map}
use Rattle.redo_core.specs.Data.{RecordData}
use Rattle.redo_core.proofs.Members.{item}
use Rattle.segment_join.proofs.Sparing.{first_next, first_all}
use Rattle.segment_join.proofs.KeptKnown.{knows_more}
use Rattle.segment_join.proofs.holding.hold_rest.Goals as goal

pub loop-redo-preserved : goal.loop-redo-preserved
loop-redo-preserved c =
    let now : Bor RecordData → RecordData = λ r. r.now in let rs = c.args.missing.now in let i = c.loop-redo.redo-index in let x = c.redo-item.result in
    let is : x.now ≡ get_or (map now rs) i x.now = ap now c.redo-item.is ∙ sym (get_or-map now rs i x) in
    let lt : i < length (map now rs) = omega (arith, c.loop-redo-test.true, length-map rs now) in (
      first_next (map now rs) i _ c.args.other.now _ _ x.now c.opens_form.ensures.form.held.rising lt is
          (c.requires.held x.now (item (map now rs) i x.now lt is)) c.loop-redo.invariant.0 c.in_ok-hold_one.ensures.holds,
      c.hold_one.ensures.began ∙ c.loop-redo.invariant.1,
    )

pub hold_one-requires-clause-taken : goal.hold_one-requires-clause-taken
hold_one-requires-clause-taken c = search (rules, knows_more)

pub returns-clause-holds : goal.returns-clause-holds
returns-clause-holds c =
    let now : Bor RecordData → RecordData = λ r. r.now in let rs = c.args.missing.now in
    first_all (map now rs) c.loop-redo.redo-index _ c.args.other.now _ c.requires.known (omega (arith, c.loop-redo-test.false, length-map rs now)) c.loop-redo.invariant.0

pub hold_one-requires-clause-held : goal.hold_one-requires-clause-held
hold_one-requires-clause-held c =
    let now : Bor RecordData → RecordData = λ r. r.now in let rs = c.args.missing.now in let i = c.loop-redo.redo-index in let x = c.redo-item.result in
    let is : x.now ≡ get_or (map now rs) i x.now = ap now c.redo-item.is ∙ sym (get_or-map now rs i x) in
    c.requires.held x.now (item (map now rs) i x.now (omega (arith, c.loop-redo-test.true, length-map rs now)) is)

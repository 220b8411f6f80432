use Rattle.std.proofs.lemmas.Grind.{common_steps}
use Rattle.std.proofs.Common.{◌≡◌, ◌∙◌, inl, inr, ap, arith}
use Rattle.redo_core.specs.Book.{roster_of}
use Rattle.segment_core.specs.declared.answers.Refusal.{Refusal}
use Rattle.gossip_core.specs.declared.absorbing.AbsorbRefusal.TheVariants.{Refused}
use Rattle.gossip_core.specs.Absorbing.{Answers, IsOfOneLog}
use Rattle.gossip_core.proofs.InOneLog.{both, only_memory}
use Rattle.gossip_core.proofs.absorbing.absorb.Goals as goal

-- the two are of one roster
pub take_delta-requires : goal.take_delta-requires
take_delta-requires c =
    let shown : c.readers-shown.result ≡ roster_of c.args.delta.now.book = c.readers-shown.ensures.readers ∙ ap roster_of c.book.ensures.book in
    omega (arith, c.readers-own.ensures, shown, c.if-own-shown.false)

pub returns-in-Some-clause-refused : goal.returns-in-Some-clause-refused
returns-in-Some-clause-refused c =
    let anchor = c.anchor-anchor.result in let above = c.anchor-anchor.ensures.own in
    let shown : c.readers-shown.result ≡ roster_of c.args.delta.now.book = c.readers-shown.ensures.readers ∙ ap roster_of c.book.ensures.book in
    let same : roster_of c.args.segment.now.book ≡ roster_of c.args.delta.now.book = omega (arith, c.readers-own.ensures, shown, c.if-own-shown.false) in
    (same, (anchor, above, c.in-Some.ensures.own anchor above))

pub returns-in-Ok-clause-answers : goal.returns-in-Ok-clause-answers
returns-in-Ok-clause-answers c =
    let anchor = c.anchor-anchor.result in let above = c.anchor-anchor.ensures.own in (anchor, above, c.in_default.ensures.own anchor above)

pub returns-in-Err-clause-refused : goal.returns-in-Err-clause-refused
returns-in-Err-clause-refused c =
    let anchor = c.anchor-anchor.result in let above = c.anchor-anchor.ensures.own in
    let shown : c.readers-shown.result ≡ roster_of c.args.delta.now.book = c.readers-shown.ensures.readers ∙ ap roster_of c.book.ensures.book in
    let same : roster_of c.args.segment.now.book ≡ roster_of c.args.delta.now.book = omega (arith, c.readers-own.ensures, shown, c.if-own-shown.false) in
    inr (same, (anchor, above, c.in_default.ensures.own anchor above), c.in-Err.ensures.refused)

pub returns-in-Ok-clause-means : goal.returns-in-Ok-clause-means
returns-in-Ok-clause-means c =
    let s = c.args.segment.now in let summary = c.args.summary.now in let d = c.args.delta.now in
    let anchor = c.anchor-anchor.result in let above = c.anchor-anchor.ensures.own in
    let answers : Answers s summary = (anchor, above, c.in_default.ensures.own anchor above) in
    both s summary d c.take_delta.new.segment c.opens_form.ensures.form answers c.in-Ok.ensures.absorbs

pub returns-in-Err-clause-sound : goal.returns-in-Err-clause-sound
returns-in-Err-clause-sound c = λ (one : IsOfOneLog c.args.segment.now c.args.summary.now c.args.delta.now).
    inl (ap (λ (why : Refusal). Refused why)
    (only_memory c.args.segment.now c.args.summary.now c.args.delta.now c.in-Err.why c.opens_form.ensures.form c.in-Err.ensures.refused one))

pub returns-then-own-shown-clause-refused : goal.returns-then-own-shown-clause-refused
returns-then-own-shown-clause-refused c = grind (arith, common_steps)

pub returns-then-own-shown-clause-sound : goal.returns-then-own-shown-clause-sound
returns-then-own-shown-clause-sound c = grind (arith, common_steps)

pub returns-in-Some-clause-sound : goal.returns-in-Some-clause-sound
returns-in-Some-clause-sound c = grind (arith, common_steps)

use Rattle.std.proofs.Common.{◌≡◌, List, length, refl, sym, ap, ◌∙◌, subst, arith}
use Rattle.std.proofs.lemmas.Bool.{eqb-true}
use Rattle.redo_core.specs.Data.{RecordData}
use Rattle.messages.specs.Pieces.{IsContent}
use Rattle.messages.specs.declared.pieces.PieceContent.TheVariants.{Records}
use Rattle.snapshot.specs.Placing.{RecordsFollow}
use Rattle.snapshot.proofs.Following.{all_before}
use Rattle.snapshot.proofs.placing.records_follow.Goals as goal

pub returns-then-lower-eq-BATCH : goal.returns-then-lower-eq-BATCH
returns-then-lower-eq-BATCH c =
    let rs = c.args.records.now in
    let qs : List RecordData = c.records-lower.result.now in
    let is : c.args.before.now ≡ Records qs = c.in-Records.is ∙ ap Records (sym c.records-lower.ensures) in
    let form : IsContent (Records qs) = subst IsContent is c.requires.before in
    let len : length qs ≡ 64 = c.if-lower-eq-BATCH.true in
    let last = c.index-lower.result in let first = c.index-records-0.result in (
      λ t. subst (λ content. RecordsFollow content rs) (sym is)
          (len, all_before qs rs 63 last first form.2 c.requires.rising (omega (arith, len)) c.index-lower.is c.index-records-0.is (c.is_before.ensures.0 t)),
      λ follows.
          let all = subst (λ content. RecordsFollow content rs) is follows in
          c.is_before.ensures.1 (all.1 last first (63, omega (arith, len), sym c.index-lower.is) (0, c.requires.some, sym c.index-records-0.is)),
    )

pub returns-in-Head : goal.returns-in-Head
returns-in-Head c = (λ _. subst (λ content. RecordsFollow content c.args.records.now) (sym c.in-Head.is) tt, λ _. refl)

pub returns-in-Page : goal.returns-in-Page
returns-in-Page c = (λ _. subst (λ content. RecordsFollow content c.args.records.now) (sym c.in-Page.is) tt, λ _. refl)

pub returns-else-lower-eq-BATCH : goal.returns-else-lower-eq-BATCH
returns-else-lower-eq-BATCH c = (
  λ h. absurd (c.if-lower-eq-BATCH.false (eqb-true (length c.records-lower.result.now) 64 h)),
  λ follows. absurd (
      let full = (subst (λ content. RecordsFollow content c.args.records.now) (c.in-Records.is ∙ ap Records (sym c.records-lower.ensures)) follows).0 in
      c.if-lower-eq-BATCH.false full),
)

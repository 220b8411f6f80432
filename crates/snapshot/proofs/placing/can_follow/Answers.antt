use Rattle.std.proofs.Common.{◌≡◌, List, refl, sym, subst, ◌∙◌, arith}
use Rattle.std.proofs.lemmas.Bool.{false≢true, ltb-true}
use Rattle.std.specs.List.{Contains}
use Rattle.redo_core.specs.Data.{RecordData}
use Rattle.messages.specs.declared.pieces.PieceContent.TheVariants.{Records}
use Rattle.snapshot.specs.Placing.{CanFollow, RecordsFollow, IsKeptFor}
use Rattle.snapshot.proofs.placing.can_follow.Goals as goal

pub returns-then-records_follow : goal.returns-then-records_follow
returns-then-records_follow c =
    let book = c.args.book.now in
    let anchor = c.args.anchor in
    let before = c.args.before.now in
    let batch : List RecordData = c.in-Records.batch in
    let is : c.args.here.now ≡ Records batch = c.in-Records.is in
    let follows : RecordsFollow before batch =
    subst (λ (rs : List RecordData). RecordsFollow before rs) c.records.ensures (c.if-records_follow.ensures.0 refl) in
    let own : c.records-then-records_follow.result.now ≡ batch = c.records-then-records_follow.ensures in (
      λ t. subst (λ content. CanFollow book anchor before content) (sym is)
          (follows, subst (λ (rs : List RecordData). (r : RecordData) → Contains rs r → IsKeptFor book anchor r) own (c.are_kept.ensures.0 t)),
      λ can. c.are_kept.ensures.1
          (subst (λ (rs : List RecordData). (r : RecordData) → Contains rs r → IsKeptFor book anchor r) (sym own)
          (subst (λ content. CanFollow book anchor before content) is can).1),
    )

pub returns-in-Head : goal.returns-in-Head
returns-in-Head c = (
  λ h. absurd (false≢true h),
  λ can. absurd (subst (λ content. CanFollow c.args.book.now c.args.anchor c.args.before.now content) c.in-Head.is can),
)

pub returns-then-anchor-gt0 : goal.returns-then-anchor-gt0
returns-then-anchor-gt0 c =
    let Follows = CanFollow c.args.book.now c.args.anchor c.args.before.now in (
      λ t. subst (λ content. Follows content) (sym c.in-Page.is) (omega (arith, c.if-anchor-gt0.true), c.page_follows.ensures.0 t),
      λ can. c.page_follows.ensures.1 (subst (λ content. Follows content) c.in-Page.is can).1,
    )

pub returns-else-anchor-gt0 : goal.returns-else-anchor-gt0
returns-else-anchor-gt0 c = (
  λ h. absurd (let above = ltb-true 0 c.args.anchor h in omega (arith, above, c.if-anchor-gt0.false)),
  λ can. absurd (
      let above = (subst (λ content. CanFollow c.args.book.now c.args.anchor c.args.before.now content) c.in-Page.is can).0 in omega (arith, above, c.if-anchor-gt0.false)),
)

pub returns-else-records_follow : goal.returns-else-records_follow
returns-else-records_follow c = (
  λ h. absurd (false≢true (sym c.if-records_follow.false ∙ h)),
  λ can. absurd (false≢true (sym c.if-records_follow.false ∙ c.records_follow.ensures.1
      (subst (λ (rs : List RecordData). RecordsFollow c.args.before.now rs) (sym c.records.ensures)
      (subst (λ content. CanFollow c.args.book.now c.args.anchor c.args.before.now content) c.in-Records.is can).0))),
)

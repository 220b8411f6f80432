use Rattle.std.proofs.Common.{◌≡◌, ◌+◌, ◌-◌, Some, sym, subst, arith}
use Rattle.std.proofs.lemmas.Bool.{false≢true}
use Rattle.messages.specs.Pieces.{PieceData}
use Rattle.snapshot.specs.Stagings.{piece_at}
use Rattle.snapshot.specs.Placing.{CanFollow}
use Rattle.messages.specs.declared.pieces.PieceContent.{PieceContent}
use Rattle.snapshot.proofs.Placed.{stands, follows, none_before, none_there}
use Rattle.snapshot.proofs.staging.Staging.can_stand.Goals as goal

pub returns-in_default : goal.returns-in_default
returns-in_default c =
    let index = c.args.index in let next : index - 1 + 1 ≡ index = omega (arith, c.requires.behind) in
    (λ h. absurd (false≢true h), λ can. absurd (none_before c.args.self.now (index - 1) index next (sym c.in_default.ensures.value) can))

pub returns-in_default-get : goal.returns-in_default-get
returns-in_default-get c = (
  λ h. absurd (false≢true h),
  λ can. absurd (none_there c.args.self.now c.args.index c.requires.behind (sym c.in_default-get.ensures.value) can),
)

pub returns : goal.returns
returns c =
    let st = c.args.self.now in
    let book = c.args.book.now in
    let anchor = c.args.anchor in
    let before : PieceData = c.in-Some.before.now in
    let here : PieceData = c.in-Some-get.here.now in
    let next : c.args.index - 1 + 1 ≡ c.args.index = omega (arith, c.requires.behind) in
    let b : piece_at st (c.args.index - 1) ≡ Some before = sym c.in-Some.ensures.value in
    let h : piece_at st c.args.index ≡ Some here = sym c.in-Some-get.ensures.value in (
      λ t. stands st book anchor (c.args.index - 1) c.args.index before here c.requires.head next b h
          (subst (λ (x : PieceContent). CanFollow book anchor x here.content) c.content.ensures.content
          (subst (λ (x : PieceContent). CanFollow book anchor c.content.result.now x) c.content-2.ensures.content (c.can_follow.ensures.0 t))),
      λ can. c.can_follow.ensures.1
          (subst (λ (x : PieceContent). CanFollow book anchor c.content.result.now x) (sym c.content-2.ensures.content)
          (subst (λ (x : PieceContent). CanFollow book anchor x here.content) (sym c.content.ensures.content)
          (follows st book anchor (c.args.index - 1) c.args.index before here c.requires.head next b h can))),
    )

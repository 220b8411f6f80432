use Rattle.std.proofs.Common.{◌≡◌, ℕ, ◌+◌, ◌<◌, ◌≤◌, ◌++◌, List, Some, inl, sym, subst}
use Rattle.messages.specs.Pieces.{PieceData}
use Rattle.snapshot.specs.Stagings.{StagingData, piece_at, IsStaging}
use Rattle.snapshot.specs.Hydrating.{pages_of}
use Rattle.snapshot.proofs.Brought.{AreBelow, below_none, below_more, brought, only_brought}
use Rattle.snapshot.proofs.staging.Staging.pages.Goals as goal
use Rattle.snapshot.proofs.staging.Staging.pages.Goals.{in-Some+in_ok-add_page, in_default}

pub loop-index-init : goal.loop-index-init
loop-index-init c = subst (AreBelow pages_of c.args.self.now 0) (sym c.new-pages.ensures.items) (below_none pages_of c.args.self.now)

pub loop-index-preserved : goal.loop-index-preserved
loop-index-preserved c =
    let st = c.args.self.now in let n = c.loop-index.index in let gs : List (ℕ × List ℕ) = c.loop-index.pages.items in
    elim c.match-get.branch [
      | in-Some+in_ok-add_page w ↦
          let p : PieceData = w.in-Some.piece.now in
          let is : piece_at st n ≡ Some p = sym w.in-Some.ensures.value in
          let items : gs ++ pages_of p.content ≡ c.match-get.pages.items = rw (w.pages-is, w.in_ok-add_page.ensures) in
          subst (AreBelow pages_of st (n + 1)) items (below_more pages_of st n gs p is c.loop-index.invariant)
      | in_default w ↦ absurd (c.requires.0 n
          (inl (subst (λ (s : StagingData). n < s.total) c.self.view_is c.loop-index-test.true), sym w.in_default.ensures.value))
    ]

pub returns-clause-brought : goal.returns-clause-brought
returns-clause-brought c =
    brought c.args.self.now c.loop-index.index c.loop-index.pages.items (subst IsStaging c.self.view_is c.self.invariant)
    (subst (λ (s : StagingData). s.total ≤ c.loop-index.index) c.self.view_is c.loop-index-test.false) c.loop-index.invariant

pub returns-clause-only : goal.returns-clause-only
returns-clause-only c = λ g h.
    let o = only_brought c.args.self.now c.loop-index.index c.loop-index.pages.items c.loop-index.invariant g h in (o.0, o.1)

use Rattle.std.proofs.Common.{◌≡◌, ◌+◌, ◌<◌, ◌≤◌, ◌++◌, List, Some, inl, sym, subst, rules}
use Rattle.redo_core.specs.Data.{RecordData}
use Rattle.redo_core.specs.Order.{IsRising, RecordBefore}
use Rattle.messages.specs.Pieces.{PieceData}
use Rattle.snapshot.specs.Stagings.{StagingData, piece_at, IsStaging}
use Rattle.snapshot.specs.Hydrating.{records_of}
use Rattle.snapshot.proofs.Brought.{AreBelow, below_more, rises_more, lists_all}
use Rattle.snapshot.proofs.staging.Staging.records.Goals as goal
use Rattle.snapshot.proofs.staging.Staging.records.Goals.{in-Some+in_ok-add_records, in_default}

pub loop-index-init : goal.loop-index-init
loop-index-init c = search rules

pub loop-index-preserved : goal.loop-index-preserved
loop-index-preserved c =
    let st = c.args.self.now in let n = c.loop-index.index in let xs : List RecordData = c.loop-index.records.items in
    elim c.match-get.branch [
      | in-Some+in_ok-add_records w ↦
          let p : PieceData = w.in-Some.piece.now in
          let is : piece_at st n ≡ Some p = sym w.in-Some.ensures.value in
          let items : xs ++ records_of p.content ≡ c.match-get.records.items = rw (w.records-is, w.in_ok-add_records.ensures) in
          record {
            members = subst (AreBelow records_of st (n + 1)) items (below_more records_of st n xs p is c.loop-index.invariant.members);
            rising = subst (IsRising RecordBefore) items
                (rises_more st n xs p c.get.ensures.form c.requires is c.loop-index.invariant.members c.loop-index.invariant.rising);
          }
      | in_default w ↦ absurd (c.requires.0 n
          (inl (subst (λ (s : StagingData). n < s.total) c.self.view_is c.loop-index-test.true), sym w.in_default.ensures.value))
    ]

pub returns : goal.returns
returns c =
    lists_all c.args.self.now c.loop-index.index c.loop-index.records.items (subst IsStaging c.self.view_is c.self.invariant)
    (subst (λ (s : StagingData). s.total ≤ c.loop-index.index) c.self.view_is c.loop-index-test.false) c.loop-index.invariant.members
    c.loop-index.invariant.rising

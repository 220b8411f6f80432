use Rattle.std.proofs.Common.{subst}
use Rattle.std.proofs.lemmas.Result.{IfOk-weaker}
use Rattle.segment_core.specs.Restoring.{IsMadeOf}
use Rattle.snapshot.specs.Stagings.{IsStaging}
use Rattle.snapshot.specs.Hydrating.{Hydrates}
use Rattle.snapshot.proofs.Restored.{low_anchor, none_at_0, hydrated}
use Rattle.snapshot.proofs.staging.Staging.restored.Goals as goal

pub restore-requires-clause-base : goal.restore-requires-clause-base
restore-requires-clause-base c =
    low_anchor c.args.self.now c.in_ok-own.own c.in-Some.book.now c.in-Some.anchor (subst IsStaging c.self.view_is c.self.invariant) c.in-Some.ensures.some
    c.in_ok-own.ensures

pub restore-requires-clause-none_at_0 : goal.restore-requires-clause-none_at_0
restore-requires-clause-none_at_0 c =
    none_at_0 c.args.self.now c.in-Some.book.now c.in-Some.anchor c.in_ok-pages.pages.items (subst IsStaging c.self.view_is c.self.invariant) c.requires
    c.in-Some.ensures.some c.in_ok-pages.ensures.only

pub returns : goal.returns
returns c =
    let st = c.args.self.now in let own = c.in_ok-own.own in let rs = c.in_ok-records.records.items in let gs = c.in_ok-pages.pages.items in
    IfOk-weaker c.restore.result (IsMadeOf own rs c.in-Some.anchor gs) (Hydrates st)
    (λ s made. hydrated st own c.in-Some.book.now c.in-Some.anchor rs gs s c.in-Some.ensures.some c.in_ok-own.ensures c.in_ok-records.ensures
    c.in_ok-pages.ensures.brought made) c.restore.ensures

use Rattle.std.proofs.Common.{sym, subst, List, Option, Some, None, refl}
use Rattle.redo_core.specs.Data.{RecordData}
use Rattle.redo_core.specs.declared.keys.Key.{Key}
use Rattle.hot_log.specs.Indexing.{IsNextHeld}
use Rattle.hot_log.proofs.Capped.{next_given}
use Rattle.hot_log.proofs.Start.{not_below}
use Rattle.hot_log.proofs.Indexed.{next_from}
use Rattle.hot_log.proofs.log.HotLog.next_two_of_back.Goals as goal

pub returns-in_err-first-clause-none : goal.returns-in_err-first-clause-none
returns-in_err-first-clause-none c = λ is.
    let held = c.self.inside.records in let p = c.capped.result in
    subst (λ (l : List RecordData). IsNextHeld (λ r. r.back) l c.args.back c.args.after None) c.self.view_is
    (next_given (λ r. r.back) held c.args.back c.args.after p None c.self.invariant.form c.capped.ensures
    (next_from held c.self.inside.by_back c.args.back p None (not_below c.args.back c.self.inside.by_back.start c.if-leaves_out.ensures) c.self.invariant.by_back (c.in_err-first.ensures.none refl)))

pub returns-clause-some : goal.returns-clause-some
returns-clause-some c =
    let held = c.self.inside.records in let keys = c.self.inside.by_back in let listed = c.self.invariant.by_back in
    let p = c.capped.result in let first = c.in_ok-first.first in let second = c.in_ok-first.second in
    let h = c.in_ok-first.ensures.some in let low = not_below c.args.back keys.start c.if-leaves_out.ensures in
    let one = subst (λ (l : List RecordData). IsNextHeld (λ r. r.back) l c.args.back c.args.after (Some first)) c.self.view_is
    (next_given (λ r. r.back) held c.args.back c.args.after p (Some first) c.self.invariant.form c.capped.ensures (next_from held keys c.args.back p (Some first) low listed h.0)) in
    let two = subst (λ (l : List RecordData). IsNextHeld (λ r. r.back) l c.args.back first second) c.self.view_is (next_from held keys c.args.back first second low listed h.1) in (
      subst (λ (k : Key). IsNextHeld (λ r. r.back) c.args.self.now c.args.back c.args.after (Some k)) (sym c.key.ensures) one,
      subst (λ (o : Option Key). IsNextHeld (λ r. r.back) c.args.self.now c.args.back c.key.result o) (sym c.unpacked.ensures)
          (subst (λ (k : Key). IsNextHeld (λ r. r.back) c.args.self.now c.args.back k second) (sym c.key.ensures) two),
    )

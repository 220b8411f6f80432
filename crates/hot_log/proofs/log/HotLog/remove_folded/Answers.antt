use Rattle.std.proofs.Common.{◌≤◌, List, subst, arith}
use Rattle.redo_core.specs.Data.{RecordData}
use Rattle.hot_log.specs.Removing.{IsFolded, Removes}
use Rattle.hot_log.proofs.Gone.{folded_to, index_cut}
use Rattle.hot_log.proofs.log.HotLog.remove_folded.Goals as goal

pub invariant_of-self : goal.invariant_of-self
invariant_of-self c =
    let small : c.min.result ≤ c.args.point = omega (arith, c.min.ensures) in
    record {
      form = c.remove_folded.ensures.form;
      by_key = c.remove_folded.ensures.pages;
      by_back = index_cut c.args.book.now c.args.page c.min.result c.args.point c.self.inside.records c.remove_folded.new.records c.self.inside.by_back c.raise.new.self small
          c.self.invariant.form c.self.invariant.by_back c.raise.ensures c.remove_folded.ensures.removes;
    }

pub returns-clause-removes : goal.returns-clause-removes
returns-clause-removes c =
    subst (λ (l : List RecordData). Removes (IsFolded c.args.book.now c.args.page c.args.version c.args.point) l c.remove_folded.new.records) c.self.view_is
    (folded_to c.args.book.now c.args.page c.args.version c.args.point c.min.result c.self.inside.records c.remove_folded.new.records c.min.ensures c.remove_folded.ensures.removes)

pub returns-clause-form : goal.returns-clause-form
returns-clause-form c = c.remove_folded.ensures.form

pub remove_folded-requires : goal.remove_folded-requires
remove_folded-requires c = c.self.invariant.by_key

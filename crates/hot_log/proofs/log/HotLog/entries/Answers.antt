use Rattle.std.proofs.Common.{sym, subst, List}
use Rattle.std.specs.List.{Contains}
use Rattle.redo_core.specs.Data.{RecordData}
use Rattle.redo_core.specs.Keys.{key_of}
use Rattle.redo_core.specs.declared.keys.Key.{Key}
use Rattle.hot_log.specs.Scanning.{AreEntries}
use Rattle.hot_log.proofs.Keyed.{Entry}
use Rattle.hot_log.proofs.KeySearch.{same_key}
use Rattle.hot_log.proofs.log.HotLog.entries.Goals as goal

pub returns : goal.returns
returns c =
    let is = c.self.invariant.by_key in let keys = c.self.inside.by_key in
    subst (λ (l : List RecordData). AreEntries l c.entries.result) c.self.view_is (record {
      rising = c.entries.ensures.rising;
      each = λ e. (
        λ h. let t = is.backed e.0.epoch e.0.number e.1 (subst (λ (l : List Entry). Contains l e) c.entries.ensures.all h) in
            (same_key e.0 (key_of e.1) (sym t.1.0) (sym t.1.1), t.0),
        λ h. subst (λ (l : List Entry). Contains l e) (sym c.entries.ensures.all)
            (subst (λ (k : Key). Contains keys (k, e.1)) (sym h.0) (is.listed e.1 h.1)),
      );
    })

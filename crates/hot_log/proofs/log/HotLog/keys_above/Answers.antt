use Rattle.std.proofs.Common.{subst, List, sym}
use Rattle.redo_core.specs.Data.{RecordData}
use Rattle.redo_core.specs.Keys.{key_of, KeyBefore}
use Rattle.hot_log.specs.Indexing.{AreHeldAbove}
use Rattle.hot_log.proofs.Capped.{above_given_held}
use Rattle.hot_log.proofs.log.HotLog.keys_above.Goals as goal

pub returns-clause-above : goal.returns-clause-above
returns-clause-above c =
    let held = c.self.inside.records in let a = c.above.ensures in let by_key = c.self.invariant.by_key in let p = c.capped.result in
    subst (λ (l : List RecordData). AreHeldAbove l c.args.after c.above.result) c.self.view_is
    (above_given_held held c.args.after p c.above.result c.self.invariant.form c.capped.ensures (record {
      listed = λ r h b. (a.each (key_of r, r)).1 (by_key.listed r h, b);
      backed = λ e h.
          let in_keys = (a.each e).0 h in
          let t = by_key.backed e.0.epoch e.0.number e.1 in_keys.0 in
          (t.0, t.1, subst (λ (n : _). KeyBefore p (record { epoch = n; number = e.1.number })) (sym t.1.0) (subst (λ (n : _). KeyBefore p (record { epoch = e.0.epoch; number = n })) (sym t.1.1) in_keys.1));
      rising = a.rising;
    }))

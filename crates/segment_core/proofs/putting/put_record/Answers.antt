use Rattle.std.proofs.lemmas.Grind.{common_steps}
use Rattle.std.proofs.Common.{◌≡◌, ◌<◌, ◌≤◌, inr, true, false, refl, sym, ◌∙◌, subst, arith}
use Rattle.std.proofs.lemmas.Bool.{false≢true}
use Rattle.hot_log.specs.Putting.{Puts}
use Rattle.hot_log.specs.declared.log.Put.TheVariants.{New}
use Rattle.hot_log.proofs.Chain.{back_below, link_at_least}
use Rattle.segment_core.specs.Points.{HasPoints}
use Rattle.segment_core.proofs.Moving.{links_none, has_met, late_met}
use Rattle.segment_core.proofs.putting.put_record.Goals as goal
use Rattle.segment_core.proofs.putting.put_record.Goals.{then-may_link+then-points+then-back-points, then-may_link+else-points, else-may_link}

pub is_at_end-at_end-requires : goal.is_at_end-at_end-requires
is_at_end-at_end-requires c = (has_met c.args.book.now c.args.hot.now c.args.base c.args.points.now c.met-met.result c.args.redo c.met-met.ensures c.requires).since

pub joined-requires-clause-since : goal.joined-requires-clause-since
joined-requires-clause-since c =
    late_met c.args.book.now c.args.hot.now c.put.new.self c.args.base c.args.points.now c.met-met.result c.args.redo c.met-met.ensures
    (subst (Puts c.args.hot.now c.args.redo c.put.new.self) c.in-New.is c.in_ok-put.ensures.put) c.requires

pub joined-requires-clause-rises : goal.joined-requires-clause-rises
joined-requires-clause-rises c =
    let puts : Puts c.args.hot.now c.args.redo c.put.new.self New = subst (Puts c.args.hot.now c.args.redo c.put.new.self) c.in-New.is c.in_ok-put.ensures.put in
    let below : c.args.redo.back < c.args.redo.number = back_below c.args.redo (c.put.ensures.form.shaped c.args.redo ((puts.1 c.args.redo).1 (inr refl))) in
    omega (arith, below, c.number-number.ensures.value, c.back-back.ensures.value, c.if-back-points.true)

pub anew-requires : goal.anew-requires
anew-requires c =
    let has = c.requires.anchor in
    let low : c.args.base ≤ c.args.points.now.anchor =
    link_at_least c.args.book.now.cuts c.args.hot.now c.args.book.now.complete c.args.base c.args.points.now.anchor has.linked in
    omega (arith, low, has.bound)

pub returns-after-may_link-clause-points : goal.returns-after-may_link-clause-points
returns-after-may_link-clause-points c =
    let book = c.args.book.now in
    let base = c.args.base in
    let old = c.args.hot.now in
    let new = c.put.new.self in
    let p = c.args.points.now in
    let q = c.met-met.result in
    let puts : Puts old c.args.redo new New = subst (Puts old c.args.redo new) c.in-New.is c.in_ok-put.ensures.put in
    let had : HasPoints book old base q = has_met book old base p q c.args.redo c.met-met.ensures c.requires in
    let late = late_met book old new base p q c.args.redo c.met-met.ensures puts c.requires in
    elim c.if-may_link.branch [
      | then-may_link+then-points+then-back-points w ↦ subst (HasPoints book new base) (sym w.points-is)
          (w.joined.ensures base (record {
            earlier = old;
            redo = c.args.redo;
            form = c.put.ensures.form;
            at = sym c.number-number.ensures.value;
            puts = puts;
            may = c.may_link-may_link.ensures.0 w.if-may_link.true;
            back = sym c.back-back.ensures.value ∙ w.if-back-points.true;
            straight = w.if-points.true;
            had = had;
            since = late;
          }) c.is_at_end-at_end.ensures)
      | then-may_link+else-points w ↦ subst (HasPoints book new base) (sym w.points-is) w.anew.ensures
      | else-may_link w ↦ subst (HasPoints book new base) (sym w.points-is)
          (links_none book old new base q c.args.redo c.put.ensures.form puts
          (λ may. let t : c.may_link-may_link.result ≡ true = c.may_link-may_link.ensures.1 may in let f : c.may_link-may_link.result ≡ false = w.if-may_link.false in absurd (false≢true (sym f ∙ t)))
          late had)
    ]

pub returns-in-Known-clause-form : goal.returns-in-Known-clause-form
returns-in-Known-clause-form c = grind (arith, common_steps)

pub returns-in-Known-clause-put : goal.returns-in-Known-clause-put
returns-in-Known-clause-put c = grind (arith, common_steps)

pub returns-in_err-put-clause-points : goal.returns-in_err-put-clause-points
returns-in_err-put-clause-points c = grind (arith, common_steps)

pub returns-in-Known-clause-points : goal.returns-in-Known-clause-points
returns-in-Known-clause-points c = grind (arith, common_steps)

pub returns-after-may_link-clause-put : goal.returns-after-may_link-clause-put
returns-after-may_link-clause-put c = grind (arith, common_steps)

pub returns-after-may_link-clause-form : goal.returns-after-may_link-clause-form
returns-after-may_link-clause-form c = grind (arith, common_steps)

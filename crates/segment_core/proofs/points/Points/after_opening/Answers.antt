use Rattle.std.proofs.Common.{◌≡◌, Bool, true, false, not, rules, refl}
use Rattle.segment_core.proofs.Opening.{flag_set, opening, opened, base_bound, start_small, none_earlier}
use Rattle.segment_core.proofs.points.Points.after_opening.Goals as goal

pub anew-requires : goal.anew-requires
anew-requires c = base_bound c.args.view.now.book.now c.args.view.now.held.now c.args.base c.args.epoch c.args.self c.args.spared c.requires

pub onward-requires-clause-complete : goal.onward-requires-clause-complete
onward-requires-clause-complete c =
    start_small c.args.view.now.book.now c.args.view.now.held.now c.args.epoch c.args.spared c.opens_form-2.ensures.form (c.if-not-is_untouched.ensures refl)

pub onward-requires-clause-since : goal.onward-requires-clause-since
onward-requires-clause-since c =
    none_earlier c.args.view.now.book.now c.args.view.now.held.now c.args.base c.args.epoch c.since_opening.result c.args.self c.args.spared c.requires
    (flag_set c.args.self.straight c.if-not-self.false) (c.if-not-is_untouched.ensures refl) c.since_opening.ensures.fell c.since_opening.ensures.stood

pub returns : goal.returns
returns c =
    let view = c.args.view.now in
    opened c.requires.earlier view.book.now view.held.now c.args.base c.args.spared.number c.min.result c.since_opening.result c.args.self c.onward.result
    (opening view.book.now view.held.now c.args.base c.args.epoch c.args.self c.args.spared c.opens_form.ensures.form c.opens_form-2.ensures.form c.requires
    (flag_set c.args.self.straight c.if-not-self.false) (c.if-not-is_untouched.ensures refl))
    c.min.ensures c.onward.ensures

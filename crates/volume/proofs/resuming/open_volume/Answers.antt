use Rattle.std.proofs.Common.{inl, refl, IfNone, subst}
use Rattle.std.proofs.lemmas.Result.{IfOk-weaker}
use Rattle.redo_core.specs.Data.{CutData}
use Rattle.segment_theorems.specs.State.{State}
use Rattle.volume.specs.declared.actions.Fault.TheVariants.{Damaged}
use Rattle.volume.specs.declared.phases.Session.{Session}
use Rattle.volume.specs.declared.turns.Transition.{Transition}
use Rattle.volume.specs.declared.turns.Transition.TheVariants.{Stay, Enter, End}
use Rattle.volume.specs.Planning.{RefusesRead}
use Rattle.volume.specs.Resuming.{OpensVolume, RefusesPage}
use Rattle.volume.specs.Turning.{StopsWith}
use Rattle.volume.proofs.resuming.open_volume.Goals as goal

-- an opening may end where a page is refused
ends_damaged : (session : Session) (union : State) (cut : CutData) (told : Transition) → RefusesPage union cut.lo
    → StopsWith told Damaged → OpensVolume session union cut told
ends_damaged session union cut (Stay actions) refuses stops = absurd stops
ends_damaged session union cut (Enter phase actions) refuses stops = absurd stops
ends_damaged session union cut (End actions) refuses stops = (stops, refuses)

pub returns-in_default : goal.returns-in_default
returns-in_default c =
    let union = c.args.union.now in let cut = c.args.cut in
    let refuses : RefusesRead union 0 c.lo.result =
    subst (λ o. IfNone o (RefusesRead union 0 c.lo.result)) c.in_default.is c.in_ok-first.ensures.refuses in
    let at : RefusesRead union 0 cut.lo = subst (RefusesRead union 0) c.lo.ensures.value refuses in
    IfOk-weaker c.end.result (λ t. StopsWith t Damaged) (OpensVolume c.args.session.now union cut)
    (λ t stops. ends_damaged c.args.session.now union cut t (0, inl refl, at) stops) c.end.ensures

pub returns-in_default-2 : goal.returns-in_default-2
returns-in_default-2 c =
    let union = c.args.union.now in let cut = c.args.cut in
    let refuses : RefusesPage union c.lo-2.result =
    subst (λ o. IfNone o (RefusesPage union c.lo-2.result)) c.in_default-2.is c.in_ok-page_tops.ensures.refuses in
    let at : RefusesPage union cut.lo = subst (RefusesPage union) c.lo-2.ensures.value refuses in
    IfOk-weaker c.end-in_default-2.result (λ t. StopsWith t Damaged) (OpensVolume c.args.session.now union cut)
    (λ t stops. ends_damaged c.args.session.now union cut t at stops) c.end-in_default-2.ensures

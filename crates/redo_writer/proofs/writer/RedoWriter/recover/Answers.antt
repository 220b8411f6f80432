use Rattle.std.proofs.Common.{◌≡◌, ◌≤◌, ◌+◌, ◌++◌, ◌∷◌, [], sym, ◌∙◌, ap, arith, subst}
use Rattle.redo_core.specs.Data.{CutData}
use Rattle.redo_core.specs.Shape.{cut_fault}
use Rattle.redo_core.specs.Roster.{least}
use Rattle.redo_core.specs.declared.facts.Fact.TheVariants.{Cut}
use Rattle.redo_writer.specs.Tracks.{IsAliveRecord, Tracks}
use Rattle.redo_writer.specs.State.{WriterState, state_with}
use Rattle.redo_writer.specs.Continues.{Continues}
use Rattle.redo_writer.proofs.Continuing.{continues_cut, pages_linked}
use Rattle.redo_writer.proofs.writer.RedoWriter.recover.Goals as goal

pub returns-in-Ok-clause-continues : goal.returns-in-Ok-clause-continues
returns-in-Ok-clause-continues c log g =
    let i = c.self.inside in
    let w : WriterState = state_with i.epoch i.last i.points i.page_tops.items i.settled i.alive.items in
    let h : Continues w log = subst (λ v. Continues v log) (sym c.self.view_is) g in
    let cut = c.in-Ok.cut in
    let lo : c.in-Ok.cut.lo ≡ c.args.lo = ap (λ (x : CutData). x.lo) c.in-Ok.ensures.ok in
    let hi : c.in-Ok.cut.hi ≡ c.args.hi = ap (λ (x : CutData). x.hi) c.in-Ok.ensures.ok in
    let ep : c.in-Ok.cut.epoch ≡ c.self.inside.epoch + 1 = ap (λ (x : CutData). x.epoch) c.in-Ok.ensures.ok in
    let low : least c.self.inside.points ≤ c.args.lo = let e = c.least-point.ensures.value in let l = c.if-lo-point.false in omega arith in
    let past : c.self.inside.settled ≤ least c.self.inside.points = h.past in
    let t : Tracks (λ r. IsAliveRecord log i.epoch r × (r.number ≤ c.args.lo)) i.settled c.annul_above.new.page_tops.items c.annul_above.new.alive.items =
    c.annul_above.ensures.tracks log i.epoch i.settled (pages_linked w log h) (omega arith) h.alive in
    subst (λ n. Continues (state_with (i.epoch + 1) n i.points c.annul_above.new.page_tops.items i.settled c.annul_above.new.alive.items) (log ++ Cut c.in-Ok.cut ∷ [])) hi
    (continues_cut w log c.in-Ok.cut c.annul_above.new.page_tops.items c.annul_above.new.alive.items h (ap cut_fault c.in-Ok.ensures.ok ∙ sym c.in-Ok.ensures.fault)
    ep (omega arith)
    (subst (λ n. Tracks (λ r. IsAliveRecord log i.epoch r × (r.number ≤ n)) i.settled c.annul_above.new.page_tops.items c.annul_above.new.alive.items) (sym lo) t))

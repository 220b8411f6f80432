use Rattle.std.proofs.Common.{◌≡◌, ◌≤◌, ◌<◌, sym, ap, arith, subst}
use Rattle.redo_core.specs.Roster.{least}
use Rattle.redo_writer.specs.State.{WriterState, state_with}
use Rattle.redo_writer.specs.Continues.{Continues}
use Rattle.redo_writer.specs.Changes.{DropsSettled}
use Rattle.redo_writer.proofs.Continuing.{continues_settled}
use Rattle.redo_writer.proofs.writer.RedoWriter.forget.Goals as goal

pub returns-clause-continues : goal.returns-clause-continues
returns-clause-continues c log g =
    let i = c.self.inside in
    let w : WriterState = state_with i.epoch i.last i.points i.page_tops.items i.settled i.alive.items in
    let h : Continues w log = subst (λ v. Continues v log) (sym c.self.view_is) g in
    let past : c.self.inside.settled ≤ least c.self.inside.points = h.past in
    let e : c.least-point.result ≡ least c.self.inside.points = c.least-point.ensures.value in
    let t = c.settle-self-inside.ensures.tracks log i.epoch i.page_tops.items (omega arith) h.alive in
    continues_settled w log c.settle-self-inside.result c.settle-self-inside.new.alive.items h (let l = t.0 in omega arith) t.1

pub returns-clause-above : goal.returns-clause-above
returns-clause-above c log g x m =
    let i = c.self.inside in
    let w : WriterState = state_with i.epoch i.last i.points i.page_tops.items i.settled i.alive.items in
    let h : Continues w log = subst (λ v. Continues v log) (sym c.self.view_is) g in
    let past : c.self.inside.settled ≤ least c.self.inside.points = h.past in
    let e : c.least-point.result ≡ least c.self.inside.points = c.least-point.ensures.value in
    let t = c.settle-self-inside.ensures.tracks log i.epoch i.page_tops.items (omega arith) h.alive in
    let l : c.least-point.result < x.number = c.settle-self-inside.ensures.left t.1.falls x m in
    omega arith

pub returns-clause-state : goal.returns-clause-state
returns-clause-state c =
    let i = c.self.inside in
    let w : WriterState = state_with i.epoch i.last i.points i.page_tops.items i.settled i.alive.items in
    let d = c.settle-self-inside.ensures.entries in
    let new : WriterState = state_with i.epoch i.last i.points i.page_tops.items c.settle-self-inside.result c.settle-self-inside.new.alive.items in
    subst (λ v. DropsSettled v new) c.self.view_is (let r : DropsSettled w new = record {
      dropped = d.0;
      alive = c.settle-self-inside.new.alive.items;
      parts = d.1;
      low = λ x h. subst (λ n. x.number ≤ n) c.least-point.ensures.value (d.3 x h);
      state = ap (λ n. state_with i.epoch i.last i.points i.page_tops.items n c.settle-self-inside.new.alive.items) d.2;
    } in r)

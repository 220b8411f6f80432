use Rattle.std.proofs.lemmas.Grind.{common_steps}
use Rattle.segment_theorems.specs.State.{state_of}
use Rattle.std.proofs.Common.{◌≡◌, ◌∙◌, sym, subst, arith}
use Rattle.redo_core.specs.declared.facts.Fact.TheVariants.{Cut}
use Rattle.segment_theorems.proofs.Learnt.{takes_cut}
use Rattle.segment_theorems.proofs.Knowing.{takes_known}
use Rattle.segment_core.specs.Exactly.{TakesExactly}
use Rattle.segment_core.proofs.Taking.{cut_exact, cut_bound}
use Rattle.segment_core.proofs.Following.{cut_keeps_points, cut_had_points, cut_is_later}
use Rattle.segment_core.proofs.segment.Segment.take_cut.Goals as goal
use Rattle.segment_core.proofs.DuePages.{later_due, none_opened, opened_due}
use Rattle.segment_core.proofs.segment.Segment.take_cut.Goals.{then-complete_epoch-epoch, else-complete_epoch-epoch}

-- whichever points it has, the segment is seen as it was with the new book
after : (c : goal.After-book_answer)
    → c.if-complete_epoch-epoch.self ≡ state_of c.learn_cut-learnt.new.self c.self.inside.hot c.self.inside.base c.self.inside.store
after c = elim c.if-complete_epoch-epoch.branch [ then-complete_epoch-epoch w ↦ w.self-is | else-complete_epoch-epoch w ↦ w.self-is ]

pub returns : goal.returns
returns c =
    let e = c.learn_cut-learnt.ensures in
    let i = c.self.inside in
    subst (TakesExactly c.args.self.now (Cut c.args.cut) c.book_answer.result) (sym (after c))
    (subst (λ s. TakesExactly s (Cut c.args.cut) c.book_answer.result (state_of c.learn_cut-learnt.new.self i.hot i.base i.store)) c.self.view_is
    (cut_exact takes_cut takes_known i.book c.learn_cut-learnt.new.self i.hot i.base i.store c.args.cut
    c.learn_cut-learnt.result c.book_answer.result c.self.invariant.0 e.book e.ok e.known e.unchanged e.err e.refuses e.refused e.memory c.book_answer.ensures))

pub after_opening-self-inside-requires : goal.after_opening-self-inside-requires
after_opening-self-inside-requires c =
    let e = c.learn_cut-learnt.ensures in
    let i = c.self.inside in
    cut_had_points i.book c.learn_cut-learnt.new.self i.hot i.base c.complete_epoch-epoch.result i.points c.spared-spared.result c.args.cut c.learn_cut-learnt.result
    c.self.invariant.0 e.book e.ok e.err c.complete_epoch-epoch.ensures.value c.self.invariant.4 c.spared-spared.ensures

pub invariant_of-self : goal.invariant_of-self
invariant_of-self c =
    let e = c.learn_cut-learnt.ensures in (
      e.book,
      c.self.invariant.1,
      c.self.invariant.2,
      cut_bound c.self.inside.book c.learn_cut-learnt.new.self c.self.inside.base c.args.cut c.learn_cut-learnt.result e.ok
          e.err c.self.invariant.3,
      c.after_opening-self-inside.ensures,
      opened_due c.self.inside.book c.learn_cut-learnt.new.self c.self.inside.hot c.self.inside.store c.self.inside.due c.add_opened.new.self
          c.complete_epoch-epoch.result
          (cut_is_later c.self.inside.book c.learn_cut-learnt.new.self c.args.cut c.learn_cut-learnt.result c.self.invariant.0 e.book e.ok e.err)
          c.complete_epoch-epoch.ensures.value c.add_opened.ensures.more c.add_opened.ensures.looks c.self.invariant.5,
    )

pub invariant_of-self-else-complete_epoch-epoch : goal.invariant_of-self-else-complete_epoch-epoch
invariant_of-self-else-complete_epoch-epoch c =
    let e = c.learn_cut-learnt.ensures in
    let i = c.self.inside in (
      e.book,
      c.self.invariant.1,
      c.self.invariant.2,
      cut_bound i.book c.learn_cut-learnt.new.self i.base c.args.cut c.learn_cut-learnt.result e.ok e.err
          c.self.invariant.3,
      cut_keeps_points i.book c.learn_cut-learnt.new.self i.hot i.base i.points c.args.cut
          c.learn_cut-learnt.result c.self.invariant.0 e.book e.ok e.err
          (sym c.complete_epoch.ensures.value ∙ c.if-complete_epoch-epoch.false ∙ c.complete_epoch-epoch.ensures.value) c.self.invariant.4,
      later_due i.book c.learn_cut-learnt.new.self i.hot i.store i.due
          (cut_is_later i.book c.learn_cut-learnt.new.self c.args.cut c.learn_cut-learnt.result c.self.invariant.0 e.book e.ok e.err)
          (none_opened i.book c.learn_cut-learnt.new.self i.due
          (sym c.complete_epoch.ensures.value ∙ c.if-complete_epoch-epoch.false ∙ c.complete_epoch-epoch.ensures.value))
          c.self.invariant.5,
    )

use Rattle.std.proofs.lemmas.Grind.{common_steps}
use Rattle.std.proofs.Common.{length, ◌≡◌, ◌++◌, ◌∷◌, [], subst, sym, ◌∙◌, ap, refl, arith, None}
use Rattle.std.specs.Prelude.{is_ok}
use Rattle.redo_core.specs.Data.{RecordData, record_of}
use Rattle.redo_core.specs.Shape.{record_fault}
use Rattle.redo_core.specs.Sets.{cuts}
use Rattle.redo_core.specs.CompleteEpoch.{IsCompleteEpoch}
use Rattle.redo_core.specs.Sound.{IsSound}
use Rattle.redo_core.specs.declared.facts.Fact.TheVariants.{Record}
use Rattle.log_law.specs.Alive.{stack_of, page_top}
use Rattle.log_law.specs.Writing.{IsWritten, IsBound, WriterData, writer_of, plain_record}
use Rattle.log_law.proofs.Written.{written_record, written_same, complete_view, pushed, bound_of, shape_with_tops}
use Rattle.log_law.proofs.writer.Writer.append.Goals as goal

pub returns-then-number-self-clause-fault : goal.returns-then-number-self-clause-fault
returns-then-number-self-clause-fault c =
    let log = c.self.inside.log.items in let alive = c.self.inside.alive in let last = c.self.inside.last in let top = c.self.inside.points in
    let w = c.self.invariant in
    let none : record_fault (plain_record c.args.number c.args.writes.items) ≡ None = sym
    (c.shape_fault.ensures 0 0 ∙ ap (λ ws. record_fault (plain_record c.args.number ws)) c.deref.ensures.value) ∙ c.in_default.is in
    let b : IsBound c.args.self.now.log c.self.inside.last = bound_of log c.args.self.now.log alive last top w
    (ap (λ (v : WriterData). v.log) c.self.view_is) in
    (refl, (none, b, c.if-number-self.true))

pub returns-in_default-owned_twice-clause-fault : goal.returns-in_default-owned_twice-clause-fault
returns-in_default-owned_twice-clause-fault c =
    let log = c.self.inside.log.items in let alive = c.self.inside.alive in let last = c.self.inside.last in let top = c.self.inside.points in
    let w = c.self.invariant in
    let none : record_fault (plain_record c.args.number c.args.writes.items) ≡ None = sym
    (c.shape_fault.ensures 0 0 ∙ ap (λ ws. record_fault (plain_record c.args.number ws)) c.deref.ensures.value) ∙ c.in_default.is in
    let b : IsBound c.args.self.now.log c.self.inside.last = bound_of log c.args.self.now.log alive last top w
    (ap (λ (v : WriterData). v.log) c.self.view_is) in
    (refl, (none, (last, b, c.if-number-self.false)))

pub returns-then-is_err-clause-fault : goal.returns-then-is_err-clause-fault
returns-then-is_err-clause-fault c =
    let log = c.self.inside.log.items in let alive = c.self.inside.alive in let last = c.self.inside.last in let top = c.self.inside.points in
    let w = c.self.invariant in
    let none : record_fault (plain_record c.args.number c.args.writes.items) ≡ None = sym
    (c.shape_fault.ensures 0 0 ∙ ap (λ ws. record_fault (plain_record c.args.number ws)) c.deref.ensures.value) ∙ c.in_default.is in
    let b : IsBound c.args.self.now.log c.self.inside.last = bound_of log c.args.self.now.log alive last top w
    (ap (λ (v : WriterData). v.log) c.self.view_is) in
    (refl, (none, (last, b, c.if-number-self.false)))

pub invariant_of-self-in-Err : goal.invariant_of-self-in-Err
invariant_of-self-in-Err c =
    subst (λ xs. IsWritten (length c.self.inside.points) xs c.push.new.self c.self.inside.last c.self.inside.points) (sym c.reserve.ensures.items)
    (written_same c.self.inside.log.items c.self.inside.alive c.push.new.self c.self.inside.last c.self.inside.points c.self.invariant c.in-Err.ensures.err.1
    c.in-Err.ensures.err.0 c.push.ensures.view)

pub returns-in-Err-clause-fault : goal.returns-in-Err-clause-fault
returns-in-Err-clause-fault c =
    let log = c.self.inside.log.items in let alive = c.self.inside.alive in let last = c.self.inside.last in let top = c.self.inside.points in
    let w = c.self.invariant in
    let none : record_fault (plain_record c.args.number c.args.writes.items) ≡ None = sym
    (c.shape_fault.ensures 0 0 ∙ ap (λ ws. record_fault (plain_record c.args.number ws)) c.deref.ensures.value) ∙ c.in_default.is in
    let b : IsBound c.args.self.now.log c.self.inside.last = bound_of log c.args.self.now.log alive last top w
    (ap (λ (v : WriterData). v.log) c.self.view_is) in
    (refl, (none, (last, b, c.if-number-self.false)))

pub owned_twice-requires : goal.owned_twice-requires
owned_twice-requires c =
    let log = c.self.inside.log.items in let alive = c.self.inside.alive in let last = c.self.inside.last in let top = c.self.inside.points in
    let w = c.self.invariant in
    let none : record_fault (plain_record c.args.number c.args.writes.items) ≡ None = sym
    (c.shape_fault.ensures 0 0 ∙ ap (λ ws. record_fault (plain_record c.args.number ws)) c.deref.ensures.value) ∙ c.in_default.is in
    shape_with_tops log alive last top c.view-epoch.result c.args.number c.args.page c.top-back.result c.top_of-block_back.result c.args.writes.items w
    none c.if-number-self.false c.top-back.ensures c.top_of-block_back.ensures

pub invariant_of-self-2 : goal.invariant_of-self-2
invariant_of-self-2 c =
    let log = c.self.inside.log.items in let alive = c.self.inside.alive in let last = c.self.inside.last in let top = c.self.inside.points in
    let w = c.self.invariant in
    let none : record_fault (plain_record c.args.number c.args.writes.items) ≡ None = sym
    (c.shape_fault.ensures 0 0 ∙ ap (λ ws. record_fault (plain_record c.args.number ws)) c.deref.ensures.value) ∙ c.in_default.is in
    let shape : record_fault (record_of c.view-epoch.result c.args.number c.top-back.result c.args.page c.top_of-block_back.result
    c.args.writes.items) ≡ None =
    shape_with_tops log alive last top c.view-epoch.result c.args.number c.args.page c.top-back.result c.top_of-block_back.result c.args.writes.items w
    none c.if-number-self.false c.top-back.ensures c.top_of-block_back.ensures in
    let kept = c.in-Ok.kept in
    let is : c.in-Ok.kept ≡ record_of c.view-epoch.result c.args.number c.top-back.result c.args.page c.top_of-block_back.result
    c.args.writes.items = c.in-Ok.ensures.1 in
    let items = pushed c.self.inside.log.items c.reserve.new.self.items c.push-2.new.self.items (Record kept) (is_ok c.push-2.result)
    (ap is_ok c.unwrap.ensures) c.reserve.ensures.items c.push-2.ensures.items in
    let number : c.in-Ok.kept.number ≡ c.args.number = ap (λ (x : RecordData). x.number) is in
    let page : c.in-Ok.kept.page ≡ c.args.page = ap (λ (x : RecordData). x.page) is in
    let epoch : c.in-Ok.kept.epoch ≡ c.self.inside.alive.view = ap (λ (x : RecordData). x.epoch) is ∙ c.view-epoch.ensures in
    let new : IsWritten (length c.self.inside.points) (c.self.inside.log.items ++ Record c.in-Ok.kept ∷ []) c.push.new.self
    c.in-Ok.kept.number c.self.inside.points =
    written_record log alive c.push.new.self last top kept
    (record { number = c.args.number; page = c.args.page; beneath = page_top c.args.page (stack_of alive) }) w
    (ap record_fault is ∙ shape) epoch (omega arith) (ap (λ (x : RecordData). x.back) is ∙ c.top-back.ensures)
    (ap (λ (x : RecordData). x.block_back) is ∙ c.top_of-block_back.ensures ∙ ap (λ g. page_top g (stack_of alive)) (sym page))
    c.in_default-push.ensures.stack c.push.ensures.view c.in_default-push.ensures.top (sym number) (sym page) in
    subst (λ xs. IsWritten (length c.self.inside.points) xs c.push.new.self c.args.number c.self.inside.points) (sym items)
    (subst (λ n. IsWritten (length c.self.inside.points) (log ++ Record kept ∷ []) c.push.new.self n c.self.inside.points) number new)

pub returns-clause-ok : goal.returns-clause-ok
returns-clause-ok c =
    let log = c.self.inside.log.items in let alive = c.self.inside.alive in let last = c.self.inside.last in let top = c.self.inside.points in
    let w = c.self.invariant in
    let none : record_fault (plain_record c.args.number c.args.writes.items) ≡ None = sym
    (c.shape_fault.ensures 0 0 ∙ ap (λ ws. record_fault (plain_record c.args.number ws)) c.deref.ensures.value) ∙ c.in_default.is in
    let shape : record_fault (record_of c.view-epoch.result c.args.number c.top-back.result c.args.page c.top_of-block_back.result
    c.args.writes.items) ≡ None =
    shape_with_tops log alive last top c.view-epoch.result c.args.number c.args.page c.top-back.result c.top_of-block_back.result c.args.writes.items w
    none c.if-number-self.false c.top-back.ensures c.top_of-block_back.ensures in
    let kept = c.in-Ok.kept in
    let is : c.in-Ok.kept ≡ record_of c.view-epoch.result c.args.number c.top-back.result c.args.page c.top_of-block_back.result
    c.args.writes.items = c.in-Ok.ensures.1 in
    let items = pushed c.self.inside.log.items c.reserve.new.self.items c.push-2.new.self.items (Record kept) (is_ok c.push-2.result)
    (ap is_ok c.unwrap.ensures) c.reserve.ensures.items c.push-2.ensures.items in
    let number : c.in-Ok.kept.number ≡ c.args.number = ap (λ (x : RecordData). x.number) is in
    let page : c.in-Ok.kept.page ≡ c.args.page = ap (λ (x : RecordData). x.page) is in
    let epoch : c.in-Ok.kept.epoch ≡ c.self.inside.alive.view = ap (λ (x : RecordData). x.epoch) is ∙ c.view-epoch.ensures in
    let new : IsWritten (length c.self.inside.points) (c.self.inside.log.items ++ Record c.in-Ok.kept ∷ []) c.push.new.self
    c.in-Ok.kept.number c.self.inside.points =
    written_record log alive c.push.new.self last top kept
    (record { number = c.args.number; page = c.args.page; beneath = page_top c.args.page (stack_of alive) }) w
    (ap record_fault is ∙ shape) epoch (omega arith) (ap (λ (x : RecordData). x.back) is ∙ c.top-back.ensures)
    (ap (λ (x : RecordData). x.block_back) is ∙ c.top_of-block_back.ensures ∙ ap (λ g. page_top g (stack_of alive)) (sym page))
    c.in_default-push.ensures.stack c.push.ensures.view c.in_default-push.ensures.top (sym number) (sym page) in
    let out : c.in-Ok.redo ≡ c.in-Ok.kept = c.in-Ok.ensures.0 ∙ sym is in
    let now : writer_of (length c.self.inside.points) c.self.inside.log.items ≡ c.args.self.now = c.self.view_is in
    let joins = ap (writer_of (length c.self.inside.points)) items ∙ ap
    (λ (v : WriterData). writer_of v.roster (v.log ++ Record c.in-Ok.kept ∷ [])) now in
    record {
      joins = joins ∙ ap (λ r. writer_of c.args.self.now.roster (c.args.self.now.log ++ Record r ∷ [])) (sym out);
      sound = subst (IsSound (length c.self.inside.points)) (sym items) new.sound;
      epoch = subst (λ (v : WriterData). IsCompleteEpoch (cuts v.log) c.in-Ok.redo.epoch) now
          (subst (IsCompleteEpoch (cuts log)) (sym (ap (λ (x : RecordData). x.epoch) out ∙ epoch)) (complete_view log alive last top w));
      above = (last, bound_of log c.args.self.now.log alive last top w (ap (λ (v : WriterData). v.log) c.self.view_is), c.if-number-self.false);
      number = ap (λ (x : RecordData). x.number) out ∙ number;
      page = ap (λ (x : RecordData). x.page) out ∙ page;
      init = ap (λ (x : RecordData). x.init) out ∙ ap (λ (x : RecordData). x.init) is;
      patches = ap (λ (x : RecordData). x.patches) out ∙ ap (λ (x : RecordData). x.patches) is;
    }

pub returns-in-Some-clause-fault : goal.returns-in-Some-clause-fault
returns-in-Some-clause-fault c = (
  refl,
  sym (c.shape_fault.ensures 0 0 ∙ ap (λ ws. record_fault (plain_record c.args.number ws)) c.deref.ensures.value)
      ∙ c.in-Some.is,
)

pub invariant_of-self : goal.invariant_of-self
invariant_of-self c =
    subst (λ xs. IsWritten (length c.self.inside.points) xs c.self.inside.alive c.self.inside.last c.self.inside.points) (sym c.reserve.ensures.items)
    c.self.invariant

pub top_of-block_back-requires : goal.top_of-block_back-requires
top_of-block_back-requires c = grind (arith, common_steps)

pub unwrap-requires : goal.unwrap-requires
unwrap-requires c = grind (arith, common_steps)

pub push-requires : goal.push-requires
push-requires c = grind (arith, common_steps)

pub returns-in-Err-clause-unchanged : goal.returns-in-Err-clause-unchanged
returns-in-Err-clause-unchanged c = grind (arith, common_steps)

pub returns-then-is_err-clause-unchanged : goal.returns-then-is_err-clause-unchanged
returns-then-is_err-clause-unchanged c = grind (arith, common_steps)

use Rattle.std.proofs.lemmas.Grind.{common_steps}
use Rattle.std.proofs.Common.{◌≡◌, subst, arith}
use Rattle.redo_core.specs.declared.facts.Fact.TheVariants.{Record}
use Rattle.redo_core.specs.declared.keys.Key.{Key}
use Rattle.segment_theorems.specs.Known.{IsKnown}
use Rattle.segment_core.specs.Savepoint.{NotesKey}
use Rattle.segment_core.specs.declared.answers.Taken.TheVariants.{Changed, Unchanged}
use Rattle.segment_core.proofs.Savepoints.{record_began}
use Rattle.segment_core.proofs.merge_transaction.MergeTransaction.take_record.Goals as goal

pub returns-in-Ok-Changed-clause-began : goal.returns-in-Ok-Changed-clause-began
returns-in-Ok-Changed-clause-began c =
    let saved = c.args.self.now.saved.now in let s = c.args.self.now.segment.now in
    record_began c.args.self.now.segment.ghost_name saved c.note.new.self s c.take_record.new.self c.args.redo c.opens_form.ensures.form.held
    c.opens_form-in-Ok-Changed.ensures.form.held
    (subst (λ (k : Key). NotesKey saved k c.note.new.self) c.key.ensures.value c.in_ok-note.ensures.notes)
    (λ (known : IsKnown s (Record c.args.redo)). let e : c.in-Ok-Changed.field-0 ≡ Unchanged = c.in-Ok-Changed.ensures.known.1 known in
    let is : c.in-Ok-Changed.field-0 ≡ Changed = c.in-Ok-Changed.field-0-is in absurd (cc))
    (c.in-Ok-Changed.ensures.stores c.in-Ok-Changed.field-0-is)

pub returns-in-Ok-Unchanged-clause-began : goal.returns-in-Ok-Unchanged-clause-began
returns-in-Ok-Unchanged-clause-began c = grind (arith, common_steps)

pub returns-in-Ok-Changed-clause-takes : goal.returns-in-Ok-Changed-clause-takes
returns-in-Ok-Changed-clause-takes c = grind (arith, common_steps)

pub returns-in-Err-clause-takes : goal.returns-in-Err-clause-takes
returns-in-Err-clause-takes c = grind (arith, common_steps)

pub returns-in-Ok-Unchanged-clause-takes : goal.returns-in-Ok-Unchanged-clause-takes
returns-in-Ok-Unchanged-clause-takes c = grind (arith, common_steps)

pub returns-in-Err-clause-began : goal.returns-in-Err-clause-began
returns-in-Err-clause-began c = grind (arith, common_steps)

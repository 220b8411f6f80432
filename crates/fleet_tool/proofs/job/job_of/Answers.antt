use Rattle.std.proofs.Common.{◌∙◌, inl, ap, sym, map, refl, Ok, Err}
use Rattle.clap.specs.Words.{takes, app_of}
use Rattle.fleet_tool.specs.CommandLine.{line_faults}
use Rattle.fleet_tool.proofs.TakenWords.{words_taken, explained_taken}
use Rattle.fleet_tool.proofs.Whys.{line_fails, bad_why, only_memory}
use Rattle.fleet_tool.proofs.DrillWords.{none_is_some}
use Rattle.fleet_tool.proofs.Entered.{entered_is, no_drill_entered, no_drill_explained, drill_entered, drill_encoded, drill_asked, same_drill, out_of_range, mark_is, true_is_false}
use Rattle.fleet_tool.proofs.job.job_of.Goals.{then-not-is_in_range-via-then-not-is_in_range, then-not-is_in_range-via-else-not-is_in_range+then-has_mark}
use Rattle.fleet_tool.proofs.job.job_of.Goals as goal

-- ---- arguments that were rejected

pub returns-in-Err-try_get_matches_from-clause-taken : goal.returns-in-Err-try_get_matches_from-clause-taken
returns-in-Err-try_get_matches_from-clause-taken g c = λ task names.
    c.fault_of.ensures.memory (c.in-Err-try_get_matches_from.ensures.passes
    (ap (λ a. takes a (map g.S.AsStr.text c.args.words.now)) c.in-Ok.ensures ∙ words_taken _ task names))

pub returns-in-Err-try_get_matches_from-clause-explained_taken : goal.returns-in-Err-try_get_matches_from-clause-explained_taken
returns-in-Err-try_get_matches_from-clause-explained_taken g c = λ task names.
    c.fault_of.ensures.memory (c.in-Err-try_get_matches_from.ensures.passes
    (ap (λ a. takes a (map g.S.AsStr.text c.args.words.now)) c.in-Ok.ensures ∙ explained_taken _ task names))

pub returns-in-Err-try_get_matches_from-clause-drilled : goal.returns-in-Err-try_get_matches_from-clause-drilled
returns-in-Err-try_get_matches_from-clause-drilled g c = λ task asks range.
    let fails = line_fails {T = Unit {0}} (app_of c.in-Ok.command) (map g.S.AsStr.text c.args.words.now)
    (Err c.in-Err-try_get_matches_from.error) c.in-Ok.ensures c.in-Err-try_get_matches_from.ensures.kinds in
    c.fault_of.ensures.memory (only_memory (line_faults (map g.S.AsStr.text c.args.words.now)) c.in-Err-try_get_matches_from.error asks.right fails)

pub returns-in-Err-try_get_matches_from-clause-why : goal.returns-in-Err-try_get_matches_from-clause-why
returns-in-Err-try_get_matches_from-clause-why g c =
    let fails = line_fails {T = Unit {0}} (app_of c.in-Ok.command) (map g.S.AsStr.text c.args.words.now)
    (Err c.in-Err-try_get_matches_from.error) c.in-Ok.ensures c.in-Err-try_get_matches_from.ensures.kinds in
    c.fault_of.ensures.why (line_faults (map g.S.AsStr.text c.args.words.now)) fails

-- ---- a drill

pub returns-in_default-drill_in-clause-taken : goal.returns-in_default-drill_in-clause-taken
returns-in_default-drill_in-clause-taken g c = λ task names.
    let entered = entered_is _ _ (app_of c.in-Ok.command) c.in-Ok.ensures c.in-Ok-try_get_matches_from.ensures.matches in
    absurd (no_drill_entered _ _ task entered names (c.in-Some.ensures.found.0 refl))

pub returns-in_default-drill_in-clause-explained_taken : goal.returns-in_default-drill_in-clause-explained_taken
returns-in_default-drill_in-clause-explained_taken g c = λ task names.
    let entered = entered_is _ _ (app_of c.in-Ok.command) c.in-Ok.ensures c.in-Ok-try_get_matches_from.ensures.matches in
    absurd (no_drill_explained _ _ task entered names (c.in-Some.ensures.found.0 refl))

pub returns-in_default-drill_in-clause-drilled : goal.returns-in_default-drill_in-clause-drilled
returns-in_default-drill_in-clause-drilled g c = λ task asks range.
    let entered = entered_is _ _ (app_of c.in-Ok.command) c.in-Ok.ensures c.in-Ok-try_get_matches_from.ensures.matches in
    let read = c.drill_in.ensures.known task range (drill_encoded _ _ task _ entered asks c.in-Some.ensures.rows) in
    absurd (none_is_some c.drill_in.result task c.in_default-drill_in.is read)

pub returns-in_default-drill_in-clause-why : goal.returns-in_default-drill_in-clause-why
returns-in_default-drill_in-clause-why g c =
    inl (line_fails {T = Unit {0}} (app_of c.in-Ok.command) (map g.S.AsStr.text c.args.words.now) (Ok tt) c.in-Ok.ensures c.in-Ok-try_get_matches_from.ensures.kinds)

pub returns-then-not-is_in_range-clause-taken : goal.returns-then-not-is_in_range-clause-taken
returns-then-not-is_in_range-clause-taken g c = λ task names.
    let entered = entered_is _ _ (app_of c.in-Ok.command) c.in-Ok.ensures c.in-Ok-try_get_matches_from.ensures.matches in
    absurd (no_drill_entered _ _ task entered names (c.in-Some.ensures.found.0 refl))

pub returns-then-not-is_in_range-clause-explained_taken : goal.returns-then-not-is_in_range-clause-explained_taken
returns-then-not-is_in_range-clause-explained_taken g c = λ task names.
    let entered = entered_is _ _ (app_of c.in-Ok.command) c.in-Ok.ensures c.in-Ok-try_get_matches_from.ensures.matches in
    absurd (no_drill_explained _ _ task entered names (c.in-Some.ensures.found.0 refl))

pub returns-then-not-is_in_range-clause-drilled : goal.returns-then-not-is_in_range-clause-drilled
returns-then-not-is_in_range-clause-drilled g c = λ task asks range.
    let entered = entered_is _ _ (app_of c.in-Ok.command) c.in-Ok.ensures c.in-Ok-try_get_matches_from.ensures.matches in
    let read = c.in-Some-drill_in.ensures.known task range (drill_encoded _ _ task _ entered asks c.in-Some.ensures.rows) in
    elim c.then-not-is_in_range.branch [
      | then-not-is_in_range-via-then-not-is_in_range w ↦ absurd (out_of_range _ task _ read c.is_in_range.ensures w.if-not-is_in_range.true range)
      | then-not-is_in_range-via-else-not-is_in_range+then-has_mark w ↦
          absurd (true_is_false _ w.if-has_mark.true (sym (mark_is g.S.AsStr.text c.args.words.now _ w.has_mark.ensures) ∙ asks.whole))
    ]

pub returns-then-not-is_in_range-clause-why : goal.returns-then-not-is_in_range-clause-why
returns-then-not-is_in_range-clause-why g c =
    inl (line_fails {T = Unit {0}} (app_of c.in-Ok.command) (map g.S.AsStr.text c.args.words.now) (Ok tt) c.in-Ok.ensures c.in-Ok-try_get_matches_from.ensures.kinds)

pub returns-in-Some-clause-drill : goal.returns-in-Some-clause-drill
returns-in-Some-clause-drill g c = λ task is.
    let entered = entered_is _ _ (app_of c.in-Ok.command) c.in-Ok.ensures c.in-Ok-try_get_matches_from.ensures.matches in
    let fails = line_fails {T = Unit {0}} (app_of c.in-Ok.command) (map g.S.AsStr.text c.args.words.now) (Ok tt) c.in-Ok.ensures c.in-Ok-try_get_matches_from.ensures.kinds in
    let whole = mark_is g.S.AsStr.text c.args.words.now c.has_mark.result c.has_mark.ensures ∙ c.if-has_mark.false in
    drill_asked c.in-Ok-try_get_matches_from.matches (map g.S.AsStr.text c.args.words.now) c.in-Some-drill_in.task task _ entered
    (c.in-Some.ensures.found.0 refl) c.in-Some.ensures.rows c.in-Some-drill_in.ensures.encoded fails whole (same_drill _ task is)

-- ---- another task

pub returns-clause-taken : goal.returns-clause-taken
returns-clause-taken g c = λ task names. rw (c.text_task_of.ensures.taken task names) tt

pub returns-clause-explained_taken : goal.returns-clause-explained_taken
returns-clause-explained_taken g c = λ task names. rw (c.text_task_of.ensures.explained_taken task names) tt

pub returns-clause-drilled : goal.returns-clause-drilled
returns-clause-drilled g c = λ task asks range.
    let entered = entered_is _ _ (app_of c.in-Ok.command) c.in-Ok.ensures c.in-Ok-try_get_matches_from.ensures.matches in
    absurd (true_is_false _ (c.in_default.ensures.found.1 (drill_entered _ _ task entered asks)) refl)

pub returns-clause-why : goal.returns-clause-why
returns-clause-why g c =
    let fails = line_fails {T = Unit {0}} (app_of c.in-Ok.command) (map g.S.AsStr.text c.args.words.now) (Ok tt) c.in-Ok.ensures c.in-Ok-try_get_matches_from.ensures.kinds in
    bad_why (line_faults (map g.S.AsStr.text c.args.words.now)) c.text_task_of.result fails c.text_task_of.ensures.bad

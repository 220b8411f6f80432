use Rattle.std.proofs.lemmas.Grind.{common_steps}
use Rattle.std.proofs.Common.{◌≡◌, ◌+◌, ◌∙◌, sym, ap, subst, refl, length, take, Some, true, false, arith}
use Rattle.std.specs.Prelude.{slice_get}
use Rattle.std.proofs.lemmas.Bool.{MatchBool-at_false, MatchBool-at_true}
use Rattle.std.proofs.lemmas.Option.{slice_get_read}
use Rattle.std.proofs.lemmas.Result.{IfOk-from_err}
use Rattle.redo_core.specs.Sound.{Law1}
use Rattle.redo_core.specs.declared.facts.Fact.TheVariants.{Record, Cut, Advance}
use Rattle.log_law.specs.Keys.{IsSeen, IsFirstKeyConflict}
use Rattle.log_law.specs.Counted.{first_cut}
use Rattle.log_law.proofs.Repeats.{kept_more, broken_at, law1_first, law1_later, law1_advance, first_more, seen_past, none_further}
use Rattle.log_law.proofs.keys.first_key_conflict.Goals as goal
use Rattle.log_law.proofs.keys.first_key_conflict.Goals.{in-Record+in_ok-is_other-in-Record+else-branch, in-Cut+else-not-counts, in-Advance}

pub returns-then-branch : goal.returns-then-branch
returns-then-branch c =
    let log = c.args.facts.now in let p = c.loop-place.place in let redo = c.in-Record.redo in
    broken_at log p (Record redo)
    (slice_get_read log (length log) p c.index-facts-place.result refl c.loop-place-test.true c.index-facts-place.is ∙ ap Some c.in-Record.is)
    c.loop-place.invariant.kept
    (MatchBool-at_true (Law1 (take p log) (Record redo) → ⊥) (Law1 (take p log) (Record redo)) c.if-branch.true c.in_ok-is_other-in-Record.ensures.law)

pub returns-then-not-counts : goal.returns-then-not-counts
returns-then-not-counts c =
    let log = c.args.facts.now in let p = c.loop-place.place in let cut = c.in-Cut.cut in
    let at : slice_get log p ≡ Some (Cut cut) = slice_get_read log (length log) p c.index-facts-place.result refl c.loop-place-test.true c.index-facts-place.is
    ∙ ap Some c.in-Cut.is in
    broken_at log p (Cut cut) at c.loop-place.invariant.kept
    (law1_later log p cut at (λ first. let yes' : c.counts.result ≡ true = c.counts.ensures.1 (c.requires.table.at cut.epoch ∙ first) in
    let clash : true ≡ false = sym yes' ∙ c.if-not-counts.true in cc))

pub loop-place-preserved : goal.loop-place-preserved
loop-place-preserved c =
    let log = c.args.facts.now in let p = c.loop-place.place in let f = c.index-facts-place.result in
    let at : slice_get c.args.facts.now c.loop-place.place ≡ Some f = slice_get_read log
    (length c.args.facts.now) p f refl c.loop-place-test.true c.index-facts-place.is in
    let inv = c.loop-place.invariant in
    elim c.match-fact.branch [
      | in-Record+in_ok-is_other-in-Record+else-branch w ↦
          (let redo = w.in-Record.redo in
          let here : slice_get c.args.facts.now c.loop-place.place ≡ Some (Record redo) = at ∙ ap Some w.in-Record.is in
          let law : Law1 (take c.loop-place.place c.args.facts.now) (Record redo) = MatchBool-at_false (Law1 (take p log) (Record redo) → ⊥)
          (Law1 (take p log) (Record redo)) w.if-branch.false w.in_ok-is_other-in-Record.ensures.law in
          record {
            kept = kept_more log p (Record redo) here law inv.kept;
            seen = subst (IsSeen log (p + 1)) (sym w.seen-is)
                (MatchBool-at_false _ (IsSeen log (p + 1) w.is_other.new.seen) w.if-branch.false w.in_ok-is_other-in-Record.ensures.seen);
            first = first_more log p (Record redo) here (λ d e. absurd (cc)) inv.first;
          })
      | in-Cut+else-not-counts w ↦
          (let cut = w.in-Cut.cut in
          let here : slice_get c.args.facts.now c.loop-place.place ≡ Some (Cut cut) = at ∙ ap Some w.in-Cut.is in
          let counts : first_cut c.args.facts.now cut.epoch ≡ Some cut = sym (c.requires.table.at cut.epoch) ∙ w.if-not-counts.ensures.0 refl in
          record {
            kept = kept_more log p (Cut cut) here (law1_first log p cut inv.first counts) inv.kept;
            seen = subst (IsSeen log (p + 1)) (sym w.seen-is) (seen_past log p (Cut cut) c.loop-place.seen here (λ r e. absurd (cc)) inv.seen);
            first = first_more log p (Cut cut) here (λ d e. let q : cut ≡ d = cc in subst (λ x. first_cut log x.epoch ≡ Some x) q counts) inv.first;
          })
      | in-Advance w ↦
          (let advance = w.in-Advance.field-0 in
          let here : slice_get c.args.facts.now c.loop-place.place ≡ Some (Advance advance) = at ∙ ap Some w.in-Advance.is in
          record {
            kept = kept_more log p (Advance advance) here (law1_advance (take p log) advance) inv.kept;
            seen = subst (IsSeen log (p + 1)) (sym w.seen-is) (seen_past log p (Advance advance) c.loop-place.seen here (λ r e. absurd (cc)) inv.seen);
            first = first_more log p (Advance advance) here (λ d e. absurd (cc)) inv.first;
          })
    ]

pub returns : goal.returns
returns c = none_further c.args.facts.now c.loop-place.place c.loop-place-test.false c.loop-place.invariant.kept

pub is_other-requires-clause-at : goal.is_other-requires-clause-at
is_other-requires-clause-at c =
    let log = c.args.facts.now in
    slice_get_read log (length log) c.loop-place.place c.index-facts-place.result refl c.loop-place-test.true c.index-facts-place.is ∙ ap Some c.in-Record.is

pub returns-in_err-is_other-in-Record : goal.returns-in_err-is_other-in-Record
returns-in_err-is_other-in-Record c =
    IfOk-from_err c.from_residual-in_err-is_other-in-Record.result (IsFirstKeyConflict c.args.facts.now) c.from_residual-in_err-is_other-in-Record.ensures.0

pub first_cut_conflict-requires-clause-rising : goal.first_cut_conflict-requires-clause-rising
first_cut_conflict-requires-clause-rising c = grind (arith, common_steps)

pub loop-place-init : goal.loop-place-init
loop-place-init c = grind (arith, common_steps)

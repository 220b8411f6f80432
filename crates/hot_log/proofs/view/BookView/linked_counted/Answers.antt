use Rattle.std.proofs.Common.{◌+◌, ◌<◌, ◌≤◌, le_refl, sym, subst, arith, length, ◌∙◌, ℕ}
use Rattle.std.proofs.lemmas.Bool.{false≢true}
use Rattle.hot_log.proofs.Forks.{Search, alone_at_base, alone_below, search_start, search_end, search_counts, skip, down, looks, climbs_to, falls_by_one, has_record, falls_by_climb}
use Rattle.hot_log.proofs.view.BookView.linked_counted.Goals as goal
use Rattle.hot_log.proofs.Keys.{same_epoch, same_number}
use Rattle.redo_core.specs.Keys.{key_in}

pub loop-key-init : goal.loop-key-init
loop-key-init c = let view = c.args.self.now in record {
  search = λ is. subst (Search view.book.now view.held.now c.args.from c.args.limit c.args.from (key_in 0 0) c.args.from) (sym c.requires.fresh) (search_start view.book.now view.held.now c.args.from c.args.limit is c.requires.ordered);
  alone = λ is no. alone_at_base view.book.now view.held.now c.args.from c.args.from (le_refl c.args.from);
}

pub step-requires : goal.step-requires
step-requires c = let view = c.args.self.now in
    let le : c.loop-key.steps.count + 1 ≤ length view.held.now = looks view.book.now view.held.now c.args.from c.args.limit c.loop-key.back c.loop-key.at c.in-Some.key c.loop-key.top c.loop-key.steps.count c.in-Some.ensures.book c.in-Some.ensures.form (c.loop-key.invariant.search c.in-Some.ensures.form) c.in-Some.ensures.found in
    let fits : length view.held.now < 18446744073709551616 = omega (arith, c.len-held.type_inv, c.len-held.ensures.value) in
    omega arith

pub loop-key-smaller-then-key-limit : goal.loop-key-smaller-then-key-limit
loop-key-smaller-then-key-limit c = let view = c.args.self.now in
    let le : c.loop-key.steps.count + 1 ≤ length view.held.now = looks view.book.now view.held.now c.args.from c.args.limit c.loop-key.back c.loop-key.at c.in-Some.key c.loop-key.top c.loop-key.steps.count c.in-Some.ensures.book c.in-Some.ensures.form (c.loop-key.invariant.search c.in-Some.ensures.form) c.in-Some.ensures.found in
    falls_by_one (length view.held.now) c.loop-key.steps.count c.step.new.self.count c.args.limit c.in-Some.key.number c.loop-key.back c.step.ensures le c.if-key-limit.true

pub loop-key-preserved-then-key-limit : goal.loop-key-preserved-then-key-limit
loop-key-preserved-then-key-limit c = let view = c.args.self.now in record {
  search = λ is.
      down view.book.now view.held.now c.args.from c.args.limit c.loop-key.back c.loop-key.at c.in-Some.key c.loop-key.top c.loop-key.steps.count c.step.new.self.count c.max-top.result c.in-Some.ensures.book is (c.loop-key.invariant.search is) c.in-Some.ensures.found c.step.ensures c.if-key-limit.true c.max-top.ensures;
  alone = λ is no.
      alone_below view.book.now view.held.now c.args.from c.loop-key.back c.loop-key.at c.in-Some.key c.in-Some.ensures.book is
      (c.loop-key.invariant.alone is (c.passes_fork-forked.ensures no).0) c.in-Some.ensures.found (c.passes_fork-forked.ensures no).1;
}

pub loop-key-smaller-else-key-limit : goal.loop-key-smaller-else-key-limit
loop-key-smaller-else-key-limit c = let view = c.args.self.now in
    let s = c.loop-key.invariant.search c.in-Some.ensures.form in
    let le : c.loop-key.steps.count + 1 ≤ length view.held.now = looks view.book.now view.held.now c.args.from c.args.limit c.loop-key.back c.loop-key.at c.in-Some.key c.loop-key.top c.loop-key.steps.count c.in-Some.ensures.book c.in-Some.ensures.form (c.loop-key.invariant.search c.in-Some.ensures.form) c.in-Some.ensures.found in
    falls_by_one (length view.held.now) c.loop-key.steps.count c.step.new.self.count c.args.limit c.loop-key.back c.loop-key.back c.step.ensures le s.back_bound

pub loop-key-preserved-else-key-limit : goal.loop-key-preserved-else-key-limit
loop-key-preserved-else-key-limit c = record {
  search = λ is.
      skip c.args.self.now.book.now c.args.self.now.held.now c.args.from c.args.limit c.loop-key.back c.loop-key.at c.in-Some.key c.loop-key.top c.loop-key.steps.count c.step.new.self.count c.in-Some.ensures.book is (c.loop-key.invariant.search is) c.in-Some.ensures.found c.step.ensures (omega (arith, c.if-key-limit.false));
  alone = c.loop-key.invariant.alone;
}

pub returns-then-back-from-clause-linked : goal.returns-then-back-from-clause-linked
returns-then-back-from-clause-linked c = (c.loop-key.invariant.search c.in-None.ensures.form).top_linked

pub returns-then-back-from-clause-bound : goal.returns-then-back-from-clause-bound
returns-then-back-from-clause-bound c = (c.loop-key.invariant.search c.in-None.ensures.form).top_bound

pub returns-then-back-from-clause-greatest : goal.returns-then-back-from-clause-greatest
returns-then-back-from-clause-greatest c = let view = c.args.self.now in search_end view.book.now view.held.now c.args.from c.args.limit c.loop-key.back c.loop-key.at c.loop-key.top c.loop-key.steps.count c.in-None.ensures.form (c.loop-key.invariant.search c.in-None.ensures.form) c.in-None.ensures.found (alone_at_base view.book.now view.held.now c.args.from c.loop-key.back c.if-back-from.true)

pub returns-then-back-from-clause-counted : goal.returns-then-back-from-clause-counted
returns-then-back-from-clause-counted c =
    search_counts c.args.self.now.book.now c.args.self.now.held.now c.args.from c.args.limit c.loop-key.back c.loop-key.at c.loop-key.top c.loop-key.steps.count
    (c.loop-key.invariant.search c.in-None.ensures.form) c.in-None.ensures.found (alone_at_base c.args.self.now.book.now c.args.self.now.held.now c.args.from c.loop-key.back c.if-back-from.true)

pub returns-then-not-forked-clause-linked : goal.returns-then-not-forked-clause-linked
returns-then-not-forked-clause-linked c = (c.loop-key.invariant.search c.in-None.ensures.form).top_linked

pub returns-then-not-forked-clause-bound : goal.returns-then-not-forked-clause-bound
returns-then-not-forked-clause-bound c = (c.loop-key.invariant.search c.in-None.ensures.form).top_bound

pub returns-then-not-forked-clause-greatest : goal.returns-then-not-forked-clause-greatest
returns-then-not-forked-clause-greatest c = search_end c.args.self.now.book.now c.args.self.now.held.now c.args.from c.args.limit c.loop-key.back c.loop-key.at c.loop-key.top c.loop-key.steps.count c.in-None.ensures.form (c.loop-key.invariant.search c.in-None.ensures.form) c.in-None.ensures.found (c.loop-key.invariant.alone c.in-None.ensures.form c.if-not-forked.true)

pub returns-then-not-forked-clause-counted : goal.returns-then-not-forked-clause-counted
returns-then-not-forked-clause-counted c =
    search_counts c.args.self.now.book.now c.args.self.now.held.now c.args.from c.args.limit c.loop-key.back c.loop-key.at c.loop-key.top c.loop-key.steps.count
    (c.loop-key.invariant.search c.in-None.ensures.form) c.in-None.ensures.found (c.loop-key.invariant.alone c.in-None.ensures.form c.if-not-forked.true)

never : (c : goal.In_default) → ⊥
never c = has_record c.args.self.now.book.now c.args.self.now.held.now c.args.from c.loop-key.back (c.loop-key.invariant.search c.in-None.ensures.form).back_linked c.if-back-from.false c.in_default.ensures

pub returns-in_default-clause-linked : goal.returns-in_default-clause-linked
returns-in_default-clause-linked c = absurd (never c)

pub returns-in_default-clause-bound : goal.returns-in_default-clause-bound
returns-in_default-clause-bound c = absurd (never c)

pub returns-in_default-clause-greatest : goal.returns-in_default-clause-greatest
returns-in_default-clause-greatest c = absurd (never c)

pub returns-in_default-clause-counted : goal.returns-in_default-clause-counted
returns-in_default-clause-counted c = absurd (never c)

pub loop-key-smaller : goal.loop-key-smaller
loop-key-smaller c =
    let below : c.back-back.result < c.loop-key.back = subst (λ (n : ℕ). c.back-back.result < n) c.in-Some-alive_of.ensures.0.1 c.back-back.ensures.below in
    falls_by_climb (length c.args.self.now.held.now) c.loop-key.steps.count c.args.limit c.back-back.result c.loop-key.back below

pub loop-key-preserved : goal.loop-key-preserved
loop-key-preserved c =
    let u = c.in-Some-alive_of.redo.now in let found = c.in-Some-alive_of.ensures.0 in
    record {
      search = λ is. climbs_to c.args.self.now.book.now c.args.self.now.held.now c.args.from c.args.limit c.loop-key.back c.loop-key.at c.loop-key.top c.loop-key.steps.count u c.key-at.result.epoch c.key-at.result.number c.back-back.result c.in-None.ensures.book is (c.loop-key.invariant.search is) c.in-None.ensures.found found.0 found.1 c.if-back-from.false c.back-back.ensures.value (same_epoch c.key-at.ensures.value) (same_number c.key-at.ensures.value);
      alone = λ is no. let yes = c.if-not-forked.false in absurd (false≢true (sym no ∙ yes));
    }

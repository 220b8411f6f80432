use Rattle.std.proofs.Common.{◌≡◌, ℕ, ◌<◌, ◌≤◌, Bool, List, Option, Some, None, IfSome, true, false, IsTrue, refl, sym, ◌∙◌, subst, arith, rules}
use Rattle.std.specs.Option.{is_some, IsNone}
use Rattle.std.proofs.lemmas.Bool.{false≢true}
use Rattle.redo_core.specs.Data.{RecordData}
use Rattle.redo_core.specs.Keys.{key_in, key_of, KeyBefore}
use Rattle.redo_core.specs.declared.keys.Key.{Key}
use Rattle.redo_core.specs.Order.{RecordBefore}
use Rattle.redo_core.specs.Shape.{record_fault}
use Rattle.epoch_book.specs.Book.{BookData, IsBook}
use Rattle.hot_log.specs.Held.{IsHeld, HasKey}
use Rattle.hot_log.specs.Alive.{IsHeldAlive, IsAliveOfBack, HasSecond, IsStraightEnd}
use Rattle.hot_log.specs.Ahead.{AreOnward, IsNextOfBack}
use Rattle.hot_log.proofs.Beside.{passed_to, stray_before}
use Rattle.hot_log.proofs.Chain.{link_at_least}
use Rattle.hot_log.proofs.Climb.{from_zero}
use Rattle.hot_log.proofs.Since.{none_above}
use Rattle.hot_log.proofs.Views.{view_of, number_before}
use Rattle.hot_log.proofs.Ends.{Climbed, IsStep, step_up, climbed_none, climbed_next, climbed_end, not_over_stray, not_over_fork, step_of, key_after}
use Rattle.hot_log.proofs.view.BookView.straight_walk.Goals.{then-is_fork-via-then-is_fork, then-is_fork-via-else-is_fork+then-not-is_at}
use Rattle.hot_log.proofs.view.BookView.straight_walk.Goals as goal

small : (r : RecordData) → record_fault r ≡ None → r.number < 281474976710656
small r h = grind arith

none_second : (b : BookData) (held : List RecordData) (back : ℕ) (key : Key) (o : Option Key) → IsAliveOfBack b held back key o → is_some o ≡ false
    → (r : RecordData) → IsHeldAlive b held r → r.back ≡ back → KeyBefore key (key_of r) → ⊥
none_second b held back key o none last r h k l = search rules

-- a second record goes on from there
some_second : (b : BookData) (held : List RecordData) (from top n : ℕ) (key : Key) (x : RecordData) (o : Option Key) → IsBook b → IsHeld held → Climbed b held from top
    → IsStep b held top x → HasKey key x → IsAliveOfBack b held top key o → is_some o ≡ true → IsStraightEnd b held from n → ⊥
some_second b held from top n key x None book form c s k none more end = absurd (cc)
some_second b held from top n key x (Some next) book form c s k found more end =
    let y = found.0.0 in
    let before : RecordBefore x y = subst (λ (e : ℕ). KeyBefore (key_in e x.number) (key_of y)) (sym k.0) (subst (λ (m : ℕ). KeyBefore (key_in key.epoch m) (key_of y)) (sym k.1) found.0.4) in
    not_over_fork b held from top n x y book form c s found.0.1 found.0.2 (number_before b.cuts b.complete (view_of b book) x y s.alive.1 found.0.1.1 before) end

goes_on : (b : BookData) (held : List RecordData) (back : ℕ) (o : Option (Key × Bool)) → (IsNone o → IsAliveOfBack b held back (key_in 0 0) None)
    → IfSome o (λ t. IsAliveOfBack b held back (key_in 0 0) (Some t.0) × HasSecond b held back t.0 t.1) → IsNextOfBack b held back o
goes_on b held back None none some = none refl
goes_on b held back (Some t) none some = some

pub first_of_back-next-requires : goal.first_of_back-next-requires
first_of_back-next-requires c =
    let b = c.args.self.now.book.now in
    let held = c.args.self.now.held.now in
    let top = c.loop-next.top in
    let key = c.in-Some.key in
    let i = c.loop-next.invariant in
    let goes = subst (IsNextOfBack b held top) c.in-Some.is i.next in
    let found = goes.0 in
    let x = found.0.0 in
    let up : top < x.number = step_up b held top x i.form (step_of b held top key i.book i.form found) in
    let same : x.number ≡ key.number = found.0.3.1 in
    let low : c.args.from ≤ top = link_at_least b.cuts held b.complete c.args.from top i.climbed.chain.linked in
    none_above b held c.args.from key.number c.args.since (omega arith) c.requires.later

pub loop-next-init : goal.loop-next-init
loop-next-init c = record {
  climbed = search (rules, climbed_none);
  ahead = c.keys_on-left.ensures;
  next = c.requires.first;
  form = c.opens_form.ensures.form;
  book = c.opens_form-2.ensures.form;
}

pub loop-next-smaller : goal.loop-next-smaller
loop-next-smaller c =
    let b = c.args.self.now.book.now in
    let held = c.args.self.now.held.now in
    let top = c.loop-next.top in
    let key = c.in-Some.key in
    let i = c.loop-next.invariant in
    let goes = subst (IsNextOfBack b held top) c.in-Some.is i.next in
    let found = goes.0 in
    let x = found.0.0 in
    let up : top < x.number = step_up b held top x i.form (step_of b held top key i.book i.form found) in
    let fits : x.number < 281474976710656 = small x (i.form.shaped x found.0.1.0) in
    let same : x.number ≡ key.number = found.0.3.1 in
    omega arith

pub loop-next-preserved : goal.loop-next-preserved
loop-next-preserved c =
    let b = c.args.self.now.book.now in
    let held = c.args.self.now.held.now in
    let top = c.loop-next.top in
    let key = c.in-Some.key in
    let i = c.loop-next.invariant in
    let goes = subst (IsNextOfBack b held top) c.in-Some.is i.next in
    let found = goes.0 in
    let second = goes.1 in
    let x = found.0.0 in
    let step = step_of b held top key i.book i.form found in
    let same : x.number ≡ key.number = found.0.3.1 in
    let it : c.next_alive.result ≡ Some key = c.if-not-is_at.ensures.0 refl in
    let past = passed_to b held i.book top c.loop-next.left c.next_alive.new.left key c.next_alive.result x i.ahead c.next_alive.ensures it found.0.1 found.0.3 (step_up b held top x i.form step) in record {
      climbed = subst (Climbed b held c.args.from) same
          (climbed_next b held c.args.from top x i.book i.form i.climbed step
          (λ h. past.1 h.0 h.1 h.2 h.3)
          (λ r h q lt. none_second b held top key second.0 second.1 (sym second.2 ∙ c.if-is_fork.false)
          r h q (key_after b held key x r i.book i.form found.0.1 found.0.3 h lt)));
      ahead = subst (λ (n : ℕ). AreOnward b held n c.next_alive.new.left) same past.0;
      next = goes_on b held key.number c.first_of_back-next.result c.first_of_back-next.ensures.none c.first_of_back-next.ensures.some;
      form = i.form;
      book = i.book;
    }

pub returns-then-is_fork-clause-none : goal.returns-then-is_fork-clause-none
returns-then-is_fork-clause-none c = λ _ n end.
    let b = c.args.self.now.book.now in
    let held = c.args.self.now.held.now in
    let top = c.loop-next.top in
    let key = c.in-Some.key in
    let i = c.loop-next.invariant in
    let goes = subst (IsNextOfBack b held top) c.in-Some.is i.next in
    let found = goes.0 in
    let second = goes.1 in
    let x = found.0.0 in
    let step = step_of b held top key i.book i.form found in
    elim c.then-is_fork.branch [
      | then-is_fork-via-then-is_fork w ↦ some_second b held c.args.from top n key x second.0 i.book i.form i.climbed step found.0.3 second.1 (sym second.2 ∙ w.if-is_fork.true) end
      | then-is_fork-via-else-is_fork+then-not-is_at w ↦
          let other : w.next_alive.result ≡ Some key → ⊥ = λ q. (let t : IsTrue false = w.if-not-is_at.ensures.1 q in false≢true t) in
          let y = stray_before b held i.book top c.loop-next.left w.next_alive.new.left key w.next_alive.result x i.ahead w.next_alive.ensures other found.0.1 found.0.3 (step_up b held top x i.form step) in
          not_over_stray b held c.args.from top n x y.0 i.form i.climbed step y.1 y.2 y.3 end
    ]

pub returns-clause-some : goal.returns-clause-some
returns-clause-some c =
    let b = c.args.self.now.book.now in
    let held = c.args.self.now.held.now in
    let i = c.loop-next.invariant in
    let none = subst (IsNextOfBack b held c.loop-next.top) c.in_default.is i.next in
    climbed_end b held c.args.from c.loop-next.top i.form i.climbed
    (λ r h q. none r h q (from_zero held r i.form h.0))

use Rattle.std.proofs.lemmas.Grind.{common_steps}
use Rattle.std.proofs.Common.{◌≡◌, ◌↔◌, List, subst, rules, arith}
use Rattle.std.specs.List.{Contains}
use Rattle.redo_core.specs.Data.{RecordData}
use Rattle.redo_core.specs.Keys.{key_of}
use Rattle.redo_core.specs.declared.keys.Key.{Key}
use Rattle.segment_theorems.specs.State.{State, state_of}
use Rattle.segment_core.specs.Savepoint.{IsFormOf, brought_back, without}
use Rattle.segment_core.proofs.Savepoints.{left_without}
use Rattle.segment_core.proofs.segment.Segment.roll_back.Goals as goal

-- the state that is left
unfoldable left : goal.After-swap-3 → State
left c = state_of c.swap.new.x c.take_out.new.hot c.self.inside.base c.self.inside.store

is_back : (c : goal.After-swap-3) → left c ≡ brought_back c.args.saved.now c.args.self.now
unfolding left
is_back c =
    let records : c.take_out.new.hot ≡ without c.saved.inside.came.items c.self.inside.hot
    = left_without c.saved.inside.came.items c.self.inside.hot c.take_out.new.hot c.self.invariant.1.rising c.take_out.ensures.form.rising
    (subst
    (λ (keys : List Key). (r : RecordData) → Contains c.take_out.new.hot r ↔ (Contains c.self.inside.hot r × (Contains keys (key_of r) → ⊥)))
    c.deref.ensures.value c.take_out.ensures.removes) in
    cc

whole : (c : goal.After-swap-3) → IsFormOf (left c) c.swap-2.new.x c.swap-3.new.x
whole c = search (rules, is_back)

pub invariant_of-self : goal.invariant_of-self
unfolding left
invariant_of-self c = grind (arith, common_steps, whole)

pub returns : goal.returns
unfolding left
returns c = is_back c

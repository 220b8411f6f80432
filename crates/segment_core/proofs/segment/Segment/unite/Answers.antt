use Rattle.std.proofs.lemmas.Grind.{common_steps}
use Rattle.std.proofs.Common.{◌≡◌, ◌≤◌, ◌∙◌, List, [], length, ap, sym, subst, arith}
use Rattle.std.proofs.lemmas.List.{nil_from_length}
use Rattle.redo_core.specs.Store.{Store, StoredImage}
use Rattle.page_base.specs.Merging.{Merges}
use Rattle.page_base.specs.Stored.{IsStored}
use Rattle.segment_theorems.specs.State.{State}
use Rattle.segment_core.proofs.NothingMerged.{nothing_merged}
use Rattle.segment_core.proofs.segment.Segment.unite.Goals as goal

pub returns-then-floor-clause-unites : goal.returns-then-floor-clause-unites
returns-then-floor-clause-unites c =
    let own = c.args.self.now.store in
    let is = ap (λ (s : State). s.store) c.self.view_is in
    let form : IsStored own = subst IsStored is c.self.invariant.2 in
    let low : c.args.floor ≤ own.floor = subst (λ n. c.args.floor ≤ n) (c.floor.ensures ∙ ap (λ (st : Store). st.floor) is) c.if-floor.true in
    let given_none : length c.args.images.items ≡ 0 = grind (arith, c.if-is_empty.ensures, c.args.images.ok) in
    let none : Merges own c.args.floor [] own = nothing_merged own c.args.floor form low in record {
      book = c.raise_base.ensures.book;
      held = c.raise_base.ensures.held;
      base_is = c.raise_base.ensures.base_is;
      store =
          subst (Merges own c.args.floor c.args.images.items) (sym c.raise_base.ensures.store)
          (subst (λ (given : List StoredImage). Merges own c.args.floor given own) (sym (nil_from_length c.args.images.items given_none)) none);
    }

pub returns-clause-unchanged : goal.returns-clause-unchanged
returns-clause-unchanged c = grind (arith, common_steps)

pub invariant_of-self-in-Err : goal.invariant_of-self-in-Err
invariant_of-self-in-Err c = grind (arith, common_steps)

pub invariant_of-self : goal.invariant_of-self
invariant_of-self c = grind (arith, common_steps)

pub raise_base-requires-in-Ok : goal.raise_base-requires-in-Ok
raise_base-requires-in-Ok c = grind (arith, common_steps)

pub returns-clause-unites : goal.returns-clause-unites
returns-clause-unites c = grind (arith, common_steps)

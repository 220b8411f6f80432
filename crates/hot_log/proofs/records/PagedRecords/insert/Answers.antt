use Rattle.std.proofs.Common.{◌≡◌, ◌⊎◌, ◌↔◌, sym, subst, List, arith, None}
use Rattle.std.specs.List.{Contains}
use Rattle.std.specs.BTreeMap.{insert_entry}
use Rattle.redo_core.specs.Data.{RecordData}
use Rattle.redo_core.specs.Keys.{key_of}
use Rattle.hot_log.specs.Held.{IsRecordAt}
use Rattle.hot_log.specs.Paged.{place_cmp, place_of}
use Rattle.hot_log.proofs.Places.{Place}
use Rattle.hot_log.proofs.Paged.{seen, place_as, Grows, grown_members, grown_paged, same_paged, held_of}
use Rattle.hot_log.proofs.Keys.{same_epoch, same_number}
use Rattle.hot_log.proofs.records.PagedRecords.insert.Goals as goal

grows : (c : goal.Joined-insert-2) → Grows c.self.inside.map c.insert.new.self c.args.redo
grows c =
    let key : (c.page.result, c.of.result) ≡ place_of c.args.redo =
    place_as c.page.result c.of.result.epoch c.of.result.number c.args.redo.page c.args.redo.epoch c.args.redo.number c.page.ensures (same_epoch c.of.ensures.value) (same_number c.of.ensures.value) in
    let P : Place → Type 0 = λ k. c.insert.new.self ≡ insert_entry place_cmp c.self.inside.map k c.args.redo in
    record {
      was = c.self.invariant;
      ordered = c.in-Ok.ensures.ordered;
      free = subst (λ (l : List RecordData). IsRecordAt l (key_of c.args.redo) None) (sym c.self.view_is) c.requires;
      shaped = c.of.ensures.shape;
      fits = omega (arith, c.page.type_inv, c.page.ensures);
      at = subst P key c.in-Ok.ensures.gains;
    }

pub invariant_of-self : goal.invariant_of-self
invariant_of-self c = grown_paged c.self.inside.map c.insert.new.self c.args.redo (grows c)

pub returns-in-Ok-clause-gains : goal.returns-in-Ok-clause-gains
returns-in-Ok-clause-gains c r = subst (λ (l : List RecordData). Contains (seen c.insert.new.self) r ↔ (Contains l r ⊎ (r ≡ c.args.redo))) c.self.view_is (grown_members c.self.inside.map c.insert.new.self c.args.redo (grows c) r)

pub returns-in-Ok-clause-form : goal.returns-in-Ok-clause-form
returns-in-Ok-clause-form c = held_of c.insert.new.self (invariant_of-self c)

pub invariant_of-self-2 : goal.invariant_of-self-2
invariant_of-self-2 c = same_paged c.self.inside.map c.insert.new.self c.self.invariant c.in-Err.ensures.ordered c.in-Err.ensures.unchanged

pub returns-clause-form : goal.returns-clause-form
returns-clause-form c = held_of c.insert.new.self (invariant_of-self-2 c)

use Rattle.std.proofs.Common.{◌≡◌, sym, ◌∙◌, ap, refl, subst, List, [], ◌∷◌, ◌++◌, map, Option, Some, None}
use Rattle.std.specs.Map.Iter.{deref_pair}
use Rattle.std.proofs.lemmas.Map.Iter.{rest_so_far}
use Rattle.std.proofs.lemmas.List.{map-append}
use Rattle.std.proofs.lemmas.Bool.{false≢true}
use Rattle.redo_core.specs.Data.{RecordData}
use Rattle.redo_core.specs.Keys.{key_in}
use Rattle.redo_core.specs.declared.keys.Key.{Key}
use Rattle.redo_core.specs.Standing.{IsAlive}
use Rattle.hot_log.specs.Removing.{UnlistsRow}
use Rattle.hot_log.proofs.Climb.{alive_as}
use Rattle.hot_log.proofs.Paged.{Entry, seen}
use Rattle.hot_log.proofs.Rows.{Rowed, walk_of, rowed_none, rowed_alive, rowed_dead, rowed_some, rowed_all}
use Rattle.hot_log.proofs.Keys.{same_epoch, same_number}
use Rattle.hot_log.proofs.records.PagedRecords.unlist_row.Goals as goal

pub loop-redo-init : goal.loop-redo-init
loop-redo-init c = rowed_none c.args.book.now c.args.self.now c.args.above c.args.by_key.now c.requires

pub loop-redo-preserved-then-is_alive : goal.loop-redo-preserved-then-is_alive
loop-redo-preserved-then-is_alive c =
    let b = c.args.book.now in let m = c.self.inside.map in
    let xs : List Entry = map deref_pair c.loop-redo.yielded in
    let x : Entry = (c.in-Some.field-0-0.now, c.in-Some.redo.now) in
    let es = c.range-redo-items.result in
    let start : c.into_iter-redo-iterator.result ≡ es = c.into_iter-redo-iterator.ensures.into_iter_gives in
    let split : es ≡ xs ++ x ∷ c.next.new.self =
    sym start ∙ rest_so_far deref_pair c.loop-redo.yielded c.into_iter-redo-iterator.result c.loop-redo.redo-iterator c.loop-redo.yielded_by ∙ ap (λ (l : List Entry). xs ++ l) c.in-Some.ensures.steps in
    let walk = walk_of m c.args.page c.args.above c.args.to es xs (x ∷ c.next.new.self) c.self.invariant (sym c.range-redo-items.ensures.between) split in
    let e = c.of-packed.result.epoch in let n = c.of-packed.result.number in
    let so_far : Rowed b (seen m) c.args.above xs c.loop-redo.start c.loop-redo.last c.loop-redo.by_key =
    subst (λ (l : List RecordData). Rowed b l c.args.above xs c.loop-redo.start c.loop-redo.last c.loop-redo.by_key) (sym c.self.view_is) c.loop-redo.invariant in
    let joined : map deref_pair (c.loop-redo.yielded ++ (c.in-Some.field-0-0, c.in-Some.redo) ∷ []) ≡ xs ++ x ∷ [] = rw map-append in
    subst (λ (l : List Entry). Rowed b c.args.self.now c.args.above l c.loop-redo.start (Some (key_in e n)) c.remove.new.self) (sym joined)
    (subst (λ (l : List RecordData). Rowed b l c.args.above (xs ++ x ∷ []) c.loop-redo.start (Some (key_in e n)) c.remove.new.self) c.self.view_is
    (rowed_alive b m c.args.page c.args.above c.args.to xs c.next.new.self x c.loop-redo.start c.loop-redo.last c.loop-redo.by_key c.remove.new.self e n walk so_far (alive_as b c.key-key.result.epoch c.key-key.result.number x.1.epoch x.1.number (same_epoch c.key-key.ensures.value) (same_number c.key-key.ensures.value) (c.if-is_alive.ensures.alive.0 refl))
    (same_epoch c.of-packed.ensures.value) (same_number c.of-packed.ensures.value) c.remove.ensures.loses))

pub loop-redo-preserved : goal.loop-redo-preserved
loop-redo-preserved c =
    let b = c.args.book.now in let m = c.self.inside.map in
    let xs : List Entry = map deref_pair c.loop-redo.yielded in
    let x : Entry = (c.in-Some.field-0-0.now, c.in-Some.redo.now) in
    let es = c.range-redo-items.result in
    let start : c.into_iter-redo-iterator.result ≡ es = c.into_iter-redo-iterator.ensures.into_iter_gives in
    let split : es ≡ xs ++ x ∷ c.next.new.self =
    sym start ∙ rest_so_far deref_pair c.loop-redo.yielded c.into_iter-redo-iterator.result c.loop-redo.redo-iterator c.loop-redo.yielded_by ∙ ap (λ (l : List Entry). xs ++ l) c.in-Some.ensures.steps in
    let walk = walk_of m c.args.page c.args.above c.args.to es xs (x ∷ c.next.new.self) c.self.invariant (sym c.range-redo-items.ensures.between) split in
    let e = c.of-packed.result.epoch in let n = c.of-packed.result.number in
    let none : Rowed b (seen m) c.args.above xs c.loop-redo.start None c.loop-redo.by_key =
    subst (λ (l : List RecordData). Rowed b l c.args.above xs c.loop-redo.start None c.loop-redo.by_key) (sym c.self.view_is)
    (subst (λ (o : Option Key). Rowed b c.args.self.now c.args.above xs c.loop-redo.start o c.loop-redo.by_key) c.in_default.is c.loop-redo.invariant) in
    let dead = λ (a : IsAlive b.cuts b.complete x.1.epoch x.1.number).
    let is = c.if-is_alive.ensures.alive.1 (alive_as b x.1.epoch x.1.number c.key-key.result.epoch c.key-key.result.number (sym (same_epoch c.key-key.ensures.value)) (sym (same_number c.key-key.ensures.value)) a) in absurd (false≢true is) in
    let joined : map deref_pair (c.loop-redo.yielded ++ (c.in-Some.field-0-0, c.in-Some.redo) ∷ []) ≡ xs ++ x ∷ [] = rw map-append in
    subst (λ (o : Option Key). Rowed b c.args.self.now c.args.above (map deref_pair (c.loop-redo.yielded ++ (c.in-Some.field-0-0, c.in-Some.redo) ∷ [])) (key_in e n) o c.loop-redo.by_key) (sym c.in_default.is)
    (subst (λ (l : List Entry). Rowed b c.args.self.now c.args.above l (key_in e n) None c.loop-redo.by_key) (sym joined)
    (subst (λ (l : List RecordData). Rowed b l c.args.above (xs ++ x ∷ []) (key_in e n) None c.loop-redo.by_key) c.self.view_is
    (rowed_dead b m c.args.page c.args.above c.args.to xs c.next.new.self x c.loop-redo.start c.loop-redo.by_key e n walk none dead (same_epoch c.of-packed.ensures.value) (same_number c.of-packed.ensures.value))))

pub returns-in-Some-last : goal.returns-in-Some-last
returns-in-Some-last c =
    let b = c.args.book.now in let m = c.self.inside.map in
    let xs : List Entry = map deref_pair c.loop-redo.yielded in
    let x : Entry = (c.in-Some.field-0-0.now, c.in-Some.redo.now) in
    let es = c.range-redo-items.result in
    let start : c.into_iter-redo-iterator.result ≡ es = c.into_iter-redo-iterator.ensures.into_iter_gives in
    let split : es ≡ xs ++ x ∷ c.next.new.self =
    sym start ∙ rest_so_far deref_pair c.loop-redo.yielded c.into_iter-redo-iterator.result c.loop-redo.redo-iterator c.loop-redo.yielded_by ∙ ap (λ (l : List Entry). xs ++ l) c.in-Some.ensures.steps in
    let walk = walk_of m c.args.page c.args.above c.args.to es xs (x ∷ c.next.new.self) c.self.invariant (sym c.range-redo-items.ensures.between) split in
    let last = c.in-Some-last.last in
    subst (λ (l : List RecordData). UnlistsRow b l c.args.page c.args.above c.args.to c.loop-redo.by_key (Some (c.loop-redo.start, last))) c.self.view_is
    (rowed_some b m c.args.page c.args.above c.args.to xs (x ∷ c.next.new.self) c.loop-redo.start last c.loop-redo.by_key walk
    (subst (λ (l : List RecordData). Rowed b l c.args.above xs c.loop-redo.start (Some last) c.loop-redo.by_key) (sym c.self.view_is)
    (subst (λ (o : Option Key). Rowed b c.args.self.now c.args.above xs c.loop-redo.start o c.loop-redo.by_key) c.in-Some-last.is c.loop-redo.invariant)))

pub returns-in_err-last : goal.returns-in_err-last
returns-in_err-last c =
    let b = c.args.book.now in let m = c.self.inside.map in
    let xs : List Entry = map deref_pair c.loop-redo.yielded in
    let es = c.range-redo-items.result in
    let start : c.into_iter-redo-iterator.result ≡ es = c.into_iter-redo-iterator.ensures.into_iter_gives in
    let split : es ≡ xs ++ [] =
    sym start ∙ rest_so_far deref_pair c.loop-redo.yielded c.into_iter-redo-iterator.result c.loop-redo.redo-iterator c.loop-redo.yielded_by ∙ ap (λ (l : List Entry). xs ++ l) c.in-None.ensures.steps.0 in
    let walk = walk_of m c.args.page c.args.above c.args.to es xs [] c.self.invariant (sym c.range-redo-items.ensures.between) split in
    subst (λ o. UnlistsRow b c.args.self.now c.args.page c.args.above c.args.to c.loop-redo.by_key o) (sym c.from_residual.ensures)
    (subst (λ (l : List RecordData). UnlistsRow b l c.args.page c.args.above c.args.to c.loop-redo.by_key None) c.self.view_is
    (rowed_all b m c.args.page c.args.above c.args.to xs c.loop-redo.start c.loop-redo.by_key walk
    (subst (λ (l : List RecordData). Rowed b l c.args.above xs c.loop-redo.start None c.loop-redo.by_key) (sym c.self.view_is)
    (subst (λ (o : Option Key). Rowed b c.args.self.now c.args.above xs c.loop-redo.start o c.loop-redo.by_key) c.in_err-last.was c.loop-redo.invariant))))

pub returns : goal.returns
returns c =
    let b = c.args.book.now in let m = c.self.inside.map in
    let xs : List Entry = map deref_pair c.loop-redo.yielded in
    let es = c.range-redo-items.result in
    let start : c.into_iter-redo-iterator.result ≡ es = c.into_iter-redo-iterator.ensures.into_iter_gives in
    let split : es ≡ xs ++ [] =
    sym start ∙ rest_so_far deref_pair c.loop-redo.yielded c.into_iter-redo-iterator.result c.loop-redo.redo-iterator c.loop-redo.yielded_by ∙ ap (λ (l : List Entry). xs ++ l) c.in-None.ensures.steps.0 in
    let walk = walk_of m c.args.page c.args.above c.args.to es xs [] c.self.invariant (sym c.range-redo-items.ensures.between) split in
    let last = c.in_ok-last.field-0 in
    subst (λ (l : List RecordData). UnlistsRow b l c.args.page c.args.above c.args.to c.loop-redo.by_key (Some (c.loop-redo.start, last))) c.self.view_is
    (rowed_some b m c.args.page c.args.above c.args.to xs [] c.loop-redo.start last c.loop-redo.by_key walk
    (subst (λ (l : List RecordData). Rowed b l c.args.above xs c.loop-redo.start (Some last) c.loop-redo.by_key) (sym c.self.view_is)
    (subst (λ (o : Option Key). Rowed b c.args.self.now c.args.above xs c.loop-redo.start o c.loop-redo.by_key) c.in_ok-last.was c.loop-redo.invariant)))

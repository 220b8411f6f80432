use Rattle.std.proofs.Common.{◌≡◌, ℕ, sym, ◌∙◌, ap, subst, refl, List, [], ◌∷◌, ◌++◌, map, Bor}
use Rattle.std.specs.Map.Iter.{deref_pair}
use Rattle.std.proofs.lemmas.Map.Iter.{rest_so_far}
use Rattle.std.proofs.lemmas.List.{map-append, append-nil}
use Rattle.std.proofs.lemmas.Bool.{false≢true}
use Rattle.redo_core.specs.Data.{RecordData}
use Rattle.redo_core.specs.Order.{Lists, BeforeByNumber}
use Rattle.redo_core.specs.Standing.{IsAlive}
use Rattle.hot_log.specs.Alive.{IsAliveBetween}
use Rattle.hot_log.proofs.Paged.{Entry}
use Rattle.hot_log.proofs.Ranges.{ListsAlive, Walks, range_of, alive_more, alive_left, alive_all, alive_none}
use Rattle.hot_log.proofs.records.PagedRecords.alive_between.Goals as goal

abbrev now : Bor RecordData → RecordData
now x = x.now

pub loop-redo-preserved-in-Continue-1 : goal.loop-redo-preserved-in-Continue-1
loop-redo-preserved-in-Continue-1 c =
    let b = c.args.book.now in let m = c.self.inside.map in
    let xs : List Entry = map deref_pair c.loop-redo.yielded in
    let x : Entry = (c.in-Some.field-0-0.now, c.in-Some.redo.now) in
    let es = c.range-redo-items.result in
    let start : c.into_iter-redo-iterator.result ≡ es = c.into_iter-redo-iterator.ensures.into_iter_gives in
    let split : es ≡ xs ++ x ∷ c.next.new.self =
    sym start ∙ rest_so_far deref_pair c.loop-redo.yielded c.into_iter-redo-iterator.result c.loop-redo.redo-iterator c.loop-redo.yielded_by ∙ ap (λ (l : List Entry). xs ++ l) c.in-Some.ensures.steps in
    let alive : IsAlive b.cuts b.complete x.1.epoch x.1.number =
    subst (λ (e : ℕ). IsAlive b.cuts b.complete e x.1.number) c.epoch.ensures (subst (λ (n : ℕ). IsAlive b.cuts b.complete c.epoch.result n) c.number.ensures.value (c.if-is_alive.ensures.alive.0 refl)) in
    let walks : Walks m c.args.page c.args.above c.args.to xs x = record {
      es = es;
      rest = c.next.new.self;
      range = range_of m c.args.page c.args.above c.args.to es c.self.invariant (sym c.range-redo-items.ensures.between);
      split = split;
      paged = c.self.invariant;
    } in
    let more = alive_more b m c.args.page c.args.above c.args.to xs x (map (λ x. x.now) c.loop-redo.found.items) c.if-is_alive.ensures.book walks c.loop-redo.invariant alive in
    let items : map (λ x. x.now) c.push.new.self.items ≡ map (λ x. x.now) c.loop-redo.found.items ++ x.1 ∷ [] = rw (c.in_ok-push.ensures.items, map-append) in
    let joined : map deref_pair (c.loop-redo.yielded ++ (c.in-Some.field-0-0, c.in-Some.redo) ∷ []) ≡ xs ++ x ∷ [] = rw map-append in
    subst (λ (l : List Entry). ListsAlive b l (map (λ x. x.now) c.push.new.self.items)) (sym joined) (subst (ListsAlive b (xs ++ x ∷ [])) (sym items) more)

pub loop-redo-preserved : goal.loop-redo-preserved
loop-redo-preserved c =
    let b = c.args.book.now in
    let xs : List Entry = map deref_pair c.loop-redo.yielded in
    let x : Entry = (c.in-Some.field-0-0.now, c.in-Some.redo.now) in
    let dead = λ (a : IsAlive b.cuts b.complete x.1.epoch x.1.number).
    let is = c.is_alive.ensures.alive.1 (subst (λ (e : ℕ). IsAlive b.cuts b.complete e c.number.result) (sym c.epoch.ensures) (subst (λ (n : ℕ). IsAlive b.cuts b.complete x.1.epoch n) (sym c.number.ensures.value) a)) in
    absurd (false≢true (sym c.if-is_alive.false ∙ is)) in
    let joined : map deref_pair (c.loop-redo.yielded ++ (c.in-Some.field-0-0, c.in-Some.redo) ∷ []) ≡ xs ++ x ∷ [] = rw map-append in
    subst (λ (l : List Entry). ListsAlive b l (map (λ x. x.now) c.loop-redo.found.items)) (sym joined)
    (alive_left b xs x (map (λ x. x.now) c.loop-redo.found.items) c.loop-redo.invariant dead)

pub returns : goal.returns
returns c =
    let b = c.args.book.now in let m = c.self.inside.map in
    let xs : List Entry = map deref_pair c.loop-redo.yielded in
    let ys : List RecordData = map (λ x. x.now) c.loop-redo.found.items in
    let es = c.range-redo-items.result in
    let start : c.into_iter-redo-iterator.result ≡ es = c.into_iter-redo-iterator.ensures.into_iter_gives in
    let all : es ≡ xs =
    sym start ∙ rest_so_far deref_pair c.loop-redo.yielded c.into_iter-redo-iterator.result c.loop-redo.redo-iterator c.loop-redo.yielded_by ∙ ap (λ (l : List Entry). xs ++ l) c.in-None.ensures.steps.0 ∙ append-nil xs in
    subst (λ (l : List RecordData). Lists BeforeByNumber (IsAliveBetween b l c.args.page c.args.above c.args.to) ys) c.self.view_is
    (alive_all b m c.args.page c.args.above c.args.to es ys c.self.invariant
    (range_of m c.args.page c.args.above c.args.to es c.self.invariant (sym c.range-redo-items.ensures.between))
    (subst (λ (l : List Entry). ListsAlive b l ys) (sym all) c.loop-redo.invariant))

pub loop-redo-init : goal.loop-redo-init
loop-redo-init c = alive_none c.args.book.now _ (ap (map now) c.new-found.ensures.items)

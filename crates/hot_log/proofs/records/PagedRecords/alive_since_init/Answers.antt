use Rattle.std.proofs.Common.{◌≡◌, ℕ, sym, ◌∙◌, ap, subst, refl, List, ◌∷◌, map, reverse, Bor}
use Rattle.std.proofs.lemmas.List.{map-append}
use Rattle.std.proofs.lemmas.Bool.{false≢true}
use Rattle.redo_core.specs.Data.{RecordData}
use Rattle.redo_core.specs.Standing.{IsAlive}
use Rattle.hot_log.specs.Alive.{IsAliveBetween}
use Rattle.hot_log.specs.Anew.{ListsAnew}
use Rattle.hot_log.proofs.Paged.{Entry}
use Rattle.hot_log.proofs.Ranges.{range_of}
use Rattle.hot_log.proofs.Descending.{alive_front, ends_anew, ends_all, starts, steps_down, passes_down, one_fewer, turned, turned_all, walks_down}
use Rattle.hot_log.proofs.records.PagedRecords.alive_since_init.Goals as goal

abbrev now : Bor RecordData → RecordData
now x = x.now

pub loop-redo-init : goal.loop-redo-init
loop-redo-init c = starts c.args.book.now c.range-left.result (map (λ x. x.now) c.new-found.result.items) (ap (map now) c.new-found.ensures.items)

pub loop-redo-preserved-else-init : goal.loop-redo-preserved-else-init
loop-redo-preserved-else-init c =
    let b = c.args.book.now in let m = c.self.inside.map in
    let x : Entry = (c.in-Some.field-0-0.now, c.in-Some.redo.now) in
    let alive : IsAlive b.cuts b.complete x.1.epoch x.1.number =
    subst (λ (e : ℕ). IsAlive b.cuts b.complete e x.1.number) c.epoch.ensures (subst (λ (n : ℕ). IsAlive b.cuts b.complete c.epoch.result n) c.number.ensures.value (c.if-is_alive.ensures.alive.0 refl)) in
    steps_down m c.args.page c.args.above c.args.to b c.range-left.result c.loop-redo.left c.next_back.new.self (map now c.loop-redo.found.items) (map now c.push.new.self.items) x
    c.self.invariant c.if-is_alive.ensures.book
    (range_of m c.args.page c.args.above c.args.to c.range-left.result c.self.invariant (sym c.range-left.ensures.between))
    c.in-Some.ensures.steps c.loop-redo.invariant alive (rw (c.in_ok-push.ensures.items, map-append))

pub loop-redo-preserved : goal.loop-redo-preserved
loop-redo-preserved c =
    let b = c.args.book.now in
    let x : Entry = (c.in-Some.field-0-0.now, c.in-Some.redo.now) in
    let dead = λ (a : IsAlive b.cuts b.complete x.1.epoch x.1.number).
    let is = c.if-is_alive.ensures.alive.1 (subst (λ (e : ℕ). IsAlive b.cuts b.complete e c.number.result) (sym c.epoch.ensures) (subst (λ (n : ℕ). IsAlive b.cuts b.complete x.1.epoch n) (sym c.number.ensures.value) a)) in
    absurd (false≢true is) in
    passes_down b c.range-left.result c.loop-redo.left c.next_back.new.self (map now c.loop-redo.found.items) x c.in-Some.ensures.steps c.loop-redo.invariant dead

pub returns-then-init : goal.returns-then-init
returns-then-init c =
    let b = c.args.book.now in let m = c.self.inside.map in
    let x : Entry = (c.in-Some.field-0-0.now, c.in-Some.redo.now) in
    let alive : IsAlive b.cuts b.complete x.1.epoch x.1.number =
    subst (λ (e : ℕ). IsAlive b.cuts b.complete e x.1.number) c.epoch.ensures (subst (λ (n : ℕ). IsAlive b.cuts b.complete c.epoch.result n) c.number.ensures.value (c.if-is_alive.ensures.alive.0 refl)) in
    let falling = map now c.loop-redo.found.items in
    let t = walks_down m c.args.page c.args.above c.args.to b c.range-left.result c.loop-redo.left c.next_back.new.self falling x c.self.invariant
    (range_of m c.args.page c.args.above c.args.to c.range-left.result c.self.invariant (sym c.range-left.ensures.between)) c.in-Some.ensures.steps c.loop-redo.invariant in
    let lists = alive_front b m c.args.page c.args.above c.args.to c.next_back.new.self x (reverse falling) c.if-is_alive.ensures.book t.0 t.1 alive in
    let ends = ends_anew b m c.args.page c.args.above c.args.to c.next_back.new.self x (x.1 ∷ reverse falling) c.if-is_alive.ensures.book t.0 lists alive (sym c.init.ensures ∙ c.if-init.true) in
    let items : map now c.reversed.result.items ≡ x.1 ∷ reverse falling = turned now c.loop-redo.found.items c.push.new.self.items c.reversed.result.items c.in-Some.redo c.in_ok-push.ensures.items c.reversed.ensures in
    subst (λ (l : List RecordData). ListsAnew (IsAliveBetween b l c.args.page c.args.above c.args.to) (map now c.reversed.result.items)) c.self.view_is
    (subst (ListsAnew (IsAliveBetween b _ c.args.page c.args.above c.args.to)) (sym items) ends)

pub returns : goal.returns
returns c =
    let b = c.args.book.now in let m = c.self.inside.map in
    let falling = map now c.loop-redo.found.items in
    let ends = ends_all m c.args.page c.args.above c.args.to b c.range-left.result c.loop-redo.left falling c.self.invariant
    (range_of m c.args.page c.args.above c.args.to c.range-left.result c.self.invariant (sym c.range-left.ensures.between)) c.in_default.ensures.steps.0 c.loop-redo.invariant in
    let items : map now c.reversed-2.result.items ≡ reverse falling = turned_all now c.loop-redo.found.items c.reversed-2.result.items c.reversed-2.ensures in
    subst (λ (l : List RecordData). ListsAnew (IsAliveBetween b l c.args.page c.args.above c.args.to) (map now c.reversed-2.result.items)) c.self.view_is
    (subst (ListsAnew (IsAliveBetween b _ c.args.page c.args.above c.args.to)) (sym items) ends)

pub loop-redo-smaller-else-init : goal.loop-redo-smaller-else-init
loop-redo-smaller-else-init c = one_fewer c.loop-redo.left c.next_back.new.self _ c.in-Some.ensures.steps

pub loop-redo-smaller : goal.loop-redo-smaller
loop-redo-smaller c = one_fewer c.loop-redo.left c.next_back.new.self _ c.in-Some.ensures.steps

use Rattle.std.proofs.Common.{◌≡◌, sym, ◌∙◌, ap, subst, [], ◌∷◌, ◌++◌, map, Bor}
use Rattle.std.specs.List.{Contains}
use Rattle.std.specs.Map.Iter.{deref_pair}
use Rattle.std.proofs.lemmas.Map.Iter.{rest_so_far}
use Rattle.std.proofs.lemmas.List.{map-append, append-nil}
use Rattle.std.proofs.lemmas.Bool.{false≢true}
use Rattle.redo_core.specs.Data.{RecordData}
use Rattle.hot_log.specs.Scanning.{IsStoredEntry}
use Rattle.hot_log.proofs.Keyed.{Entry, Map}
use Rattle.hot_log.proofs.Sides.{LacksOf, LeftOf, lacks_none, lacks_more, lacks_known, lacks_all, before_next, of_split, left_first, left_next, held_left}
use Rattle.hot_log.proofs.log.HotLog.missing.Goals as goal

abbrev now : Bor RecordData → RecordData
now x = x.now

pub new-own-requires : goal.new-own-requires
new-own-requires c = c.entries.ensures.rising

pub loop-key-init : goal.loop-key-init
loop-key-init c = (
  subst (LeftOf c.args.self.now []) (sym c.new-own.ensures) (left_first c.args.self.now c.entries.result c.entries.ensures),
  lacks_none c.args.self.now (map now c.new-missing.result.items) (ap (map now) c.new-missing.ensures.items),
)

pub is_at-requires : goal.is_at-requires
is_at-requires c e h = ((c.pass_to.ensures e).0 h).1

pub loop-key-preserved-in-Continue-1 : goal.loop-key-preserved-in-Continue-1
loop-key-preserved-in-Continue-1 c =
    let held = c.args.self.now in let other = c.args.other.now in
    let m = c.entries-key-items.result in
    let xs : Map = map deref_pair c.loop-key.yielded in
    let x : Entry = (c.in-Some.key.now, c.in-Some.redo.now) in
    let start : c.into_iter-key-iterator.result ≡ m = c.into_iter-key-iterator.ensures.into_iter_gives in
    let split : m ≡ xs ++ x ∷ c.next.new.self =
    sym start ∙ rest_so_far deref_pair c.loop-key.yielded c.into_iter-key-iterator.result c.loop-key.key-iterator c.loop-key.yielded_by ∙ ap (λ (l : Map). xs ++ l) c.in-Some.ensures.steps in
    let before = before_next other m xs c.next.new.self x c.entries-key-items.ensures split in
    let of : IsStoredEntry other x = of_split other m xs c.next.new.self x c.entries-key-items.ensures split in
    let there = held_left held xs c.loop-key.own c.pass_to.new.self x c.loop-key.invariant.0 c.pass_to.ensures before of.0 in
    let more = lacks_more held xs (map now c.loop-key.missing.items) x c.loop-key.invariant.1 before of.0
    (λ h. let yes = c.is_at.ensures.1 (there.0 h) in absurd (false≢true (sym c.if-not-is_at.true ∙ yes))) in
    let items : map now c.push.new.self.items ≡ map now c.loop-key.missing.items ++ x.1 ∷ [] = rw (c.in_ok-push.ensures.items, map-append) in
    let ends : xs ++ x ∷ [] ≡ map deref_pair (c.loop-key.yielded ++ (c.in-Some.key, c.in-Some.redo) ∷ []) = rw map-append in (
      subst (λ (l : Map). LeftOf held l c.pass_to.new.self) ends (left_next held xs c.loop-key.own c.pass_to.new.self x c.loop-key.invariant.0 c.pass_to.ensures),
      subst (λ (l : Map). LacksOf held l (map now c.push.new.self.items)) ends (subst (LacksOf held (xs ++ x ∷ [])) (sym items) more),
    )

pub loop-key-preserved : goal.loop-key-preserved
loop-key-preserved c =
    let held = c.args.self.now in
    let xs : Map = map deref_pair c.loop-key.yielded in
    let x : Entry = (c.in-Some.key.now, c.in-Some.redo.now) in
    let known : Contains held x.1 = ((c.loop-key.invariant.0 x).0 ((c.pass_to.ensures x).0 (c.is_at.ensures.0 c.if-not-is_at.false)).0).0.1 in
    let ends : xs ++ x ∷ [] ≡ map deref_pair (c.loop-key.yielded ++ (c.in-Some.key, c.in-Some.redo) ∷ []) = rw map-append in (
      subst (λ (l : Map). LeftOf held l c.pass_to.new.self) ends (left_next held xs c.loop-key.own c.pass_to.new.self x c.loop-key.invariant.0 c.pass_to.ensures),
      subst (λ (l : Map). LacksOf held l (map now c.loop-key.missing.items)) ends (lacks_known held xs (map now c.loop-key.missing.items) x c.loop-key.invariant.1 known),
    )

pub returns : goal.returns
returns c =
    let m = c.entries-key-items.result in
    let xs : Map = map deref_pair c.loop-key.yielded in
    let start : c.into_iter-key-iterator.result ≡ m = c.into_iter-key-iterator.ensures.into_iter_gives in
    let all : m ≡ xs =
    sym start ∙ rest_so_far deref_pair c.loop-key.yielded c.into_iter-key-iterator.result c.loop-key.key-iterator c.loop-key.yielded_by ∙ ap (λ (l : Map). xs ++ l) c.in-None.ensures.steps.0 ∙ append-nil xs in
    lacks_all c.args.self.now c.args.other.now m xs (map now c.loop-key.missing.items) c.entries-key-items.ensures all c.loop-key.invariant.1

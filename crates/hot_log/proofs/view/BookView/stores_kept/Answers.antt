use Rattle.std.proofs.Common.{◌≡◌, sym, ◌∙◌, ap, subst, refl, [], ◌∷◌, ◌++◌, map}
use Rattle.std.specs.Map.Iter.{deref_pair}
use Rattle.std.proofs.lemmas.Map.Iter.{rest_so_far}
use Rattle.std.proofs.lemmas.List.{map-append, append-nil}
use Rattle.std.proofs.lemmas.Bool.{false≢true}
use Rattle.hot_log.specs.Scanning.{IsStoredEntry}
use Rattle.hot_log.proofs.Keyed.{Entry, Map}
use Rattle.hot_log.proofs.Sides.{LeftOf, StoredIn, stored_none, stored_more, stored_all, lacks_one, before_next, of_split, left_first, left_next, held_left}
use Rattle.hot_log.proofs.view.BookView.stores_kept.Goals as goal

pub new-own-requires : goal.new-own-requires
new-own-requires c = c.entries.ensures.rising

pub loop-key-init : goal.loop-key-init
loop-key-init c =
    let view = c.args.self.now in (
      subst (LeftOf view.held.now []) (sym c.new-own.ensures) (left_first view.held.now c.entries.result c.entries.ensures),
      stored_none view.book.now view.held.now c.args.point c.args.lower.now.book.now c.args.base,
    )

pub lacks-requires : goal.lacks-requires
lacks-requires c e h = ((c.pass_to.ensures e).0 h).1

pub returns-then-lacks : goal.returns-then-lacks
returns-then-lacks c =
    let view = c.args.self.now in let low = c.args.lower.now in
    let m = c.entries-key-items.result in
    let xs : Map = map deref_pair c.loop-key.yielded in
    let x : Entry = (c.in-Some.key.now, c.in-Some.redo.now) in
    let start : c.into_iter-key-iterator.result ≡ m = c.into_iter-key-iterator.ensures.into_iter_gives in
    let split : m ≡ xs ++ x ∷ c.next.new.self =
    sym start ∙ rest_so_far deref_pair c.loop-key.yielded c.into_iter-key-iterator.result c.loop-key.key-iterator c.loop-key.yielded_by ∙ ap (λ (l : Map). xs ++ l) c.in-Some.ensures.steps in
    let of : IsStoredEntry low.held.now x = of_split low.held.now m xs c.next.new.self x c.entries-key-items.ensures split in
    let there = held_left view.held.now xs c.loop-key.own c.pass_to.new.self x c.loop-key.invariant.0 c.pass_to.ensures
    (before_next low.held.now m xs c.next.new.self x c.entries-key-items.ensures split) of.0 in (
      λ h. absurd (false≢true h),
      λ stored. absurd (lacks_one view.book.now view.held.now c.args.point low.book.now low.held.now c.args.base c.pass_to.new.self x of there (c.lacks.ensures.lacks c.if-lacks.true) stored),
    )

pub loop-key-preserved : goal.loop-key-preserved
loop-key-preserved c =
    let view = c.args.self.now in let low = c.args.lower.now in
    let m = c.entries-key-items.result in
    let xs : Map = map deref_pair c.loop-key.yielded in
    let x : Entry = (c.in-Some.key.now, c.in-Some.redo.now) in
    let start : c.into_iter-key-iterator.result ≡ m = c.into_iter-key-iterator.ensures.into_iter_gives in
    let split : m ≡ xs ++ x ∷ c.next.new.self =
    sym start ∙ rest_so_far deref_pair c.loop-key.yielded c.into_iter-key-iterator.result c.loop-key.key-iterator c.loop-key.yielded_by ∙ ap (λ (l : Map). xs ++ l) c.in-Some.ensures.steps in
    let of : IsStoredEntry low.held.now x = of_split low.held.now m xs c.next.new.self x c.entries-key-items.ensures split in
    let there = held_left view.held.now xs c.loop-key.own c.pass_to.new.self x c.loop-key.invariant.0 c.pass_to.ensures
    (before_next low.held.now m xs c.next.new.self x c.entries-key-items.ensures split) of.0 in
    let ends : xs ++ x ∷ [] ≡ map deref_pair (c.loop-key.yielded ++ (c.in-Some.key, c.in-Some.redo) ∷ []) = rw map-append in (
      subst (λ (l : Map). LeftOf view.held.now l c.pass_to.new.self) ends
          (left_next view.held.now xs c.loop-key.own c.pass_to.new.self x c.loop-key.invariant.0 c.pass_to.ensures),
      subst (λ (l : Map). StoredIn view.book.now view.held.now c.args.point low.book.now c.args.base l) ends
          (stored_more view.book.now view.held.now c.args.point low.book.now c.args.base xs x c.loop-key.invariant.1 (λ both. there.1 (c.lacks.ensures.has c.if-lacks.false both))),
    )

pub returns : goal.returns
returns c =
    let view = c.args.self.now in let low = c.args.lower.now in
    let m = c.entries-key-items.result in
    let xs : Map = map deref_pair c.loop-key.yielded in
    let start : c.into_iter-key-iterator.result ≡ m = c.into_iter-key-iterator.ensures.into_iter_gives in
    let all : m ≡ xs =
    sym start ∙ rest_so_far deref_pair c.loop-key.yielded c.into_iter-key-iterator.result c.loop-key.key-iterator c.loop-key.yielded_by ∙ ap (λ (l : Map). xs ++ l) c.in-None.ensures.steps.0 ∙ append-nil xs in (
      λ _. stored_all view.book.now view.held.now c.args.point low.book.now low.held.now c.args.base m xs c.entries-key-items.ensures all c.loop-key.invariant.1,
      λ _. refl,
    )

use Rattle.std.proofs.Common.{◌≡◌, sym, ◌∙◌, ap, subst, List, [], ◌∷◌, ◌++◌, map}
use Rattle.std.specs.Map.Iter.{deref_pair}
use Rattle.std.proofs.lemmas.Map.Iter.{rest_so_far}
use Rattle.std.proofs.lemmas.List.{map-append, append-nil}
use Rattle.std.proofs.lemmas.Bool.{false≢true}
use Rattle.redo_core.specs.Order.{Lists}
use Rattle.redo_core.specs.Keys.{KeyBefore}
use Rattle.redo_core.specs.declared.keys.Key.{Key}
use Rattle.hot_log.specs.Kept.{KeepsKey, IsKeyKept}
use Rattle.hot_log.proofs.Keyed.{Entry}
use Rattle.hot_log.proofs.Kept.{ListsKept, kept_more, kept_left, kept_all, kept_none}
use Rattle.hot_log.proofs.key_records.KeyRecords.kept_keys.Goals as goal

pub loop-key-preserved-in-Continue-1 : goal.loop-key-preserved-in-Continue-1
loop-key-preserved-in-Continue-1 c =
    let b = c.args.book.now in let m = c.self.inside.map in
    let xs : List Entry = map deref_pair c.loop-key.yielded in
    let x : Entry = (c.in-Some.key.now, c.in-Some.field-0-1.now) in
    let es = c.above-key-items.result in
    let start : c.into_iter-key-iterator.result ≡ es = c.into_iter-key-iterator.ensures.into_iter_gives in
    let split : es ≡ xs ++ x ∷ c.next.new.self =
    sym start ∙ rest_so_far deref_pair c.loop-key.yielded c.into_iter-key-iterator.result c.loop-key.key-iterator c.loop-key.yielded_by ∙ ap (λ (l : List Entry). xs ++ l) c.in-Some.ensures.steps in
    let more = kept_more b c.args.point m c.args.above es xs c.next.new.self x c.loop-key.kept.items c.self.invariant (sym c.above-key-items.ensures.above) split c.loop-key.invariant.0 (subst (KeepsKey b c.args.point) c.key-key.ensures (c.keeps.ensures.keeps.0 c.if-keeps.true)) in
    let joined : map deref_pair (c.loop-key.yielded ++ (c.in-Some.key, c.in-Some.field-0-1) ∷ []) ≡ xs ++ x ∷ [] = rw map-append in (
      subst (λ (l : List Entry). ListsKept b c.args.point l c.push.new.self.items) (sym joined)
          (subst (ListsKept b c.args.point (xs ++ x ∷ [])) (sym c.in_ok-push.ensures.items)
          (subst (λ (k : Key). ListsKept b c.args.point (xs ++ x ∷ []) (c.loop-key.kept.items ++ k ∷ [])) (sym c.key-key.ensures) more)),
      c.keeps.ensures.span,
    )

pub loop-key-preserved : goal.loop-key-preserved
loop-key-preserved c =
    let b = c.args.book.now in
    let xs : List Entry = map deref_pair c.loop-key.yielded in
    let x : Entry = (c.in-Some.key.now, c.in-Some.field-0-1.now) in
    let joined : map deref_pair (c.loop-key.yielded ++ (c.in-Some.key, c.in-Some.field-0-1) ∷ []) ≡ xs ++ x ∷ [] = rw map-append in (
      subst (λ (l : List Entry). ListsKept b c.args.point l c.loop-key.kept.items) (sym joined)
          (kept_left b c.args.point xs x c.loop-key.kept.items c.loop-key.invariant.0 (λ (keeps : KeepsKey b c.args.point x.0). let yes = c.keeps.ensures.keeps.1 (subst (KeepsKey b c.args.point) (sym c.key-key.ensures) keeps) in absurd (false≢true (sym c.if-keeps.false ∙ yes)))),
      c.keeps.ensures.span,
    )

pub returns : goal.returns
returns c =
    let b = c.args.book.now in let m = c.self.inside.map in
    let xs : List Entry = map deref_pair c.loop-key.yielded in
    let keys : List Key = c.loop-key.kept.items in
    let es = c.above-key-items.result in
    let start : c.into_iter-key-iterator.result ≡ es = c.into_iter-key-iterator.ensures.into_iter_gives in
    let all : es ≡ xs =
    sym start ∙ rest_so_far deref_pair c.loop-key.yielded c.into_iter-key-iterator.result c.loop-key.key-iterator c.loop-key.yielded_by ∙ ap (λ (l : List Entry). xs ++ l) c.in-None.ensures.steps.0 ∙ append-nil xs in
    subst (λ (l : List Entry). Lists KeyBefore (IsKeyKept b l c.args.above c.args.point) keys) c.self.view_is
    (kept_all b c.args.point m c.args.above es keys (sym c.above-key-items.ensures.above)
    (subst (λ (l : List Entry). ListsKept b c.args.point l keys) (sym all) c.loop-key.invariant.0))

pub loop-key-init : goal.loop-key-init
loop-key-init c = (kept_none c.args.book.now c.args.point _ c.new-kept.ensures.items, tt)

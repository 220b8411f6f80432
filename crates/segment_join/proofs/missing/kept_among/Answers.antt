use Rattle.std.proofs.Common.{◌≡◌, ◌+◌, ◌<◌, ◌≤◌, List, ◌∷◌, [], ◌++◌, length, get_or, take, map, sym, ap, subst, ◌∙◌, arith, Bor}
use Rattle.std.proofs.Math.ListN.{get_or-map}
use Rattle.std.proofs.lemmas.List.{length-map, map-append}
use Rattle.std.proofs.lemmas.Bool.{false≢true}
use Rattle.std.specs.List.{Contains}
use Rattle.redo_core.specs.Data.{RecordData}
use Rattle.redo_core.specs.Order.{Lists, RecordBefore}
use Rattle.redo_core.proofs.Members.{item}
use Rattle.redo_core.proofs.Rising.{across, item_drop}
use Rattle.redo_core.proofs.Listing.{lists_more, lists_left, lists_whole}
use Rattle.segment_theorems.specs.HasMeaning.{IsKeptBy}
use Rattle.segment_core.proofs.OneView.{one_anchor}
use Rattle.segment_join.proofs.missing.kept_among.Goals as goal
use Rattle.segment_join.proofs.missing.kept_among.Goals.{then-keeps+in_ok-push, else-keeps}

pub loop-redo-preserved : goal.loop-redo-preserved
loop-redo-preserved c =
    let now : Bor RecordData → RecordData = λ r. r.now in
    let s = c.args.segment.now in let rs = map now c.args.records.now in let i = c.loop-redo.redo-index in let x = c.redo-item.result in
    let is : x.now ≡ get_or rs i x.now = ap now c.redo-item.is ∙ sym (get_or-map now c.args.records.now i x) in
    let lt : i < length rs = omega (arith, c.loop-redo-test.true, length-map c.args.records.now now) in
    let P : RecordData → Type 0 = IsKeptBy s c.anchor-anchor.result in
    let T : List RecordData → Type 0 = Lists RecordBefore (λ r. Contains (take (i + 1) rs) r × P r) in
    let ys : List RecordData = map (λ r. r.now) c.loop-redo.kept.items in
    let tells = c.keeps.ensures (c.requires.held x.now (item rs i x.now lt is)) in
    let low = λ (y : RecordData) (h : Contains (take i rs) y) (p : P y). across RecordBefore rs i y x.now c.requires.rising h (item_drop rs i x.now lt is) in
    elim c.if-keeps.branch [
      | then-keeps+in_ok-push w ↦
          let more : T (ys ++ x.now ∷ []) = lists_more RecordBefore P rs ys i x.now lt is (tells.0 w.if-keeps.true) low c.loop-redo.invariant in
          let items : map (λ r. r.now) c.if-keeps.kept.items ≡ ys ++ x.now ∷ [] = rw (w.kept-is, w.in_ok-push.ensures.items, map-append) in
          subst T (sym items) more
      | else-keeps w ↦
          let left : T ys = lists_left RecordBefore P rs ys i x.now lt is (λ p. absurd (false≢true (sym w.if-keeps.false ∙ tells.1 p))) c.loop-redo.invariant in
          subst (λ kept. T (map (λ r. r.now) kept.items)) (sym w.kept-is) left
    ]

pub returns : goal.returns
returns c = λ anchor has.
    let s = c.args.segment.now in
    let now : Bor RecordData → RecordData = λ r. r.now in
    let rs = map now c.args.records.now in
    let end : length rs ≤ c.loop-redo.redo-index = omega (arith, c.loop-redo-test.false, length-map c.args.records.now now) in
    let ys : List RecordData = map (λ r. r.now) c.loop-redo.kept.items in
    let own : c.anchor-anchor.result ≡ anchor = one_anchor s c.anchor-anchor.result anchor c.anchor-anchor.ensures.own has in
    subst (λ n. Lists RecordBefore (λ r. Contains rs r × IsKeptBy s n r) ys) own
    (lists_whole RecordBefore (IsKeptBy s c.anchor-anchor.result) rs ys c.loop-redo.redo-index end c.loop-redo.invariant)

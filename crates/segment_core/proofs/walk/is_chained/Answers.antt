use Rattle.std.proofs.Common.{◌≡◌, ◌+◌, ◌<◌, List, [], ◌∷◌, ◌++◌, map, take, take_all, false, Bor, sym, ap, ◌∙◌, subst}
use Rattle.std.proofs.lemmas.List.{map-append, take_more}
use Rattle.std.proofs.lemmas.Bool.{false≢true}
use Rattle.redo_core.specs.Data.{RecordData}
use Rattle.redo_core.specs.declared.records.Record.{Record}
use Rattle.segment_core.specs.BlockChain.{IsChained}
use Rattle.segment_core.proofs.Chained.{IsChainedTo, none_chained, chained_more}
use Rattle.segment_core.proofs.walk.is_chained.Goals as goal
use Rattle.segment_core.proofs.walk.is_chained.Goals.{else-leads_on-via-then-leads_on+else-block_back-below, else-leads_on-via-else-leads_on}

pub loop-redo-init : goal.loop-redo-init
loop-redo-init c = none_chained c.args.version

pub loop-redo-preserved : goal.loop-redo-preserved
loop-redo-preserved c =
    let r = c.redo-item.result.now in
    let i = c.loop-redo.redo-index in
    let seen : Bor Record → RecordData = λ x. x.now in
    let follows : r.init ≡ false → c.args.version < r.block_back → r.block_back ≡ c.loop-redo.below = λ anew above. elim c.else-leads_on.branch [
      | else-leads_on-via-then-leads_on+else-block_back-below w ↦ sym w.block_back.ensures.value ∙ w.if-block_back-below.false
      | else-leads_on-via-else-leads_on w ↦ (let t = c.leads_on.ensures.1 (anew, above) in absurd (false≢true (sym w.if-leads_on.false ∙ t)))
    ] in
    let more : map seen (take (i + 1) c.args.records.now) ≡ map seen (take i c.args.records.now) ++ r ∷ [] =
    ap (map seen) (take_more c.args.records.now i c.redo-item.result c.loop-redo-test.true) ∙ (map-append seen _ _ ∙ ap (λ (x : Bor Record). map seen (take i c.args.records.now) ++ seen x ∷ []) (sym c.redo-item.is)) in
    subst (λ (xs : List RecordData). IsChainedTo c.args.version xs c.number-below.result) (sym more)
    (chained_more c.args.version (map seen (take i c.args.records.now)) c.loop-redo.below c.number-below.result r c.loop-redo.invariant c.number-below.ensures.value follows)

pub returns : goal.returns
returns c =
    let seen : Bor Record → RecordData = λ x. x.now in
    λ t. subst (λ (xs : List (Bor Record)). IsChained c.args.version (map seen xs))
    (take_all c.loop-redo.redo-index c.args.records.now c.loop-redo-test.false) c.loop-redo.invariant.chained

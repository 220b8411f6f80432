use Rattle.std.proofs.Common.{◌≡◌, length, get_or, take, sym, subst, ◌∙◌, arith}
use Rattle.std.proofs.lemmas.Bool.{eqb-true}
use Rattle.std.specs.List.{All, Contains}
use Rattle.redo_core.proofs.Members.{item}
use Rattle.redo_core.specs.Keys.{key_in}
use Rattle.redo_core.specs.declared.keys.Key.{Key}
use Rattle.redo_core.proofs.Scans.{whole, one_more}
use Rattle.std.proofs.lemmas.List.{get_or_default}
use Rattle.hot_log.proofs.KeySearch.{are_one}
use Rattle.gossip_core.proofs.answering.are_among.Goals as goal
use Rattle.gossip_core.proofs.answering.are_among.Goals.{then-place-keys+then-eq, else-place-keys}

pub loop-key-preserved : goal.loop-key-preserved
loop-key-preserved c =
    let keys = c.args.keys.now in let kept = c.args.kept.now in let i = c.loop-key.place in let k = c.loop-key.key-index in
    let P : Key → Type 0 = Contains kept in
    let key : Key = get_or keys i (key_in 0 0) in
    let pair : Key = get_or kept k (key_in 0 0) in
    elim c.if-place-keys.branch [
      | then-place-keys+then-eq w ↦
          let has : Contains kept pair = item kept k pair c.loop-key-test.true (get_or_default kept k (key_in 0 0) pair c.loop-key-test.true) in
          let found : P key = subst (Contains kept) (sym (are_one key pair (sym w.eq.ensures ∙ w.if-eq.true))) has in
          subst (λ n. All P (take n keys)) (sym w.place-is)
          (one_more P keys i key w.if-place-keys.true (get_or_default keys i (key_in 0 0) key w.if-place-keys.true) c.loop-key.invariant found)
      | else-place-keys w ↦ subst (λ n. All P (take n keys)) (sym w.place-is) c.loop-key.invariant
    ]

pub returns : goal.returns
returns c = λ h.
    let end : c.loop-key.place ≡ length c.args.keys.now = eqb-true c.loop-key.place (length c.args.keys.now) h in
    whole (Contains c.args.kept.now) c.args.keys.now c.loop-key.place (omega (arith, end)) c.loop-key.invariant

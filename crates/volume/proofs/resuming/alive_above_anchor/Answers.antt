use Rattle.std.proofs.Common.{◌≡◌, ◌+◌, ◌≤◌, ◌∷◌, List, Some, None, get_or, sym, subst}
use Rattle.redo_core.proofs.Numbers.{greatest_unique}
use Rattle.redo_core.specs.Keys.{key_in}
use Rattle.redo_core.specs.declared.keys.Key.{Key}
use Rattle.segment_theorems.specs.State.{min_of}
use Rattle.segment_theorems.specs.HasMeaning.{IsLinkedIn, IsKeptBy}
use Rattle.hot_log.specs.Kept.{ListsKeysOf}
use Rattle.volume.specs.Resuming.{IsEntryOfKey}
use Rattle.volume.proofs.AliveAbove.{GathersTo, gathers_none, gathers_left, gathers_more, gathers_all, read_again}
use Rattle.volume.proofs.resuming.alive_above_anchor.Goals as goal
use Rattle.volume.proofs.resuming.alive_above_anchor.Goals.{in-Some+in_ok-push_front, in_default}

pub loop-key-init : goal.loop-key-init
loop-key-init c = λ anchor has.
    let s = c.args.union.now in let keys = c.deref-key-items.result.now in
    let own : c.anchor.result ≡ anchor = greatest_unique (λ n. IsLinkedIn s n × (n ≤ min_of s)) (λ n. IsLinkedIn s n × (n ≤ min_of s))
    (λ n. (λ u. u, λ u. u)) c.anchor.result anchor c.anchor.ensures.own has in
    let all : ListsKeysOf (IsKeptBy s anchor) keys = subst (λ (ks : List Key). ListsKeysOf (IsKeptBy s anchor) ks) (sym c.deref-key-items.ensures.value)
    (subst (λ n. ListsKeysOf (IsKeptBy s n) c.in_ok-keys.keys.items) own c.in_ok-keys.ensures.keys) in
    subst (GathersTo s anchor keys 0) (sym c.new-alive.ensures.items) (gathers_none s anchor keys all)

pub loop-key-preserved : goal.loop-key-preserved
loop-key-preserved c = λ anchor has.
    let s = c.args.union.now in let keys = c.deref-key-items.result.now in let i = c.loop-key.key-index in let entries = c.loop-key.alive.items in
    let key : Key = get_or keys i (key_in 0 0) in
    let at : key ≡ get_or keys i key = read_again keys i (key_in 0 0) in
    let before : GathersTo s anchor keys i entries = c.loop-key.invariant anchor has in
    elim c.match-entry_at.branch [
      | in-Some+in_ok-push_front w ↦
          let entry = w.in-Some.entry in
          let some : IsEntryOfKey s key (Some entry) = subst (IsEntryOfKey s key) w.in-Some.is c.entry_at.ensures in
          let items : c.match-entry_at.alive.items ≡ entry ∷ entries = rw (w.alive-is, w.in_ok-push_front.ensures.items) in
          subst (GathersTo s anchor keys (i + 1)) (sym items)
          (gathers_more s anchor keys i entries key entry c.in_ok-keys.ensures.rising c.loop-key-test.true at some before)
      | in_default w ↦
          let none : IsEntryOfKey s key None = subst (IsEntryOfKey s key) w.in_default.is c.entry_at.ensures in
          subst (λ alive. GathersTo s anchor keys (i + 1) alive.items) (sym w.alive-is)
          (gathers_left s anchor keys i entries key c.loop-key-test.true at none before)
    ]

pub returns : goal.returns
returns c = λ anchor has.
    gathers_all c.args.union.now anchor c.deref-key-items.result.now c.loop-key.key-index c.loop-key.alive.items c.loop-key-test.false
    (c.loop-key.invariant anchor has)

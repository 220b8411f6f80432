use Rattle.std.proofs.Common.{◌≡◌, ◌<◌, ◌+◌, ◌∙◌, sym, ap, refl, rules, length, take, Some, None, true, false, arith}
use Rattle.std.specs.Prelude.{slice_get, ⊤}
use Rattle.std.proofs.lemmas.Option.{slice_get_read, slice_get_within, same_Some}
use Rattle.redo_core.specs.Sound.{Law1}
use Rattle.redo_core.specs.declared.keys.Key.{Key}
use Rattle.redo_core.specs.declared.facts.Fact.TheVariants.{Record}
use Rattle.log_law.specs.Keys.{IsSeen, IsSeenAt}
use Rattle.log_law.proofs.Repeats.{law1_none, law1_same, law1_not, seen_after, seen_at_key, match_not}
use Rattle.log_law.proofs.keys.is_other.Goals as goal

pub offset_bounds-facts-earlier : goal.offset_bounds-facts-earlier
offset_bounds-facts-earlier c =
    let h = seen_at_key c.args.facts.now c.args.place c.args.seen.now c.args.redo.now c.key.result.epoch c.key.result.number
    (Some c.in-Some.earlier) (ap (λ (k : Key). k.epoch) c.key.ensures.value) (ap (λ (k : Key). k.number) c.key.ensures.value) (sym c.in-Some.is ∙ c.in_ok-earlier.ensures.old) c.requires.seen in
    let inside : c.in-Some.earlier < length c.args.facts.now = slice_get_within c.args.facts.now c.in-Some.earlier (Record h.0) h.2 in
    search rules

pub bounds-facts-earlier : goal.bounds-facts-earlier
bounds-facts-earlier c =
    let h = seen_at_key c.args.facts.now c.args.place c.args.seen.now c.args.redo.now c.key.result.epoch c.key.result.number
    (Some c.in-Some.earlier) (ap (λ (k : Key). k.epoch) c.key.ensures.value) (ap (λ (k : Key). k.number) c.key.ensures.value) (sym c.in-Some.is ∙ c.in_ok-earlier.ensures.old) c.requires.seen in
    slice_get_within c.args.facts.now c.in-Some.earlier (Record h.0) h.2

pub offset_bounds-facts-place : goal.offset_bounds-facts-place
offset_bounds-facts-place c = omega (arith, slice_get_within)

pub bounds-facts-place : goal.bounds-facts-place
bounds-facts-place c = slice_get_within c.args.facts.now c.args.place (Record c.args.redo.now) c.requires.at

pub returns-in-Some-clause-law : goal.returns-in-Some-clause-law
returns-in-Some-clause-law c =
    let log = c.args.facts.now in let p = c.args.place in let i = c.in-Some.earlier in let r = c.args.redo.now in
    let h : IsSeenAt log p r.epoch r.number (Some i) = seen_at_key log p c.args.seen.now r c.key.result.epoch c.key.result.number
    (Some i) (ap (λ (k : Key). k.epoch) c.key.ensures.value) (ap (λ (k : Key). k.number) c.key.ensures.value) (sym c.in-Some.is ∙ c.in_ok-earlier.ensures.old) c.requires.seen in
    let old : slice_get c.args.facts.now c.in-Some.earlier ≡ Some c.index-facts-earlier.result = slice_get_read log
    (length c.args.facts.now) i c.index-facts-earlier.result refl (slice_get_within log i (Record h.0) h.2) c.index-facts-earlier.is in
    let new : slice_get c.args.facts.now c.args.place ≡ Some c.index-facts-place.result = slice_get_read log
    (length c.args.facts.now) p c.index-facts-place.result refl (slice_get_within log p (Record r) c.requires.at) c.index-facts-place.is in
    let here : c.index-facts-place.result ≡ Record c.args.redo.now = same_Some c.index-facts-place.result (Record r) (sym new ∙ c.requires.at) in
    match_not (Law1 (take p log) (Record r) → ⊥) (Law1 (take p log) (Record r)) c.is_same.result
    (λ t. law1_same log p i r h (old ∙ ap Some (c.is_same.ensures.same.0 t ∙ here)))
    (λ t. law1_not log p i r h (λ e. let same : c.is_same.result ≡ true = c.is_same.ensures.same.1
    (same_Some c.index-facts-earlier.result (Record r) (sym old ∙ e) ∙ sym here) in let clash : true ≡ false = sym same ∙ t in absurd (cc)))

pub returns-in-Some-clause-seen : goal.returns-in-Some-clause-seen
returns-in-Some-clause-seen c =
    let log = c.args.facts.now in let p = c.args.place in let i = c.in-Some.earlier in let r = c.args.redo.now in
    let h : IsSeenAt log p r.epoch r.number (Some i) = seen_at_key log p c.args.seen.now r c.key.result.epoch c.key.result.number
    (Some i) (ap (λ (k : Key). k.epoch) c.key.ensures.value) (ap (λ (k : Key). k.number) c.key.ensures.value) (sym c.in-Some.is ∙ c.in_ok-earlier.ensures.old) c.requires.seen in
    let old : slice_get c.args.facts.now c.in-Some.earlier ≡ Some c.index-facts-earlier.result = slice_get_read log
    (length c.args.facts.now) i c.index-facts-earlier.result refl (slice_get_within log i (Record h.0) h.2) c.index-facts-earlier.is in
    let new : slice_get c.args.facts.now c.args.place ≡ Some c.index-facts-place.result = slice_get_read log
    (length c.args.facts.now) p c.index-facts-place.result refl (slice_get_within log p (Record r) c.requires.at) c.index-facts-place.is in
    let here : c.index-facts-place.result ≡ Record c.args.redo.now = same_Some c.index-facts-place.result (Record r) (sym new ∙ c.requires.at) in
    match_not ⊤ (IsSeen log (p + 1) c.insert.new.self) c.is_same.result
    (λ t. seen_after log p r c.args.seen.now c.insert.new.self c.key.result.epoch c.key.result.number (ap (λ (k : Key). k.epoch) c.key.ensures.value) (ap (λ (k : Key). k.number) c.key.ensures.value)
    c.in_ok-earlier.ensures.updates.0 c.requires.at
    (law1_same log p i r h (old ∙ ap Some (c.is_same.ensures.same.0 t ∙ here))) c.requires.seen)
    (λ t. tt)

pub returns-in-None-clause-law : goal.returns-in-None-clause-law
returns-in-None-clause-law c =
    law1_none c.args.facts.now c.args.place c.args.redo.now
    (seen_at_key c.args.facts.now c.args.place c.args.seen.now c.args.redo.now c.key.result.epoch c.key.result.number None (ap (λ (k : Key). k.epoch) c.key.ensures.value) (ap (λ (k : Key). k.number) c.key.ensures.value)
    (sym c.in-None.is ∙ c.in_ok-earlier.ensures.old) c.requires.seen)

pub returns-in-None-clause-seen : goal.returns-in-None-clause-seen
returns-in-None-clause-seen c =
    seen_after c.args.facts.now c.args.place c.args.redo.now c.args.seen.now c.insert.new.self c.key.result.epoch c.key.result.number (ap (λ (k : Key). k.epoch) c.key.ensures.value)
    (ap (λ (k : Key). k.number) c.key.ensures.value) c.in_ok-earlier.ensures.updates.0 c.requires.at
    (law1_none c.args.facts.now c.args.place c.args.redo.now
    (seen_at_key c.args.facts.now c.args.place c.args.seen.now c.args.redo.now c.key.result.epoch c.key.result.number None (ap (λ (k : Key). k.epoch) c.key.ensures.value) (ap (λ (k : Key). k.number) c.key.ensures.value)
    (sym c.in-None.is ∙ c.in_ok-earlier.ensures.old) c.requires.seen))
    c.requires.seen

use Rattle.std.proofs.Common.{◌≡◌, ◌+◌, ◌≤◌, ltb, not, length, drop, refl, sym, ap, ◌∙◌, subst, arith}
use Rattle.std.specs.List.{filter}
use Rattle.std.proofs.lemmas.List.Filters.{length-filter_both}
use Rattle.redo_core.specs.Data.{AdvanceData}
use Rattle.epoch_book.proofs.Earlier.{later_left}
use Rattle.epoch_book.proofs.advances.keep_later.Goals as goal

begun_are : (c : goal.After-remove_first-arg-1) → c.earlier-begun.result.now ≡ filter (λ (a : AdvanceData). ltb a.epoch (c.args.complete + 1)) c.args.waits.now
begun_are c =
    c.earlier-begun.ensures
    ∙ ap (filter (λ (a : AdvanceData). ltb a.epoch (c.from.result + 1))) c.as_slice.ensures
    ∙ ap (λ n. filter (λ (a : AdvanceData). ltb a.epoch (n + 1)) c.args.waits.now) c.from.ensures

pub remove_first-requires : goal.remove_first-requires
remove_first-requires c =
    let ws = c.args.waits.now in
    let both = length-filter_both (λ (a : AdvanceData). ltb a.epoch (c.args.complete + 1)) (λ a. not (ltb a.epoch (c.args.complete + 1))) (λ a. refl) ws in
    subst (λ l. length l ≤ length ws) (sym (begun_are c)) (omega (arith, both))

pub returns : goal.returns
returns c = c.remove_first.ensures ∙ ap (λ l. drop (length l) c.args.waits.now) (begun_are c.before) ∙ later_left c.args.complete c.args.waits.now c.requires

use Rattle.std.proofs.Common.{sym, ◌∙◌, subst, List, Some, rules}
use Rattle.hot_log.specs.Indexing.{IsGreatestOf}
use Rattle.hot_log.proofs.Keyed.{Entry, greatest_of}
use Rattle.hot_log.proofs.key_records.KeyRecords.greatest_key.Goals as goal

pub returns-in_err-key : goal.returns-in_err-key
returns-in_err-key c = search rules

pub returns : goal.returns
returns c =
    let P : List Entry → Type 0 = λ l. IsGreatestOf l (Some c.in_ok-key.key.now) in
    subst P c.self.view_is (greatest_of c.self.inside.map (c.in_ok-key.key.now, c.in_ok-key.field-0-1.now) c.next_back.new.self c.self.invariant (sym c.iter.ensures.rest ∙ c.in_ok-key.ensures.steps))

use Rattle.std.proofs.Common.{◌≡◌, true, false, codes, sym, ◌∙◌}
use Rattle.std.specs.Prelude.{bytes_eq}
use Rattle.script_text.proofs.RecordContents.{anew_with, kept_with}
use Rattle.script_text.proofs.PatchLists.{anew_result, kept_result}
use Rattle.script_text.proofs.contents.record_of.Goals as goal

pub returns-then-is_word-clause-fact : goal.returns-then-is_word-clause-fact
returns-then-is_word-clause-fact c =
    let is : bytes_eq c.in-Some.front.now (codes "init") ≡ true = sym c.is_word.ensures ∙ c.if-is_word.true in
    rw (anew_with c.args.head c.args.text.now c.in-Some.front.now c.in-Some.behind.now c.in-Some.ensures.some is) c.anew.ensures.fact

pub returns-then-is_word-clause-reason : goal.returns-then-is_word-clause-reason
returns-then-is_word-clause-reason c =
    let is : bytes_eq c.in-Some.front.now (codes "init") ≡ true = sym c.is_word.ensures ∙ c.if-is_word.true in
    anew_result c.args.head c.args.text.now c.in-Some.front.now c.in-Some.behind.now c.anew.result c.in-Some.ensures.some is c.anew.ensures.reason

pub returns-else-is_word-clause-fact : goal.returns-else-is_word-clause-fact
returns-else-is_word-clause-fact c =
    let other : bytes_eq c.in-Some.front.now (codes "init") ≡ false = sym c.is_word.ensures ∙ c.if-is_word.false in
    rw (kept_with c.args.head c.args.text.now c.in-Some.front.now c.in-Some.behind.now c.in-Some.ensures.some other) c.of_many.ensures.fact

pub returns-else-is_word-clause-reason : goal.returns-else-is_word-clause-reason
returns-else-is_word-clause-reason c =
    let other : bytes_eq c.in-Some.front.now (codes "init") ≡ false = sym c.is_word.ensures ∙ c.if-is_word.false in
    kept_result c.args.head c.args.text.now c.in-Some.front.now c.in-Some.behind.now c.of_many.result c.in-Some.ensures.some other c.of_many.ensures.reason

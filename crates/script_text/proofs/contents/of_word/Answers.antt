use Rattle.std.proofs.Common.{◌≡◌, true, false, codes, sym, ◌∙◌}
use Rattle.std.specs.Prelude.{bytes_eq}
use Rattle.script_text.proofs.PatchLists.{dash_result, init_result, word_result}
use Rattle.script_text.proofs.contents.of_word.Goals as goal

pub returns-then-is_word-clause-reason : goal.returns-then-is_word-clause-reason
returns-then-is_word-clause-reason c =
    let dashed : bytes_eq c.args.text.now (codes "-") ≡ true = sym c.is_word.ensures ∙ c.if-is_word.true in
    dash_result c.args.head c.args.text.now c.new.result.items c.of_list.result dashed c.new.ensures.items c.of_list.ensures.reason

pub returns-then-is_word-2-clause-reason : goal.returns-then-is_word-2-clause-reason
returns-then-is_word-2-clause-reason c =
    let undashed : bytes_eq c.args.text.now (codes "-") ≡ false = sym c.is_word.ensures ∙ c.if-is_word.false in
    let is : bytes_eq c.args.text.now (codes "init") ≡ true = sym c.is_word-else-is_word.ensures ∙ c.if-is_word-2.true in
    init_result c.args.head c.args.text.now c.new-then-is_word-2.result.items c.of_list-then-is_word-2.result c.requires undashed is c.new-then-is_word-2.ensures.items
    c.of_list-then-is_word-2.ensures.reason

pub returns-else-is_word-2-clause-reason : goal.returns-else-is_word-2-clause-reason
returns-else-is_word-2-clause-reason c =
    let undashed : bytes_eq c.args.text.now (codes "-") ≡ false = sym c.is_word.ensures ∙ c.if-is_word.false in
    let other : bytes_eq c.args.text.now (codes "init") ≡ false = sym c.is_word-else-is_word.ensures ∙ c.if-is_word-2.false in
    word_result c.args.head c.args.text.now c.of_one.result c.requires undashed other c.of_one.ensures.reason

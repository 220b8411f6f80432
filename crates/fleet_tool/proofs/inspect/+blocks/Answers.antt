use Rattle.std.proofs.Common.{◌≡◌, string_bytes}
use Rattle.std.proofs.lemmas.Result.{IfOk-at_ok}
use Rattle.fleet_tool.specs.Inspect.{inspected, texts_bytes}
use Rattle.fleet_tool.proofs.Captures.{joined_told}
use Rattle.fleet_tool.proofs.inspect.+blocks.Goals as goal

pub returns : goal.returns
returns g t c =
    let first : texts_bytes c.in_ok-texts.texts.items ≡ inspected c.in-Some.first.now =
    IfOk-at_ok (λ v. texts_bytes v.items ≡ inspected c.in-Some.first.now) c.in_ok-texts.was c.join-texts.ensures.first in
    let second : string_bytes c.in_ok-last.field-0 ≡ inspected c.in-Some.second.now =
    IfOk-at_ok (λ s. string_bytes s ≡ inspected c.in-Some.second.now) c.in_ok-last.was c.join-texts.ensures.second in
    joined_told c.args.input.now c.in-Some.first.now c.in-Some.second.now c.in_ok-texts.texts.items c.push.new.self.items c.in_ok-last.field-0
    c.in-Some.ensures.cut first second c.in_ok-push.ensures.items

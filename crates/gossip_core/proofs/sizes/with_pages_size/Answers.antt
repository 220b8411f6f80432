use Rattle.std.proofs.Common.{◌≡◌, ℕ, inr, refl, Ok, Err}
use Rattle.segment_core.specs.Forgetting.{IsFirstBreak}
use Rattle.segment_core.specs.declared.answers.ReadFault.TheVariants.{BrokenBlockChain, Memory}
use Rattle.segment_core.proofs.FirstBreak.{sound_whole}
use Rattle.gossip_core.proofs.Broken.{tells_first, tells_whole}
use Rattle.gossip_core.proofs.sizes.with_pages_size.Goals as goal

broken : (c : goal.In-Some) → IsFirstBreak c.args.segment.now c.in-Some.page c.in-Some.number
broken c = (c.first_break.ensures.first c.in-Some.page c.in-Some.number).0 c.in-Some.is

pub returns-in-Some-clause-sound : goal.returns-in-Some-clause-sound
returns-in-Some-clause-sound c = λ sound. absurd (sound_whole c.args.segment.now sound c.in-Some.page c.in-Some.number (broken c).breaks)

pub returns-in-Some-clause-refused : goal.returns-in-Some-clause-refused
returns-in-Some-clause-refused c = inr (c.in-Some.page, c.in-Some.number, broken c, refl)

pub returns-in-Some-clause-broken : goal.returns-in-Some-clause-broken
returns-in-Some-clause-broken c =
    let x : ℕ × ℕ = (c.in-Some.page, c.in-Some.number) in
    tells_first c.args.segment.now c.first_break.result x c.in-Some.is c.first_break.ensures.first

pub returns-in-Ok-clause-whole : goal.returns-in-Ok-clause-whole
returns-in-Ok-clause-whole c = c.first_break.ensures.none c.in_default.is

pub returns-in-Ok-clause-broken : goal.returns-in-Ok-clause-broken
returns-in-Ok-clause-broken c = tells_whole c.args.segment.now (Ok c.in-Ok.size) (c.first_break.ensures.none c.in_default.is)
    (λ g n (e : Ok c.in-Ok.size ≡ Err (BrokenBlockChain g n)). absurd (cc))

pub returns-in-Err-clause-broken : goal.returns-in-Err-clause-broken
returns-in-Err-clause-broken c = tells_whole c.args.segment.now (Err Memory) (c.first_break.ensures.none c.in_default.is)
    (λ g n (e : Err Memory ≡ Err (BrokenBlockChain g n)). absurd (cc))

use Rattle.std.proofs.Common.{◌≡◌, length}
use Rattle.thread_cases.proofs.thread_calls.dealing.deal.Given as goal

abbrev pub invariant-loop-first : goal.invariant-loop-first
invariant-loop-first g l = length l.dealt.items ≡ l.first

use Rattle.std.proofs.Common.{arith, rules}
use Rattle.std.proofs.lemmas.Grind.{common_steps}
use Rattle.text.specs.Parts.{parts_at}
use Rattle.script_text.proofs.Faults.{next_is, rest_on}
use Rattle.script_text.proofs.contents.each_patch.Goals as goal

pub next_patch-requires : goal.next_patch-requires
next_patch-requires c = search (rules, next_is)

pub next_patch-requires-2 : goal.next_patch-requires-2
next_patch-requires-2 c = search (rules, next_is)

pub loop-piece-preserved : goal.loop-piece-preserved
loop-piece-preserved c = record {
  so_far = grind (arith, common_steps);
  rest = rest_on (parts_at 44 c.args.list.now) (parts_at 44 c.loop-piece.rest.now) (parts_at 44 c.in-Some.behind.now) c.loop-piece.patches.items c.push.new.self.items
      c.in_ok-next.next c.in-Some.piece.now c.loop-piece.invariant.rest c.in-Some.ensures.some c.in_ok-push.ensures.items;
}

use Rattle.std.proofs.Common.{rules}
use Rattle.redo_core.specs.Standing.{IsAlive}
use Rattle.volume.proofs.AliveAbove.{same_entry}
use Rattle.volume.proofs.resuming.entry_at.Goals as goal

pub returns-in-Some : goal.returns-in-Some
returns-in-Some c =
    let book = c.args.union.now.book in
    let alive : IsAlive book.cuts book.complete c.args.key.epoch c.args.key.number = c.stands.ensures.alive.0 (search rules) in (
      alive,
      (
        c.in-Some.redo.now,
        c.in-Some.ensures,
        same_entry c.number.result c.page.result c.block_back.result c.in-Some.redo.now c.number.ensures.value
            c.page.ensures c.block_back.ensures.value,
      ),
    )

use Rattle.std.proofs.Common.{◌+◌, ◌-◌, ◌≤◌, vec_len, vec_capacity}
use Rattle.epoch_book.specs.Lows.{AreLows}
use Rattle.epoch_book.proofs.lows.raise.Given as goal

-- the list is right up to the epoch, and has room for the others
abbrev pub invariant-loop-epoch : goal.invariant-loop-epoch
invariant-loop-epoch l = record {
  lows : AreLows l.cuts l.epoch l.lows.items;
  room : vec_len l.lows + (l.complete - l.epoch) ≤ vec_capacity l.lows;
}

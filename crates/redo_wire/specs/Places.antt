-- The order in which lists of keys, records and waiting advances are read: each element is to be above the position of the last.
use Rattle.std.specs.Prelude.{ℕ, Bool, nat_lt, ◌==◌, ◌&&◌, ◌||◌}
use Rattle.redo_core.specs.declared.keys.Key.{Key}

-- the pair (c, d) is above (a, b)
abbrev pub is_pair_above : ℕ → ℕ → ℕ → ℕ → Bool
is_pair_above a b c d = nat_lt a c || (a == c && nat_lt b d)

-- l is above k: of a later epoch, or of the same with a greater LSN; the key (0, 0) is below that of every record
abbrev pub is_above : Key → Key → Bool
is_above k l = is_pair_above k.epoch k.number l.epoch l.number

-- an epoch, a reader and a point; (0, 0, 0) is below the position of every advance
abbrev pub WaitPlace : Type 0
WaitPlace = ℕ × ℕ × ℕ

-- q is above p: of a later epoch, or of the same and of a later reader, or of the same two with a greater point
abbrev pub is_wait_above : WaitPlace → WaitPlace → Bool
is_wait_above p q = nat_lt p.0 q.0 || (p.0 == q.0 && is_pair_above p.1 p.2 q.1 q.2)

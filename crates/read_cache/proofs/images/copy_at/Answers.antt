use Rattle.std.proofs.Common.{nat_eq, rules}
use Rattle.lru.proofs.CallerLemmas.{Contains-promoted}
use Rattle.read_cache.proofs.Entries.{found}
use Rattle.read_cache.proofs.images.copy_at.Goals.{in_default-via-in-Some+else-kept-point, in_default-via-in-None-1}
use Rattle.read_cache.proofs.images.copy_at.Goals as goal

pub returns-in-Some-clause-found : goal.returns-in-Some-clause-found
returns-in-Some-clause-found c = search (rules, found)

pub returns-in-Some-clause-among : goal.returns-in-Some-clause-among
returns-in-Some-clause-among c = λ e at.
    Contains-promoted (nat_eq c.args.page) c.args.cache.now.entries e (rw c.get.follows.holds-at-none at at)

pub returns-in_default-clause-among : goal.returns-in_default-clause-among
returns-in_default-clause-among c = λ e at. elim c.in_default.branch [
  | in_default-via-in-Some+else-kept-point w ↦
      Contains-promoted (nat_eq c.args.page) c.args.cache.now.entries e (rw (w.cache-is, c.get.follows.holds-at-none) at at)
  | in_default-via-in-None-1 w ↦
      Contains-promoted (nat_eq c.args.page) c.args.cache.now.entries e (rw (w.cache-is, c.get.follows.holds-at-none) at at)
]

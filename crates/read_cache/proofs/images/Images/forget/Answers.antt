use Rattle.lru.proofs.Splits.{Contains-nil}
use Rattle.read_cache.proofs.images.Images.forget.Goals.{in-Some, in-None}
use Rattle.read_cache.proofs.images.Images.forget.Goals as goal

pub returns-clause-forgets : goal.returns-clause-forgets
returns-clause-forgets c = λ e at. elim c.match-self.branch [
  | in-Some w ↦ rw (← c.self.view_is, w.in-Some.is) (w.remove.ensures.forgets e (rw w.self-inside-is at at))
  | in-None w ↦ absurd (Contains-nil e (rw (w.self-inside-is, w.in-None.is) at at))
]

use Rattle.std.proofs.Common.{inl}
use Rattle.read_cache.proofs.images.Images.keep.Goals.{in-Some, in_default}
use Rattle.read_cache.proofs.images.Images.keep.Goals as goal

pub returns-clause-keeps : goal.returns-clause-keeps
returns-clause-keeps c = λ e at. elim c.match-self.branch [
  | in-Some w ↦ rw (← c.self.view_is, w.in-Some.is) (w.put.ensures.keeps e (rw w.self-inside-is at at))
  | in_default w ↦ inl (rw (← c.self.view_is) (rw w.self-inside-is at at))
]

use Rattle.read_cache.proofs.images.Images.find.Goals.{in-Some, in-None}
use Rattle.read_cache.proofs.images.Images.find.Goals as goal

pub returns-clause-among : goal.returns-clause-among
returns-clause-among c = λ e at. elim c.match-self.branch [
  | in-Some w ↦ rw (← c.self.view_is, w.in-Some.is) (w.copy_at.ensures.among e (rw w.self-inside-is at at))
  | in-None w ↦ rw (← c.self.view_is) (rw w.self-inside-is at at)
]

pub returns-clause-found : goal.returns-clause-found
returns-clause-found c = elim c.match-self.branch [
  | in-Some w ↦ rw (← c.self.view_is, w.in-Some.is, w.result-is) w.copy_at.ensures.found
  | in-None w ↦ rw w.result-is tt
]

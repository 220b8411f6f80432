use Rattle.std.proofs.Common.{[], refl}
use Rattle.std.specs.Cmp.{nat_eq_equiv}
use Rattle.std.proofs.lemmas.Map.Made.{IsDistinct-from_count}
use Rattle.read_cache.proofs.images.Images.len.Goals as goal

pub returns-in-None-clause-one : goal.returns-in-None-clause-one
returns-in-None-clause-one c = rw (← c.self.view_is, c.in-None.is) (IsDistinct-from_count nat_eq_equiv [] refl)

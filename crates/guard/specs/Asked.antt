-- The requests of a replica that a guard treats in a way of their own.
use Rattle.replica.specs.declared.requests.Request.{Request}
use Rattle.replica.specs.declared.requests.Request.TheVariants as request

-- an engine may ask it under its generation: it neither replaces the segment, nor fills or uses the staging
abbrev pub IsGuarded : Request → Type 0
IsGuarded (request.Open roster) = ⊥
IsGuarded (request.Stage name total) = ⊥
IsGuarded (request.Add piece) = ⊥
IsGuarded request.Finish = ⊥
IsGuarded request.Unite = ⊥
IsGuarded asked = Unit {0}

-- another segment takes the place of the present one
abbrev pub ReplacesSegment : Request → Type 0
ReplacesSegment (request.Open roster) = Unit {0}
ReplacesSegment request.Finish = Unit {0}
ReplacesSegment asked = ⊥

-- What the frame of an event is answered.
use Rattle.std.specs.Prelude.{◌≡◌, ℕ, ◌⊎◌, List, [], codes}
use Rattle.framing.specs.Frames.{framed}
use Rattle.volume.specs.declared.actions.Action.{Action}
use Rattle.volume.specs.declared.events.Event.{Event}
use Rattle.volume.specs.declared.phases.Phase.TheVariants.{Idle}
use Rattle.volume.specs.Data.{VolumeData, at_phase}
use Rattle.volume.specs.Stepping.{IsVolumeStep}
use Rattle.volume_stream.specs.EventFrames.{Said, said_by, event_in}
use Rattle.volume_stream.specs.EventFrames.Said.{Nothing, Unknown}
use Rattle.volume_stream.specs.ActionFrames.{actions_frame}
use Rattle.volume_stream.specs.declared.heard.Heard.TheVariants as heard

-- memory ran out: the event counts as not having come
abbrev pub LacksMemory : VolumeData → List ℕ → VolumeData → Type 0
LacksMemory old told new = (told ≡ codes "memory") × (new ≡ old)

-- The machine makes the step of an event, and each action that follows has a frame.
pub record MakesStep (old : VolumeData) (event : Event) (told : List ℕ) (new : VolumeData) : Type 0 where
  pub actions : List Action
  pub steps : IsVolumeStep old event actions new
  pub frames : told ≡ actions_frame actions

-- There was no room for the answer alone: nobody has these actions, and the volume is closed.
pub record LacksRoom (old : VolumeData) (event : Event) (told : List ℕ) (new : VolumeData) : Type 0 where
  pub actions : List Action
  pub left : VolumeData
  pub steps : IsVolumeStep old event actions left
  pub closed : new ≡ at_phase left Idle
  pub fault : told ≡ framed (codes "not open")

abbrev pub StepsEvent : VolumeData → Event → List ℕ → VolumeData → Type 0
StepsEvent old event told new = LacksMemory old told new ⊎ (LacksRoom old event told new ⊎ MakesStep old event told new)

-- the frame is no event: the answer says so, or it is empty for an answer that no engine listens to, and nothing has changed
abbrev pub AnswersNothing : VolumeData → Said → List ℕ → VolumeData → Type 0
AnswersNothing old said told new =
    (((said ≡ Nothing) × (told ≡ [])) ⊎ ((said ≡ Unknown) × (told ≡ codes "bad event"))) × (new ≡ old)

-- the frame may be answered so
abbrev pub AnswersEvent : VolumeData → List ℕ → List ℕ → VolumeData → Type 0
AnswersEvent old frame told new =
    LacksMemory old told new
    ⊎ (AnswersNothing old (event_in frame) told new
    ⊎ ((event : Event) × (event_in frame ≡ said_by (heard.Event event)) × StepsEvent old event told new))

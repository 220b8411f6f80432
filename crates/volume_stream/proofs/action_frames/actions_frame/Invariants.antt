use Rattle.std.proofs.Common.{◌≡◌, ◌++◌, ◌<◌, ◌^◌, length, drop}
use Rattle.volume_stream.specs.ActionFrames.{actions_frame}
use Rattle.volume_stream.proofs.action_frames.actions_frame.Given as goal

-- the frames so far, and then those of the other actions
abbrev pub invariant-loop-action : goal.invariant-loop-action
invariant-loop-action l = record {
  frames : l.out.items ++ actions_frame (drop l.action-index l.actions) ≡ actions_frame l.actions;
  short : length l.out.items < 2 ^ 32;
}

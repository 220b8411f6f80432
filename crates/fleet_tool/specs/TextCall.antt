-- What the text calls do: they read the whole input, and write the answer to it and nothing else.
use Rattle.std.specs.Prelude.{◌≡◌, ℕ, List, true, take, Option, Result, IsErrOf, IfOk, IfSome, OnOk}
use Rattle.std.specs.Io.KnownBytes.{Appends, IsAtEnd}
use Rattle.framing.specs.Watching.{device_of, has_failed}
use Rattle.framing.specs.declared.devices.fault.RunFault.{RunFault}
use Rattle.framing.specs.declared.devices.fault.RunFault.TheVariants.{Input, Output, Memory}
use Rattle.framing.specs.declared.devices.watched.Watched.{Watched}

-- A call that reads from a reader and answers to a writer. `remaining` and `contents` are what the devices specify of their bytes, if
-- they do, and IsAnswer says which text and which result answer an input.
pub record IsTextCall {R W V : Type 0} (remaining : R → Option (List ℕ)) (contents : W → Option (List ℕ)) (IsAnswer : List ℕ → List ℕ → V → Type 0)
    (reader reader' : Watched R) (writer writer' : Watched W) (result : Result V RunFault) : Type 0 where
  -- what is written is the answer to the whole input
  pub text : IfOk result (λ v. (input text : List ℕ) × IfSome (remaining (device_of reader)) (λ known. input ≡ known) × IsAnswer input text v
      × Appends (contents (device_of writer)) (contents (device_of writer')) text)
  -- a device is named only where a call of it failed
  pub input_only : IsErrOf result Input → has_failed reader' ≡ true
  pub output_only : IsErrOf result Output → has_failed writer' ≡ true
  -- after `Input` or `Memory` the writer is unchanged; after `Output` it has a prefix of the answer
  pub input_leaves : IsErrOf result Input → device_of writer' ≡ device_of writer
  pub memory_leaves : IsErrOf result Memory → device_of writer' ≡ device_of writer
  pub output_leaves : IsErrOf result Output → (input text : List ℕ) × (v : V) × (n : ℕ) × IfSome (remaining (device_of reader)) (λ known. input ≡ known)
      × IsAnswer input text v
      × Appends (contents (device_of writer)) (contents (device_of writer')) (take n text)
  -- the whole input is read before anything is written
  pub end : OnOk result (IsAtEnd (remaining (device_of reader')))
  pub end_on_output : IsErrOf result Output → IsAtEnd (remaining (device_of reader'))

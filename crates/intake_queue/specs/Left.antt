-- What is left of an intake at its end.
use Rattle.std.specs.Prelude.{◌≡◌, List, ◌++◌}
use Rattle.std.specs.List.{Contains}
use Rattle.intake_queue.specs.Parcel.{ParcelData, sent_by}
use Rattle.intake_queue.specs.Ends.{SenderData}

-- of each of these senders, what was taken and then what is left are its accepted offers, each once and in order
abbrev pub IsLeft : List SenderData → List ParcelData → List ParcelData → Type 0
IsLeft senders taken left = (s : SenderData) → Contains senders s → sent_by s.number (taken ++ left) ≡ s.accepted

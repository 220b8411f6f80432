-- What goes into the workers of a run, and what comes back.
use Rattle.std.specs.Prelude.{◌≡◌, ℕ, ◌≤◌, List, [], length, Option, Some, slice_get, vec_capacity}
use Rattle.atomic_table.specs.Seated.{TableId}
use Rattle.intake_queue.specs.Ends.{IntakeData}
use Rattle.node_cell.specs.Node.{NodeData, IsPassOf}
use Rattle.node_threads.specs.declared.feed.Feed.{Feed}
use Rattle.node_threads.specs.declared.drain.DrainerState.{DrainerState}
use Rattle.node_threads.specs.Each.{Each}
use Rattle.node_threads.specs.Work.{Offered, IsDone, Answered, Names, NamesItem}

-- the sender of each feed is of the intake that the feed names
abbrev pub FeedsFit : {L : Type 0} → List (Feed L) → List IntakeData → Type 0
FeedsFit feeds intakes = (k : ℕ) (f : _) (i : IntakeData) → slice_get feeds k ≡ Some f → NamesItem f.inlet intakes i → f.sender.intake ≡ i.id

-- a drainer at its beginning: its ends are of the intake, the board and the node, and it has room for its answers
pub record IsReady {L : Type 0} (nodes : List NodeData) (board : TableId) (intake : IntakeData) (h : DrainerState L) : Type 0 where
  pub taker : h.taker.intake ≡ intake.id
  pub seat : h.seat.board ≡ board
  pub pass : (n : NodeData) → NamesItem h.node nodes n → IsPassOf n h.pass
  pub none : h.answers.items ≡ []
  pub room : h.count ≤ vec_capacity h.answers

-- there is one for each intake
abbrev pub AreReady : {L : Type 0} → List NodeData → TableId → List IntakeData → List (DrainerState L) → Type 0
AreReady nodes board intakes holds = (length holds ≡ length intakes) × Each (λ k i h. IsReady nodes board i h) intakes holds

-- a feeder that was not halted offered the facts of its feed, and all of them where the feed names an inlet
pub record Fed {L : Type 0} (inlets : ℕ) (old new : Feed L) : Type 0 where
  pub inlet : new.inlet ≡ old.inlet
  pub offered : Offered old.sender old.facts.items new.sender new.facts.items
  pub done : Names old.inlet inlets → IsDone new.sender new.facts.items

-- a drainer that was not halted answered what it took, and as many parcels as it has to where its inlet names a node
pub record Drained {L : Type 0} (nodes : ℕ) (old new : DrainerState L) : Type 0 where
  pub seat : new.seat.board ≡ old.seat.board
  pub node : new.node ≡ old.node
  pub answered : Answered old.taker new.taker old.pass new.pass new.answers.items
  pub count : Names old.node nodes → length new.answers.items ≡ old.count

-- each of a list came back, with a relation to what it was
abbrev pub AllBack : {X Y : Type 0} → (X → Y → Type 0) → List X → List (Option Y) → Type 0
AllBack R xs ys = Each (λ k x o. (y : _) × (o ≡ Some y) × R x y) xs ys

-- a worker was started, and what it brought back is in a relation to its handle
abbrev pub CameBack : {H Y : Type 0} → (H → Y → Type 0) → Option H → Option Y → Type 0
CameBack R s o = (h : _) × (y : _) × (s ≡ Some h) × (o ≡ Some y) × R h y

abbrev pub AllCameBack : {H Y : Type 0} → (H → Y → Type 0) → List (Option H) → List (Option Y) → Type 0
AllCameBack R hs ys = Each (λ k s o. CameBack R s o) hs ys

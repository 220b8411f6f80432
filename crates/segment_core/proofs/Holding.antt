-- What a state stores after a record was put there.
use Rattle.std.proofs.Common.{◌≡◌, inl, inr, refl, rules}
use Rattle.redo_core.specs.Data.{RecordData}
use Rattle.hot_log.specs.Putting.{Puts}
use Rattle.hot_log.specs.declared.log.Put.TheVariants.{New}
use Rattle.segment_theorems.specs.State.{State, SameBase, state_of}
use Rattle.segment_core.specs.Uniting.{HoldsRecord}

-- a state of which only the records are others
pub but_held : (s t : State) → t.book ≡ s.book → SameBase s t → state_of s.book t.held s.base s.store ≡ t
but_held s t book rest = search rules

pub put_holds : (s t : State) (r : RecordData) → t.book ≡ s.book → SameBase s t → Puts s.held r t.held New → HoldsRecord s r t
put_holds s t r book rest puts = record {
  book = book;
  rest = rest;
  before = λ x m. (puts.1 x).1 (inl m);
  more = λ x m. (puts.1 x).0 m;
  held = inl ((puts.1 r).1 (inr refl));
}

-- What is told of values that may have no encoding.
use Rattle.std.proofs.Common.{◌≡◌, ℕ, Bool, true, false, List, ◌++◌, refl}
use Rattle.std.specs.Prelude.{codes}
use Rattle.node_stream.specs.Telling.{value_body}
use Rattle.node_stream.specs.Telling.BodyData.{Text, Raw}

pub value_of_bytes : (word bytes : List ℕ) (is_long : Bool) → (is_long ≡ true → ⊥) → value_body word is_long bytes ≡ Raw word bytes
unfolding value_body
value_of_bytes word bytes true not_long = absurd (not_long refl)
value_of_bytes word bytes false not_long = refl

pub value_of_none : (word bytes : List ℕ) (is_long : Bool) → is_long ≡ true → value_body word is_long bytes ≡ Text (word ++ codes " too long")
unfolding value_body
value_of_none word bytes true long = refl
value_of_none word bytes false long = absurd cc

pub ruleset values = (value_of_bytes, value_of_none)

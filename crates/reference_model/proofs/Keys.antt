-- Facts of one key.
use Rattle.std.proofs.Common.{◌≡◌, ℕ, ◌<◌, List, length, get_or, subst}
use Rattle.std.specs.List.{Contains, All}
use Rattle.std.proofs.lemmas.List.Elements.{All-contains}
use Rattle.redo_core.specs.Sound.{SameKey, Law1}
use Rattle.redo_core.specs.declared.facts.Fact.{Fact}
use Rattle.reference_model.proofs.Scanned.{IsSameOfKey}
use Rattle.redo_core.proofs.Members.{item}

pub only_of_key : (earlier : List Fact) (fact : Fact) → All (IsSameOfKey fact) earlier → Law1 earlier fact
only_of_key earlier fact all f h key = All-contains (IsSameOfKey fact) earlier f all h key

-- the fact that a scan has read is the one whose key it has
pub other_of_key : (earlier : List Fact) (fact : Fact) (i : ℕ) (f g : Fact) → i < length earlier → f ≡ get_or earlier i f → f ≡ g → Law1 earlier fact
    → SameKey g fact → g ≡ fact
other_of_key earlier fact i f g l e q law key = law g (subst (Contains earlier) q (item earlier i f l e)) key

-- The step's named fact, and steps that differ in nothing else.
use Rattle.std.specs.Prelude.{◌≡◌}
use Rattle.script_steps.specs.declared.steps.Step.{Step}
use Rattle.script_steps.specs.declared.steps.Step.TheVariants.{Take, Fold, Discard, Front, Read, Join, Same, Covers, Wipe, Ask, Answer, Absorb}

-- what the step takes, if it is a take, is of the kind P
abbrev pub NamedIs : {F : Type 0} → (F → Type 0) → Step F → Type 0
NamedIs P (Take node fact) = P fact
NamedIs P (Fold node page) = Unit {0}
NamedIs P (Discard node) = Unit {0}
NamedIs P (Front node) = Unit {0}
NamedIs P (Read node page point offset len) = Unit {0}
NamedIs P (Join node from) = Unit {0}
NamedIs P (Same node other) = Unit {0}
NamedIs P (Covers node other) = Unit {0}
NamedIs P (Wipe node) = Unit {0}
NamedIs P (Ask node) = Unit {0}
NamedIs P (Answer node message) = Unit {0}
NamedIs P (Absorb node message) = Unit {0}

-- the same step, except that a take names another thing, to which R leads
abbrev pub SameBut : {F G : Type 0} → (F → G → Type 0) → Step F → Step G → Type 0
SameBut {G = G} R (Take node fact) other = (named : G) × R fact named × (other ≡ Take node named)
SameBut R (Fold node page) other = other ≡ Fold node page
SameBut R (Discard node) other = other ≡ Discard node
SameBut R (Front node) other = other ≡ Front node
SameBut R (Read node page point offset len) other = other ≡ Read node page point offset len
SameBut R (Join node from) other = other ≡ Join node from
SameBut R (Same node than) other = other ≡ Same node than
SameBut R (Covers node than) other = other ≡ Covers node than
SameBut R (Wipe node) other = other ≡ Wipe node
SameBut R (Ask node) other = other ≡ Ask node
SameBut R (Answer node message) other = other ≡ Answer node message
SameBut R (Absorb node message) other = other ≡ Absorb node message

-- The drill's subcommand has no option that others share.
use Rattle.std.proofs.Common.{◌≡◌, ◌&&◌, Bool, true, false, not, refl}

-- the third of the settings of a plain command
pub no_globals : (groups external globals rest : Bool) → (groups && (not external && (not globals && rest))) ≡ true → globals ≡ false
no_globals true false false rest plain = refl
no_globals true false true rest plain = absurd cc
no_globals true true globals rest plain = absurd cc
no_globals false external globals rest plain = absurd cc

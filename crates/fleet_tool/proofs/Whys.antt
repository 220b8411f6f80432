-- Why a command line names no task.
use Rattle.std.proofs.Common.{◌≡◌, inl, inr, ℕ, List, [], Result, Ok, Err, IfErr, true, refl, sym, subst}
use Rattle.clap.specs.Words.{App, Kinds, FailsBy, HasKind, fault_of, is_simple_and_free, kind_of}
use Rattle.clap.specs.declared.error.Error.{Error}
use Rattle.clap.specs.declared.error.kind.ErrorKind.TheVariants.{OutOfMemory}
use Rattle.clap.proofs.OnLiterals.{clap_on_literals}
use Rattle.fleet_tool.specs.CommandLine.{fleet_app, line_faults, IsWhy}
use Rattle.fleet_tool.specs.declared.job.CommandFault.{CommandFault}
use Rattle.fleet_tool.specs.declared.job.CommandFault.TheVariants.{Bad}

-- the faults of this command are known
simple : is_simple_and_free fleet_app ≡ true
unfolding clap_on_literals
simple = refl

pub line_fails : {T : Type 0} (app : App) (words : List (List ℕ)) (r : Result T Error) → app ≡ fleet_app
    → (is_simple_and_free app ≡ true → FailsBy (fault_of app words) r) → FailsBy (line_faults words) r
unfolding line_faults
line_fails {T} app words r e h = subst (λ (a : App). is_simple_and_free a ≡ true → FailsBy (fault_of a words) r) e h simple

-- arguments that clap accepts are bad where they are no task's
pub bad_why : {T : Type 0} (kinds : Kinds) (r : Result T CommandFault) → kinds ≡ [] → IfErr r (λ e. e ≡ Bad) → IfErr r (IsWhy kinds)
bad_why kinds (Ok task) none is = tt
bad_why kinds (Err fault) none is = subst (IsWhy kinds) (sym is) (inl none)

-- arguments without a fault fail only if memory runs out
pub only_memory : (kinds : Kinds) (e : Error) → kinds ≡ [] → HasKind kinds e → kind_of e ≡ OutOfMemory
only_memory kinds e none has = elim (subst (λ (k : Kinds). HasKind k e) none has) [
  | inl memory ↦ memory
  | inr other ↦ absurd other
]

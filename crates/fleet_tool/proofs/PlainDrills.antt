-- The drill's name alone is a drill of the usual numbers.
use Rattle.std.proofs.Common.{◌||◌, Bool, codes, false, refl, ap, arith}
use Rattle.clap.proofs.OnLiterals.{clap_on_literals}
use Rattle.fleet_tool.specs.CommandLine.{line_faults, subcommand_in}
use Rattle.fleet_tool.specs.PlainDrill.{PlainDrill}

pub plain_drill : PlainDrill
unfolding clap_on_literals subcommand_in line_faults
plain_drill program unmarked = record {
  options = _;
  names = refl;
  encodes = record {
    nodes = (codes "3", refl, (omega arith, (omega arith, tt)), refl);
    workers = (codes "4", refl, (omega arith, (omega arith, tt)), refl);
    size = refl;
  };
  right = refl;
  whole = ap (λ (b : Bool). b || false) unmarked;
}

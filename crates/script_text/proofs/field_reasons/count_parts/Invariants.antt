use Rattle.std.proofs.Common.{◌≡◌, ◌≤◌, ◌+◌, eqb, take}
use Rattle.std.specs.List.{count_by}
use Rattle.script_text.proofs.field_reasons.count_parts.Given as goal

-- the parts so far
abbrev pub invariant-loop-byte : goal.invariant-loop-byte
invariant-loop-byte l = record {
  so_far : l.count ≡ count_by (λ b. eqb b l.separator) (take l.byte-index l.text) + 1;
  few : l.count ≤ l.byte-index + 1;
}

use Rattle.std.proofs.Common.{arith}
use Rattle.hex.proofs.HexLemmas.{decode_of-encode_lower}
use Rattle.script_text.proofs.encoding.digits.Goals as goal

pub returns-clause-read : goal.returns-clause-read
returns-clause-read c = decode_of-encode_lower c.args.bytes.now (λ i. omega (arith, c.type_inv.bytes i))

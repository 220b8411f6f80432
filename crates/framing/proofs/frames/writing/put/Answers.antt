use Rattle.std.proofs.Common.{◌≡◌, ℕ, List, ◌+◌, ◌-◌, ◌++◌, length, sym, ap, ◌∙◌}
use Rattle.framing.specs.Frames.{header}
use Rattle.framing.proofs.Buffers.{taken_both}
use Rattle.framing.proofs.frames.writing.put.Goals as goal

pub returns-clause-bytes : goal.returns-clause-bytes
unfolding header
returns-clause-bytes c =
    let head = c.copy_from_slice.new.self in
    let front = c.copy_from_slice-2.new.self in
    let is : head ≡ header c.args.count = c.copy_from_slice.ensures.after ∙ c.to_be_bytes.ensures in
    let behind : front ≡ c.args.front.now = c.copy_from_slice-2.ensures.after in
    taken_both (4 + length c.args.front.now - 4) 4 (4 + length c.args.front.now) c.args.chunk.now head front (ap length is)
    (ap (λ (l : List ℕ). 4 + length l) (sym behind)) ∙ (ap (λ (l : List ℕ). l ++ front) is ∙ ap (λ (l : List ℕ). header c.args.count ++ l) behind)

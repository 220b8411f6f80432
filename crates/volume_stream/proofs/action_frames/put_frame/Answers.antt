use Rattle.std.proofs.Common.{◌≡◌, ◌++◌, ◌+◌, ◌<◌, ◌^◌, List, ℕ, length, Result, Ok, Err, OnOk, ap, ◌∙◌, arith, length-append}
use Rattle.volume_stream.proofs.action_frames.put_frame.Goals as goal

-- a length of four bytes and the bytes after it have room
short_after : {E : Type 0} (r : Result (Unit {0}) E) (old head begun bytes new : List ℕ) → begun ≡ old ++ head → length head ≡ 4
    → length old + 4 + length bytes < 2 ^ 32 → OnOk r (new ≡ begun ++ bytes) → OnOk r (length new < 2 ^ 32)
short_after (Ok u) old head begun bytes new is four room put = omega (arith, four, room, ap length put, ap length is, length-append begun bytes, length-append old head)
short_after (Err e) old head begun bytes new is four room put = tt

pub returns-clause-short : goal.returns-clause-short
returns-clause-short c =
    let four : length c.as_slice.result.now ≡ 4 = ap length (c.as_slice.ensures ∙ c.to_be_bytes.ensures) in
    short_after c.extend_from_slice-2.result c.args.out.now.items c.as_slice.result.now c.extend_from_slice.new.self.items c.args.bytes.now
    c.extend_from_slice-2.new.self.items c.in_ok-extend_from_slice.ensures.ok four (omega arith) c.extend_from_slice-2.ensures.ok

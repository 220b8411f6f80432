-- Records that can follow a full batch.
use Rattle.std.proofs.Common.{◌≡◌, ℕ, ◌⊎◌, ⊎_elim, List, length, get_or, ◌+◌, sym, subst, arith}
use Rattle.std.proofs.lemmas.Grind.{common_steps}
use Rattle.std.specs.List.{Contains}
use Rattle.redo_core.specs.Data.{RecordData}
use Rattle.redo_core.specs.Order.{IsRising, RecordBefore}
use Rattle.redo_core.proofs.Rising.{rising_at}
use Rattle.redo_core.proofs.Pairs.{record_trans}

-- each record of a rising list is the one at a later index or before it, and the one at the first index or after it
up_to : (xs : List RecordData) (n : ℕ) (last : RecordData) → IsRising RecordBefore xs → n + 1 ≡ length xs → last ≡ get_or xs n last → (q : RecordData)
    → Contains xs q → (q ≡ last) ⊎ RecordBefore q last
up_to xs n last rising len is q h = grind (arith, common_steps, rising_at)

from_first : (xs : List RecordData) (first : RecordData) → IsRising RecordBefore xs → first ≡ get_or xs 0 first → (r : RecordData) → Contains xs r
    → (r ≡ first) ⊎ RecordBefore first r
from_first xs first rising is r h = grind (arith, common_steps)

pub all_before : (qs rs : List RecordData) (n : ℕ) (last first : RecordData) → IsRising RecordBefore qs → IsRising RecordBefore rs → n + 1 ≡ length qs
    → last ≡ get_or qs n last → first ≡ get_or rs 0 first → RecordBefore last first → (q r : RecordData) → Contains qs q → Contains rs r → RecordBefore q r
all_before qs rs n last first a b len l f before q r hq hr =
    let up : RecordBefore q first = ⊎_elim (λ (e : q ≡ last). subst (λ x. RecordBefore x first) (sym e) before)
    (λ (lt : RecordBefore q last). record_trans q last first lt before) (up_to qs n last a len l q hq) in
    ⊎_elim (λ (e : r ≡ first). subst (RecordBefore q) (sym e) up) (λ (lt : RecordBefore first r). record_trans q first r up lt) (from_first rs first b f r hr)

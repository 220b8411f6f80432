use Rattle.std.proofs.Common.{◌≡◌, ℕ, ◌<◌, ◌≤◌, inr, ⊎_elim, List, arith}
use Rattle.std.specs.List.{Contains}
use Rattle.redo_core.specs.Data.{CutData}
use Rattle.redo_core.specs.Standing.{IsAlive, IsWaiting}
use Rattle.hot_log.proofs.spans.span_from.Goals as goal

alive_on : (cs : List CutData) (k epoch from n : ℕ) → IsAlive cs k epoch from → from ≤ n
    → ((c : CutData) → Contains cs c → epoch < c.epoch → c.epoch ≤ k → n ≤ c.lo) → IsAlive cs k epoch n
alive_on cs k epoch from n is order spares =
    record { known = is.known; begun = λ c inside at. let low : c.hi < from = is.begun c inside at in omega arith; spared = spares }

pub returns-in-Some : goal.returns-in-Some
returns-in-Some c n from small =
    let b = c.args.book.now in
    let key = c.args.key in
    let lo : ℕ = c.in-Some.lo in
    let same : c.complete_epoch.result ≡ b.complete = c.complete_epoch.ensures.value in
    let base : IsAlive b.cuts b.complete key.epoch key.number × (c.args.point < key.number) = ⊎_elim
    (λ (w : IsWaiting b.complete key.epoch). absurd (omega (arith, same, w, c.if-key-complete_epoch.false)))
    (λ (k : IsAlive b.cuts b.complete key.epoch key.number × (c.args.point < key.number)). k)
    c.requires in
    let above : c.args.point < key.number = base.1 in (
      λ upto. inr (
        alive_on b.cuts b.complete key.epoch key.number n base.0 from
            (λ d inside later within. let least : lo ≤ d.lo = c.in-Some.ensures.least.1 d inside later within in omega (arith, upto)),
        omega (arith, from),
      ),
      λ keeps. ⊎_elim
          (λ (w : IsWaiting b.complete key.epoch). absurd (omega (arith, same, w, c.if-key-complete_epoch.false)))
          (λ (k : IsAlive b.cuts b.complete key.epoch n × (c.args.point < n)).
          let x = c.in-Some.ensures.least.0 in
          let low : n ≤ x.0.lo = k.0.spared x.0 x.1 x.2 x.3 in
          let is : x.0.lo ≡ lo = x.4 in
          omega arith)
          keeps,
    )

pub returns-in-None : goal.returns-in-None
returns-in-None c n from small =
    let b = c.args.book.now in
    let key = c.args.key in
    let same : c.complete_epoch.result ≡ b.complete = c.complete_epoch.ensures.value in
    let base : IsAlive b.cuts b.complete key.epoch key.number × (c.args.point < key.number) = ⊎_elim
    (λ (w : IsWaiting b.complete key.epoch). absurd (omega (arith, same, w, c.if-key-complete_epoch.false)))
    (λ (k : IsAlive b.cuts b.complete key.epoch key.number × (c.args.point < key.number)). k)
    c.requires in
    let above : c.args.point < key.number = base.1 in (
      λ upto. inr (
        alive_on b.cuts b.complete key.epoch key.number n base.0 from (λ d inside later within. absurd (c.in-None.ensures.least d inside later within)),
        omega (arith, from),
      ),
      λ keeps. omega (arith, small),
    )

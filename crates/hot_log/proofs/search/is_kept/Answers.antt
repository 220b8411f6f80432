use Rattle.std.proofs.Common.{◌≡◌, ◌<◌, inl, inr, ⊎_elim, arith}
use Rattle.redo_core.specs.Standing.{IsAlive, IsWaiting}
use Rattle.hot_log.proofs.Keys.{lower_told, never_told}
use Rattle.hot_log.proofs.search.is_kept.Goals as goal

pub returns-then-key-complete_epoch : goal.returns-then-key-complete_epoch
returns-then-key-complete_epoch c =
    let same : c.complete_epoch.result ≡ c.args.book.now.complete = c.complete_epoch.ensures.value in
    (λ h. inl (omega (arith, same, c.if-key-complete_epoch.true)), λ h. lower_told c.complete_epoch.result c.args.key.epoch c.if-key-complete_epoch.true)

pub returns-then-point-key : goal.returns-then-point-key
returns-then-point-key c =
    let b = c.args.book.now in
    let key = c.args.key in
    let same : c.complete_epoch.result ≡ b.complete = c.complete_epoch.ensures.value in (
      λ h. inr (c.is_alive.ensures.alive.0 h, c.if-point-key.true),
      λ h. ⊎_elim
          (λ (w : IsWaiting b.complete key.epoch). absurd (omega (arith, same, w, c.if-key-complete_epoch.false)))
          (λ (k : IsAlive b.cuts b.complete key.epoch key.number × (c.args.point < key.number)). c.is_alive.ensures.alive.1 k.0)
          h,
    )

pub returns-else-point-key : goal.returns-else-point-key
returns-else-point-key c =
    let b = c.args.book.now in
    let key = c.args.key in
    let same : c.complete_epoch.result ≡ b.complete = c.complete_epoch.ensures.value in (
      λ h. absurd (never_told c.args.point key.number c.if-point-key.false h),
      λ h. ⊎_elim
          (λ (w : IsWaiting b.complete key.epoch). absurd (omega (arith, same, w, c.if-key-complete_epoch.false)))
          (λ (k : IsAlive b.cuts b.complete key.epoch key.number × (c.args.point < key.number)). absurd (omega (arith, k.1, c.if-point-key.false)))
          h,
    )

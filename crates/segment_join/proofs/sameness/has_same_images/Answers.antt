use Rattle.std.proofs.Common.{◌↔◌, ℕ, IsTrue, subst, rules}
use Rattle.segment_theorems.specs.State.{StoredImage}
use Rattle.segment_join.specs.Sameness.{ShowOne, IsUnwritten}
use Rattle.segment_core.proofs.Scanning.{one_fails, all_pass, next_passes}
use Rattle.segment_join.proofs.sameness.has_same_images.Goals as goal

pub loop-image-preserved : goal.loop-image-preserved
loop-image-preserved c =
    let s = c.args.one.now in let t = c.args.other.now in
    let Shown : ℕ → Type 0 = λ g. IsUnwritten s t g → ShowOne s c.args.point t c.args.other_point g in
    let same = c.in_ok-has_same_unwritten.field-0 in
    let tells : IsTrue same ↔ Shown c.image-item.result.page = subst (λ g. IsTrue same ↔ Shown g) c.page.ensures c.in_ok-has_same_unwritten.ensures in
    next_passes (λ (i : StoredImage). Shown i.page) c.args.images.now c.loop-image.image-index c.image-item.result same c.loop-image-test.true c.image-item.is
    c.if-not-branch.false tells c.loop-image.invariant

pub returns-then-not-branch : goal.returns-then-not-branch
returns-then-not-branch c =
    let s = c.args.one.now in let t = c.args.other.now in
    let Shown : ℕ → Type 0 = λ g. IsUnwritten s t g → ShowOne s c.args.point t c.args.other_point g in
    let same = c.in_ok-has_same_unwritten.field-0 in
    let tells : IsTrue same ↔ Shown c.image-item.result.page = subst (λ g. IsTrue same ↔ Shown g) c.page.ensures c.in_ok-has_same_unwritten.ensures in
    one_fails (λ (i : StoredImage). Shown i.page) c.args.images.now c.loop-image.image-index c.image-item.result same c.loop-image-test.true c.image-item.is
    c.if-not-branch.true tells

pub returns : goal.returns
returns c = search (rules, all_pass)

use Rattle.std.proofs.Common.{◌≡◌, ◌+◌, ◌<◌, List, [], ◌∷◌, ◌++◌, ◌↔◌, ap, ◌∙◌, sym, subst, arith}
use Rattle.std.specs.List.{Contains}
use Rattle.segment_theorems.specs.State.{StoredImage, version_of}
use Rattle.segment_join.proofs.Sparing.{Picks, picks_none, picks_more, picks_left, picks_all}
use Rattle.segment_join.proofs.holding.newer_images.Goals as goal
use Rattle.segment_join.proofs.holding.newer_images.Goals.{then-version+in_ok-copy+in_ok-push, else-version}

pub loop-image-init : goal.loop-image-init
loop-image-init c =
    let P : StoredImage → Type 0 = λ i. version_of c.args.segment.now.store i.page < i.version in let xs = c.pages-image-items.result.now in
    subst (λ (picked : List StoredImage). Picks P xs 0 picked) (sym c.new-newer.ensures.items) (picks_none P xs)

pub loop-image-preserved : goal.loop-image-preserved
loop-image-preserved c =
    let own = c.args.segment.now.store in let x = c.image-item.result in let xs = c.pages-image-items.result.now in
    let i = c.loop-image.image-index in
    let P : StoredImage → Type 0 = λ i. version_of own i.page < i.version in
    let version : c.version.result ≡ version_of own x.page = c.version.ensures ∙ ap (version_of own) c.page.ensures in
    elim c.if-version.branch [
      | then-version+in_ok-copy+in_ok-push w ↦
          let newer : P x = omega (arith, version, w.if-version.true, c.version-in-loop-image.ensures) in
          let more : Picks P xs (i + 1) (c.loop-image.newer.items ++ x ∷ []) = picks_more P xs c.loop-image.newer.items i x c.loop-image-test.true
          c.image-item.is newer c.loop-image.invariant in
          let is : c.if-version.newer.items ≡ c.loop-image.newer.items ++ w.in_ok-copy.field-0 ∷ [] = rw (w.newer-is, w.in_ok-push.ensures.items) in
          subst (Picks P xs (i + 1)) (sym is) (subst (λ (y : StoredImage). Picks P xs (i + 1) (c.loop-image.newer.items ++ y ∷ []))
          (sym w.in_ok-copy.ensures) more)
      | else-version w ↦
          let not : P x → ⊥ = λ h. omega (arith, version, w.if-version.false, c.version-in-loop-image.ensures, h) in
          let left : Picks P xs (i + 1) c.loop-image.newer.items = picks_left P xs c.loop-image.newer.items i x c.loop-image-test.true
          c.image-item.is not c.loop-image.invariant in
          subst (λ newer. Picks P xs (i + 1) newer.items) (sym w.newer-is) left
    ]

pub returns : goal.returns
returns c =
    let own = c.args.segment.now.store in let xs = c.pages-image-items.result.now in
    let P : StoredImage → Type 0 = λ i. version_of own i.page < i.version in
    subst (λ (ys : List StoredImage). (y : StoredImage) → Contains c.loop-image.newer.items y ↔ (Contains ys y × P y)) c.pages-image-items.ensures.value
    (picks_all P xs c.loop-image.newer.items c.loop-image.image-index c.loop-image-test.false c.loop-image.invariant)

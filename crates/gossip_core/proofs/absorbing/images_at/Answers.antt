use Rattle.std.proofs.Common.{◌≡◌, ℕ, List, [], ◌∷◌, ◌++◌, ap, ◌∙◌}
use Rattle.page_base.specs.Stored.{stored}
use Rattle.segment_theorems.specs.State.{StoredImage}
use Rattle.segment_core.proofs.Copied.{made_more, made_all}
use Rattle.gossip_core.specs.Absorbing.{based_image}
use Rattle.gossip_core.proofs.absorbing.images_at.Goals as goal

pub loop-image-preserved : goal.loop-image-preserved
loop-image-preserved c =
    let base = c.args.base in let image = c.image-item.result in let images : List StoredImage = c.loop-image.images.items in
    let same : c.new.result ≡ based_image base image =
    c.new.ensures ∙ ap (λ page. stored page base c.in_ok-share.field-0) c.number.ensures
    ∙ ap (λ (bytes : List ℕ). stored image.page base bytes) (c.in_ok-share.ensures ∙ c.shared_page.ensures) in
    c.in_ok-push.ensures.items ∙ ap (λ (i : StoredImage). images ++ i ∷ []) same
    ∙ made_more c.args.pages.now (based_image base) images c.loop-image.image-index image c.loop-image-test.true c.image-item.is c.loop-image.invariant

pub returns : goal.returns
returns c =
    made_all c.args.pages.now (based_image c.args.base) c.loop-image.images.items c.loop-image.image-index c.loop-image-test.false c.loop-image.invariant

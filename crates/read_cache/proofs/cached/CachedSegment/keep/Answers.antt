use Rattle.std.proofs.Common.{◌≡◌}
use Rattle.read_cache.specs.Cached.{IsShown}
use Rattle.read_cache.specs.Images.{kept_at}
use Rattle.read_cache.proofs.Current.{after_keep}
use Rattle.read_cache.proofs.cached.CachedSegment.keep.Goals as goal

pub invariant_of-self : goal.invariant_of-self
invariant_of-self c = let i = c.self.inside in
    let shown : IsShown i.segment c.args.page (kept_at c.args.point c.args.image.now) = rw (← c.self.view_is) at c.requires.shown in
    let same : c.in-Ok.copied ≡ c.args.image.now = c.in-Ok.ensures in
    after_keep i.segment i.top c.args.point c.args.page c.max-self-inside.result c.in-Ok.copied i.images c.keep.new.self (rw same shown) c.keep.ensures.keeps
    c.max-self-inside.ensures c.self.invariant

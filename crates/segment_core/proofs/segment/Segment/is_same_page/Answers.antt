use Rattle.segment_theorems.specs.State.{image_of}
use Rattle.segment_core.proofs.SamePages.{tells_same}
use Rattle.segment_core.proofs.segment.Segment.is_same_page.Goals as goal

pub returns-then-shows_its_image-2 : goal.returns-then-shows_its_image-2
returns-then-shows_its_image-2 c =
    let s = c.args.self.now in let t = c.args.other.now in
    tells_same s t c.args.point c.args.other_point c.args.page (image_of s.store c.args.page) (image_of t.store c.args.page) c.has_same_image.result
    (c.shows_its_image.ensures c.if-shows_its_image.true) (c.shows_its_image-then-shows_its_image.ensures c.if-shows_its_image-2.true) c.has_same_image.ensures

pub returns : goal.returns
returns c =
    tells_same c.args.self.now c.args.other.now c.args.point c.args.other_point c.args.page c.in_ok-own.own c.in_ok-others.others c.is_equal.result
    c.in_ok-own.ensures c.in_ok-others.ensures c.is_equal.ensures

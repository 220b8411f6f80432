use Rattle.std.proofs.Common.{◌≡◌, ◌<◌, ◌-◌, ◌+◌, ltb, true, get_or, arith, ap, ◌∙◌, sym}
use Rattle.std.proofs.lemmas.Bool.Decides.{nat_tests}
use Rattle.redo_core.specs.Data.{CutData}
use Rattle.redo_core.proofs.Members.{item}
use Rattle.epoch_book.proofs.Least.{place_within, place_of_known, one_of_epoch}
use Rattle.epoch_book.proofs.cuts.is_begun.Goals as goal

pub bounds-cuts-from : goal.bounds-cuts-from
bounds-cuts-from c =
    place_within c.args.cuts.now c.args.epoch (c.from.result - 1) c.requires.rising c.requires.shaped c.requires.known (omega (arith, c.from.ensures, c.if-epoch-eq0.false))

pub returns-else-epoch-eq0 : goal.returns-else-epoch-eq0
returns-else-epoch-eq0 c =
    let cs = c.args.cuts.now in let x = c.index-cuts-from.result in let i = c.from.result - 1 in
    let at = place_of_known cs c.args.epoch i x c.requires.rising c.requires.shaped c.requires.known (omega (arith, c.from.ensures, c.if-epoch-eq0.false)) in
    let inside = item cs i x at.0 c.index-cuts-from.is in
    let here : (get_or cs i x).epoch ≡ i + 1 = at.1 in
    let same : x.epoch ≡ (get_or cs i x).epoch = ap (λ (y : CutData). y.epoch) c.index-cuts-from.is in
    let epoch : x.epoch ≡ c.args.epoch = omega (arith, c.from.ensures, c.if-epoch-eq0.false) in
    let hi : c.hi.result ≡ x.hi = c.hi.ensures.value in (
      λ h d held q.
          let is : ltb c.hi.result c.args.number ≡ true = h in
          let one : d.hi ≡ x.hi = ap (λ (y : CutData). y.hi) (one_of_epoch cs d x c.requires.rising held inside (q ∙ sym epoch)) in
          grind (arith, nat_tests),
      λ h. let up : x.hi < c.args.number = h x inside epoch in let is : ltb c.hi.result c.args.number ≡ true = grind (arith, nat_tests) in is,
    )

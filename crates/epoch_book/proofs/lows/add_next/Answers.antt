use Rattle.std.proofs.Common.{◌≡◌, ◌+◌, ◌<◌, ◌≤◌, ◌∷◌, [], ◌++◌, get_or, take, sym, ap, ◌∙◌, subst, arith}
use Rattle.std.specs.List.Sorted.{IsPartitionPoint}
use Rattle.redo_core.specs.Data.{CutData}
use Rattle.redo_core.proofs.Members.{item}
use Rattle.epoch_book.specs.Lows.{AreLows}
use Rattle.epoch_book.proofs.Least.{place_within, place_of_known, next_lows}
use Rattle.epoch_book.proofs.lows.add_next.Goals as goal

pub bounds-cuts-from : goal.bounds-cuts-from
bounds-cuts-from c =
    place_within c.args.cuts.now (c.args.epoch + 1) c.from.result c.requires.rising c.requires.shaped c.requires.known (omega (arith, c.from.ensures))

pub returns-clause-after : goal.returns-clause-after
returns-clause-after c =
    let cuts = c.args.cuts.now in let lows = c.args.lows.now.items in let next = c.index-cuts-from.result in let stay = c.count_at-stay.result in
    let at = place_of_known cuts (c.args.epoch + 1) c.from.result next c.requires.rising c.requires.shaped c.requires.known (omega (arith, c.from.ensures)) in
    let epoch : (get_or cuts c.from.result next).epoch ≡ c.from.result + 1 = at.1 in
    let same : next.epoch ≡ (get_or cuts c.from.result next).epoch = ap (λ (x : CutData). x.epoch) c.index-cuts-from.is in
    let parted : IsPartitionPoint (λ d. d.lo ≤ next.lo) (λ d. next.lo < d.lo) lows stay =
    subst (λ n. IsPartitionPoint (λ d. d.lo ≤ n) (λ d. n < d.lo) lows stay) c.lo.ensures.value
    (subst (λ xs. IsPartitionPoint (λ d. d.lo ≤ c.lo.result) (λ d. c.lo.result < d.lo) xs stay) c.deref.ensures.value c.count_at-stay.ensures.parted) in
    let items : c.push_reserved.new.self.items ≡ take stay lows ++ next ∷ [] =
    c.push_reserved.ensures.items ∙ ap (λ xs. xs ++ next ∷ []) c.truncate.ensures.items in
    subst (AreLows cuts (c.args.epoch + 1)) (sym items)
    (next_lows cuts c.args.epoch stay next lows c.requires.rising (item cuts c.from.result next at.0 c.index-cuts-from.is)
    (omega (arith, epoch, same, c.from.ensures)) c.requires.before parted)

use Rattle.std.proofs.Common.{refl, subst, sym, ◌∙◌}
use Rattle.redo_core.specs.Sound.{Law1}
use Rattle.redo_core.specs.declared.facts.Fact.TheVariants.{Record}
use Rattle.reference_model.specs.declared.chains.Chain.TheVariants.{Segment, Block}
use Rattle.reference_model.proofs.Laws.{other_backlink, same_backlink}
use Rattle.reference_model.proofs.faults.broken_by_record.Goals as goal

pub returns-then-back-greatest_below : goal.returns-then-back-greatest_below
returns-then-back-greatest_below c roster place e = (
  other_backlink c.args.log.now c.args.redo.now Segment c.greatest_below.result c.args.redo.now.back c.greatest_below.ensures
      (λ q. c.if-back-greatest_below.true (c.back.ensures.value ∙ q)),
  (subst (λ xs. Law1 xs (Record c.args.redo.now)) e (c.if-not-is_only_record.ensures.0 refl), (c.if-not-has_begun.ensures.law.0 refl, tt)),
)

pub returns-then-block_back-greatest_below : goal.returns-then-block_back-greatest_below
returns-then-block_back-greatest_below c roster place e = (
  other_backlink c.args.log.now c.args.redo.now Block c.greatest_below-2.result c.args.redo.now.block_back c.greatest_below-2.ensures
      (λ q. c.if-block_back-greatest_below.true (c.block_back.ensures.value ∙ q)),
  (
    subst (λ xs. Law1 xs (Record c.args.redo.now)) e (c.if-not-is_only_record.ensures.0 refl),
    (
      c.if-not-has_begun.ensures.law.0 refl,
      (
        same_backlink c.args.log.now c.args.redo.now Segment c.greatest_below.result c.args.redo.now.back
            c.greatest_below.ensures (sym c.back.ensures.value ∙ c.if-back-greatest_below.false),
        tt,
      ),
    ),
  ),
)

pub returns : goal.returns
returns c roster place e = record {
  shape = c.has_begun.ensures.shape;
  law1 = subst (λ xs. Law1 xs (Record c.args.redo.now)) e (c.if-not-is_only_record.ensures.0 refl);
  law2 = c.if-not-has_begun.ensures.law.0 refl;
  law3 = same_backlink c.args.log.now c.args.redo.now Segment c.greatest_below.result c.args.redo.now.back c.greatest_below.ensures
      (sym c.back.ensures.value ∙ c.if-back-greatest_below.false);
  law4 = same_backlink c.args.log.now c.args.redo.now Block c.greatest_below-2.result c.args.redo.now.block_back c.greatest_below-2.ensures
      (sym c.block_back.ensures.value ∙ c.if-block_back-greatest_below.false);
  law5 = tt;
}

use Rattle.std.proofs.Common.{◌≡◌, ◌⊎◌, List, map, sym, ap, ◌∙◌, subst, arith}
use Rattle.segment_theorems.specs.State.{State, StoredImage}
use Rattle.segment_core.specs.Savepoint.{CanRollBack}
use Rattle.segment_core.specs.Transaction.{reached}
use Rattle.segment_core.specs.Uniting.{Unites}
use Rattle.segment_core.specs.declared.answers.Refusal.TheVariants.{Memory}
use Rattle.segment_core.specs.Exported.{exported_facts}
use Rattle.segment_core.specs.InOrder.{TakesEach, RefusesOne}
use Rattle.gossip_core.specs.Absorbing.{based_image, AbsorbsInto}
use Rattle.gossip_core.proofs.Absorbed.{HasDelta, base_fits, absorbs}
use Rattle.gossip_core.proofs.absorbing.take_saved.Goals as goal

pub drop-union-requires : goal.drop-union-requires
drop-union-requires c = subst CanRollBack (sym c.take_facts.ensures.began) c.begin-union.ensures.whole

pub unite-requires-clause-whole : goal.unite-requires-clause-whole
unite-requires-clause-whole c = subst CanRollBack (sym c.take_facts.ensures.began) c.begin-union.ensures.whole

pub unite-requires-clause-base : goal.unite-requires-clause-base
unite-requires-clause-base c =
    let s = c.args.segment.now in let d = c.args.delta.now in let taken = reached c.take_facts.new.union in
    let has : HasDelta s d taken = record {
      form = c.opens_form.ensures.form;
      shape = c.base-base.ensures.shape;
      one_roster = c.requires.roster;
      takes = subst (λ (old : State). TakesEach old (exported_facts d.book d.records) taken) c.begin-union.ensures.reached c.in_default.ensures.takes;
    } in
    let fits = base_fits s d taken has in
    omega (arith, c.base-base.ensures.base, fits)

pub returns-in-Err-clause-refused : goal.returns-in-Err-clause-refused
returns-in-Err-clause-refused c =
    let d = c.args.delta.now in
    subst (λ (s : State). (c.in-Err.why ≡ Memory) ⊎ RefusesOne s (exported_facts d.book d.records) c.in-Err.why) c.begin-union.ensures.reached c.in-Err.ensures.refused

pub returns-clause-absorbs : goal.returns-clause-absorbs
returns-clause-absorbs c =
    let s = c.args.segment.now in let d = c.args.delta.now in let taken = reached c.take_facts.new.union in let new = c.unite.new.self.0 in
    let has : HasDelta s d taken = record {
      form = c.opens_form.ensures.form;
      shape = c.base-base.ensures.shape;
      one_roster = c.requires.roster;
      takes = subst (λ (old : State). TakesEach old (exported_facts d.book d.records) taken) c.begin-union.ensures.reached c.in_default.ensures.takes;
    } in
    let base = c.base-base.ensures.base in
    let images : c.in_ok-images.images.items ≡ map (based_image d.base) d.pages =
    c.in_ok-images.ensures ∙ ap (λ b. map (based_image b) c.pages.result.now) base ∙ ap (map (based_image d.base)) c.pages.ensures.pages in
    let unites : Unites taken d.base d.base (map (based_image d.base) d.pages) new =
    subst (λ (is : List StoredImage). Unites taken d.base d.base is new) images
    (subst (λ b. Unites taken b b c.in_ok-images.images.items new) base c.in_ok-unite.ensures.unites) in
    subst (AbsorbsInto s d) (grind (arith, c.begin-union.ensures.lent, c.take_facts.ensures.began)) (absorbs s d taken new has unites)

use Rattle.std.proofs.Common.{◌≡◌, length, refl, true, false}
use Rattle.std.proofs.lemmas.Option.{slice_get_read}
use Rattle.redo_core.specs.declared.facts.Fact.TheVariants.{Cut}
use Rattle.log_law.proofs.Candidates.{each_more, each_member}
use Rattle.log_law.proofs.breach.place_of_cut.Goals as goal

pub loop-place-preserved : goal.loop-place-preserved
loop-place-preserved c =
    let log = c.args.facts.now in let p = c.loop-place.place in let f = c.index-facts-place.result in
    each_more log (λ g. g ≡ Cut c.args.sought → ⊥) p f (slice_get_read log (length log) p f refl c.loop-place-test.true c.index-facts-place.is)
    (λ e. let clash : false ≡ true = c.if-is_cut.ensures.1 e in cc) c.loop-place.invariant

pub returns : goal.returns
returns c m =
    each_member c.args.facts.now (λ g. g ≡ Cut c.args.sought → ⊥) c.loop-place.place (Cut c.args.sought) c.loop-place-test.false c.loop-place.invariant m refl

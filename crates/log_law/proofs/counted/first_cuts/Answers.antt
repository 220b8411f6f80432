use Rattle.std.proofs.Common.{◌≡◌, ◌+◌, ◌<◌, ◌∷◌, ◌++◌, [], take, get_or, None, sym, ◌∙◌, ap, subst, length, arith}
use Rattle.std.proofs.lemmas.Grind.{common_steps}
use Rattle.std.proofs.lemmas.List.{take_more, with_items_is}
use Rattle.std.specs.List.{Contains}
use Rattle.redo_core.specs.Sets.{cuts}
use Rattle.redo_core.proofs.FactParts.{cut_in}
use Rattle.redo_core.proofs.Rising.{in_take, up_to}
use Rattle.log_law.specs.Counted.{IsTable, or_first, first_at}
use Rattle.log_law.proofs.FirstCuts.{table_nil, table_other, table_cut}
use Rattle.log_law.proofs.counted.first_cuts.Goals as goal
use Rattle.log_law.proofs.counted.first_cuts.Goals.{in-Cut, in_default}

pub loop-fact-init : goal.loop-fact-init
loop-fact-init c = record { len = c.in_ok-table.ensures.0; table = table_nil c.in_ok-table.table.items c.in_ok-table.ensures.1 }

pub loop-fact-preserved : goal.loop-fact-preserved
loop-fact-preserved c =
    let xs = c.args.facts.now in let i = c.loop-fact.fact-index in let f = c.fact-item.result in
    let more : take (i + 1) xs ≡ take i xs ++ f ∷ [] = take_more xs i f c.loop-fact-test.true ∙ ap (λ g. take i xs ++ g ∷ []) (sym c.fact-item.is) in
    elim c.match-fact.branch [
      | in-Cut w ↦
          (let new : c.match-fact.table.items ≡ w.count.new.table = ap (λ v. v.items) w.table-is ∙ with_items_is c.loop-fact.table w.count.new.table
          (w.count.auto.table ∙ w.deref_mut.ensures.len) in
          record {
            len = ap length new ∙ w.count.ensures.len ∙ ap length w.deref_mut.ensures.value ∙ c.loop-fact.invariant.len;
            table = subst (λ t. IsTable t c.match-fact.table.items) (sym more) (subst (IsTable (take i xs ++ f ∷ [])) (sym new)
                (table_cut (take i xs) f w.in-Cut.cut c.loop-fact.table.items w.count.new.table w.in-Cut.is w.count.ensures.shape c.loop-fact.invariant.table
                (λ e. w.count.ensures.slots e ∙ ap (λ t. or_first (get_or t e None) (first_at e (w.in-Cut.cut ∷ []))) w.deref_mut.ensures.value)));
          })
      | in_default w ↦
          record {
            len = ap (λ t. length t.items) w.table-is ∙ c.loop-fact.invariant.len;
            table = subst (λ t. IsTable t c.match-fact.table.items) (sym more)
                (subst (λ t. IsTable (take i xs ++ f ∷ []) t.items) (sym w.table-is)
                (table_other (take i xs) f c.loop-fact.table.items c.loop-fact.invariant.table w.in_default.not-Cut));
          }
    ]

pub count-requires : goal.count-requires
count-requires c =
    let xs = c.args.facts.now in let i = c.loop-fact.fact-index in let f = c.fact-item.result in
    let inside : Contains (cuts c.args.facts.now) c.in-Cut.cut = (cut_in xs c.in-Cut.cut).1
    (subst (Contains xs) c.in-Cut.is (in_take (i + 1) xs f (up_to xs i f c.loop-fact-test.true c.fact-item.is))) in
    subst (λ n. c.in-Cut.cut.epoch < n) (sym (ap length c.deref_mut.ensures.value ∙ c.loop-fact.invariant.len)) (c.requires c.in-Cut.cut inside)

pub returns-clause-table : goal.returns-clause-table
returns-clause-table c = grind (arith, common_steps)

use Rattle.std.proofs.Common.{◌≡◌, ◌⊎◌, List, map, Bor, OnOk, IfErr, ap, ◌∙◌, subst}
use Rattle.redo_core.specs.Book.{BookData}
use Rattle.redo_core.specs.Data.{RecordData}
use Rattle.segment_core.specs.Transaction.{reached}
use Rattle.segment_core.specs.declared.answers.Refusal.TheVariants.{Memory}
use Rattle.segment_core.specs.Exported.{exported_facts}
use Rattle.segment_core.specs.InOrder.{TakesEach, RefusesOne}
use Rattle.gossip_core.proofs.absorbing.take_facts.Goals as goal

pub returns-clause-takes : goal.returns-clause-takes
returns-clause-takes c =
    let now : Bor RecordData → RecordData = λ r. r.now in let d = c.args.delta.now in
    let records : map now c.deref.result.now ≡ d.records = ap (map now) c.deref.ensures.value ∙ c.in_ok-records.ensures ∙ c.records.ensures.records in
    let s = reached c.args.union.now in let t = reached c.import_facts.new.union in
    subst (λ (b : BookData). OnOk c.import_facts.result (TakesEach s (exported_facts b d.records) t)) (c.lend.ensures ∙ c.book.ensures.book)
    (subst (λ (rs : List RecordData). OnOk c.import_facts.result (TakesEach s (exported_facts c.lend.result rs) t)) records c.import_facts.ensures.takes)

pub returns-clause-refused : goal.returns-clause-refused
returns-clause-refused c =
    let now : Bor RecordData → RecordData = λ r. r.now in let d = c.args.delta.now in
    let records : map now c.deref.result.now ≡ d.records = ap (map now) c.deref.ensures.value ∙ c.in_ok-records.ensures ∙ c.records.ensures.records in
    let s = reached c.args.union.now in
    subst (λ (b : BookData). IfErr c.import_facts.result (λ e. (e ≡ Memory) ⊎ RefusesOne s (exported_facts b d.records) e)) (c.lend.ensures ∙ c.book.ensures.book)
    (subst (λ (rs : List RecordData). IfErr c.import_facts.result (λ e. (e ≡ Memory) ⊎ RefusesOne s (exported_facts c.lend.result rs) e)) records c.import_facts.ensures.refused)

use Rattle.std.proofs.Common.{List, ℕ, ◌++◌, drop, ap, ◌∙◌, subst}
use Rattle.std.specs.Prelude.{IfOk, codes}
use Rattle.redo_core.specs.Data.{RecordData}
use Rattle.redo_core.specs.declared.facts.Fact.TheVariants as fact
use Rattle.redo_wire.specs.Facts.{fact_bytes}
use Rattle.node_stream.specs.Telling.BodyData.{Raw}
use Rattle.node_stream.specs.Bodies.{HasBody}
use Rattle.node_stream.proofs.telling.record.Goals as goal

pub returns : goal.returns
returns c = subst (λ (l : List ℕ). IfOk c.behind.result (λ t. HasBody t (Raw (codes "record") l)))
    (ap (drop 7) (c.in_ok-encode_fact.ensures.ok ∙ ap (λ (l : List ℕ). l ++ fact_bytes (fact.Record c.in_ok-copy.field-0)) c.in_ok-bytes.ensures)
    ∙ ap (λ (r : RecordData). fact_bytes (fact.Record r)) c.in_ok-copy.ensures)
    c.behind.ensures

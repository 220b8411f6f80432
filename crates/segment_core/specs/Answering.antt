-- How the results of a book and of stored records become a segment's own.
use Rattle.std.specs.Prelude.{◌≡◌, Result, Ok, Err}
use Rattle.redo_core.specs.Data.{RecordData}
use Rattle.redo_core.specs.declared.facts.Fact.{Fact}
use Rattle.redo_core.specs.declared.facts.Fact.TheVariants.{Record}
use Rattle.redo_core.specs.declared.refusal.Refused.{Refused}
use Rattle.epoch_book.specs.declared.refusals.Learnt.{Learnt}
use Rattle.epoch_book.specs.declared.refusals.Learnt.TheVariants as learnt
use Rattle.epoch_book.specs.declared.refusals.BookRefusal.{BookRefusal}
use Rattle.epoch_book.specs.declared.refusals.BookRefusal.TheVariants as book
use Rattle.hot_log.specs.declared.log.Put.{Put}
use Rattle.hot_log.specs.declared.log.Put.TheVariants as put
use Rattle.hot_log.specs.declared.log.PutFault.{PutFault}
use Rattle.hot_log.specs.declared.log.PutFault.TheVariants as fault
use Rattle.segment_core.specs.declared.answers.Taken.{Taken}
use Rattle.segment_core.specs.declared.answers.Taken.TheVariants.{Changed, Unchanged}
use Rattle.segment_core.specs.declared.answers.Refusal.{Refusal}
use Rattle.segment_core.specs.declared.answers.Refusal.TheVariants.{OtherRoster, OtherCut, Contradiction, OtherRecord, Memory}

abbrev pub refusal_of : BookRefusal → Refusal
refusal_of (book.OtherRoster own shown) = OtherRoster own shown
refusal_of (book.OtherCut c) = OtherCut c
refusal_of (book.Contradiction held) = Contradiction held
refusal_of book.Memory = Memory

-- what the book has learnt of a fact
abbrev pub AnswersBook : Fact → Result Learnt BookRefusal → Result Taken (Refused Fact Refusal) → Type 0
AnswersBook fact (Ok learnt.New) result = result ≡ Ok Changed
AnswersBook fact (Ok learnt.Known) result = result ≡ Ok Unchanged
AnswersBook fact (Err e) result = result ≡ Err (record { value = fact; fault = refusal_of e })

abbrev pub put_refusal_of : PutFault → Refusal
put_refusal_of fault.OtherRecord = OtherRecord
put_refusal_of fault.Memory = Memory

-- what a put of a record found
abbrev pub AnswersPut : Result Put (Refused RecordData PutFault) → Result Taken (Refused Fact Refusal) → Type 0
AnswersPut (Ok put.New) result = result ≡ Ok Changed
AnswersPut (Ok put.Known) result = result ≡ Ok Unchanged
AnswersPut (Err e) result = result ≡ Err (record { value = Record e.value; fault = put_refusal_of e.fault })

-- what was taken, or the fault alone of what was not
abbrev pub FaultAlone : Result Taken (Refused Fact Refusal) → Result Taken Refusal → Type 0
FaultAlone (Ok taken) result = result ≡ Ok taken
FaultAlone (Err e) result = result ≡ Err e.fault

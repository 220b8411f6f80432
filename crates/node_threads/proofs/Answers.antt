-- Answers of a drainer that are handed on.
use Rattle.std.proofs.Common.{◌≡◌, List, sym, subst, Result}
use Rattle.named_log.specs.Places.{PlacedFact}
use Rattle.redo_core.specs.declared.refusal.Refused.{Refused}
use Rattle.node_cell.specs.Receipt.{ReceiptData}
use Rattle.node_lock.specs.Passes.{PassData}
use Rattle.intake_queue.specs.Ends.{TakerData}
use Rattle.node_threads.specs.Work.{Answered}

pub answered_same : {F : Type 0} (old old' new new' : TakerData) (was was' is is' : PassData) (answers answers' : List (Result ReceiptData (Refused PlacedFact F)))
    → Answered old new was is answers → old ≡ old' → new' ≡ new → was ≡ was' → is' ≡ is → answers' ≡ answers → Answered old' new' was' is' answers'
answered_same old old' new new' was was' is is' answers answers' a o n w i l =
    subst (λ x. Answered x new' was' is' answers') o (subst (λ x. Answered old x was' is' answers') (sym n)
    (subst (λ x. Answered old new x is' answers') w (subst (λ x. Answered old new was x answers') (sym i) (subst (Answered old new was is) (sym l) a))))

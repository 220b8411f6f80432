-- The machine hears in the frame of an event that event.
use Rattle.std.proofs.Common.{◌≡◌, ℕ, ◌≤◌, Bool, List, [], ◌∷◌, ◌++◌, Option, refl, ap, ◌∙◌, arith}
use Rattle.std.specs.Prelude.{codes}
use Rattle.std.specs.Fmt.{decimal}
use Rattle.redo_core.specs.declared.facts.Fact.TheVariants as fact
use Rattle.redo_core.specs.declared.patches.Patch.{Patch}
use Rattle.redo_wire.specs.Facts.{fact_bytes}
use Rattle.redo_wire.specs.Records.{IsWireRecord}
use Rattle.guard.specs.declared.replies.Reply.{Reply}
use Rattle.volume.specs.declared.events.Event.TheVariants as event
use Rattle.text.proofs.Numbers.{lacks_decimal, decimal_is_read}
use Rattle.node_stream.specs.FrameReading.{under_limit}
use Rattle.node_stream.specs.GuardTelling.{guard_frame}
use Rattle.node_stream.specs.Telling.{numbers_behind}
use Rattle.node_stream.specs.declared.asked.Window.{Window}
use Rattle.volume_stream.specs.Words.{followed}
use Rattle.volume_stream.specs.EventFrames.{or_unknown, open_form, advance_form, failed_form, numbered_event, write_in, told_by, answered_by, node_before, answered_event, lone_event, event_words, event_in}
use Rattle.volume_stream.specs.EventFrames.Said.{Write, Answered}
use Rattle.volume_stream.specs.Carried.{IsHeardReply}
use Rattle.volume_stream.specs.Calling.{first_record, EventsAreHeard}
use Rattle.volume_stream.proofs.Numbers.{halves_at, no_halves, made, behind_one}
use Rattle.volume_stream.proofs.Encoded.{fact_decoded}
use Rattle.volume_stream.proofs.Replies.{replies_are_read}

answer_heard : (node : ℕ) (w : Window) (r : Reply) → node ≤ 255 → IsHeardReply r
    → event_in (followed (codes "answered") (node ∷ []) (guard_frame w r)) ≡ Answered node r
unfolding event_words answered_event
answer_heard node w r le heard =
    let answer : List ℕ = guard_frame w r in
    let rest : List ℕ = decimal node ++ 32 ∷ answer in
    ap event_in (behind_one (codes "answered") node answer) ∙ ap (event_words (codes "answered" ++ 32 ∷ rest)) (halves_at (codes "answered") rest refl)
    ∙ ap (λ (o : Option (List ℕ × List ℕ)). answered_by (node_before o)) (halves_at (decimal node) answer (lacks_decimal 32 node (omega arith) refl))
    ∙ ap (λ (o : Option ℕ). answered_by (under_limit o answer)) (decimal_is_read 255 node (omega arith) le)
    ∙ ap (told_by node) (replies_are_read w r heard)

write_heard : (page : ℕ) (init : Bool) (patches : List Patch) → IsWireRecord (first_record page init patches)
    → event_in (codes "write" ++ 32 ∷ fact_bytes (fact.Record (first_record page init patches))) ≡ Write page init patches
unfolding event_words
write_heard page init patches wire =
    let bytes : List ℕ = fact_bytes (fact.Record (first_record page init patches)) in
    ap (event_words (codes "write" ++ 32 ∷ bytes)) (halves_at (codes "write") bytes refl)
    ∙ ap write_in (fact_decoded (fact.Record (first_record page init patches)) wire)

pub events_are_heard : EventsAreHeard
unfolding event_words lone_event numbered_event
events_are_heard w event.Create called = ap (event_words (codes "create")) (no_halves (codes "create") refl)
events_are_heard w (event.Open generation) called =
    let rest : List ℕ = decimal generation ++ numbers_behind [] in
    ap (event_words (codes "open" ++ 32 ∷ rest)) (halves_at (codes "open") rest refl)
    ∙ ap or_unknown (made open_form generation [] (omega arith, tt) (called, tt) (omega arith))
events_are_heard w (event.Write page init patches) called = write_heard page init patches.items called
events_are_heard w (event.Commit header) called =
    ap (event_words (codes "commit" ++ 32 ∷ header.items)) (halves_at (codes "commit") header.items refl)
events_are_heard w (event.Advance reader point) called =
    let rest : List ℕ = decimal reader ++ numbers_behind (point ∷ []) in
    ap (event_words (codes "advance" ++ 32 ∷ rest)) (halves_at (codes "advance") rest refl)
    ∙ ap or_unknown (made advance_form reader (point ∷ []) (omega arith, (omega arith, tt)) (called.0, (called.1, tt)) (omega arith))
events_are_heard w (event.Answered node told) called = answer_heard node w told called.0 called.1
events_are_heard w (event.Failed node) called =
    let rest : List ℕ = decimal node ++ numbers_behind [] in
    ap (event_words (codes "failed" ++ 32 ∷ rest)) (halves_at (codes "failed") rest refl)
    ∙ ap or_unknown (made failed_form node [] (omega arith, tt) (called, tt) (omega arith))

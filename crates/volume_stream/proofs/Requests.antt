-- A node reads in the frame of an engine's request that request.
use Rattle.std.proofs.Common.{◌≡◌, ℕ, ◌≤◌, Bool, false, ltb, List, [], ◌∷◌, ◌++◌, length, Option, Some, None, Result, Ok, refl, ap, ◌∙◌, append_assoc, append-nil, length-append, arith}
use Rattle.std.proofs.lemmas.Bool.Decides.{nat_tests}
use Rattle.std.proofs.Math.Seq.{take-append_seam, drop-append_seam}
use Rattle.std.specs.Prelude.{codes}
use Rattle.std.specs.Fmt.{decimal}
use Rattle.redo_core.specs.Data.{CutData}
use Rattle.redo_core.specs.declared.facts.Fact.{Fact}
use Rattle.messages.specs.Summaries.{SummaryData}
use Rattle.messages.specs.Deltas.{DeltaData}
use Rattle.redo_wire.specs.Facts.{IsWireFact, IsWireCut, fact_bytes}
use Rattle.redo_wire.specs.Summaries.{IsWireSummary, summary_bytes}
use Rattle.redo_wire.specs.Deltas.{IsWireDelta, delta_bytes}
use Rattle.replica.specs.declared.requests.Request.{Request as SegmentRequest}
use Rattle.replica.specs.declared.requests.Request.TheVariants as segment
use Rattle.guard.specs.declared.requests.AcceptedCut.{AcceptedCut}
use Rattle.guard.specs.declared.requests.Admission.{Admission}
use Rattle.guard.specs.declared.requests.Request.TheVariants as guard
use Rattle.text.specs.Parts.{parts_at}
use Rattle.text.specs.Fields.{made_by}
use Rattle.text.proofs.Numbers.{lacks_decimal, decimal_is_read}
use Rattle.node_stream.specs.Asking.{asked, guard_asked, under, plainly}
use Rattle.node_stream.specs.FrameReading.{halves, split_by, sized, absorb_both, halves_frame, request_in}
use Rattle.node_stream.specs.Reading.{◌>>=◌, formed, words_line, lone_word}
use Rattle.node_stream.specs.GuardReading.{max_wide, fence_form, propose_form, admit_form, admit_with_form, admission_of, either_of, under_generation, under_birth, under_text, lone_text, plain_text, guard_words, guard_request}
use Rattle.node_stream.specs.GuardTelling.{pair_numbers}
use Rattle.node_stream.specs.Telling.{numbers_behind}
use Rattle.node_stream.specs.declared.asked.Asked.{Asked}
use Rattle.node_stream.specs.declared.asked.GuardAsked.{GuardAsked}
use Rattle.node_stream.specs.declared.faults.LineFault.{LineFault}
use Rattle.node_stream.specs.declared.job.Form.TheVariants as stream
use Rattle.volume_stream.specs.RequestFrames.{summary_in_bytes, delta_in_bytes, bytes_unless, answer_frame, segment_frame, admission_frame, request_frame}
use Rattle.volume_stream.specs.Carried.{IsCarriedSegment, IsCarriedAdmission, RequestsAreRead}
use Rattle.text.proofs.Forms.{AreWithin}
use Rattle.volume_stream.proofs.Numbers.{AreLimits, halves_at, no_halves, made_at, made_none, wide_front_at, behind_two, behind_one, in_a_row}
use Rattle.volume_stream.proofs.Encoded.{fact_decoded, summary_decoded, delta_decoded, summary_fits, delta_fits, cut_limits}

-- ---- requests of a segment

summary_has : (s : SummaryData) → IsWireSummary s → summary_in_bytes s ≡ Some (summary_bytes s)
summary_has s wire = ap (λ (b : Bool). bytes_unless b (summary_bytes s)) (summary_fits s wire)

delta_has : (d : DeltaData) → IsWireDelta d → delta_in_bytes d ≡ Some (delta_bytes d)
delta_has d wire = ap (λ (b : Bool). bytes_unless b (delta_bytes d)) (delta_fits d wire)

take_read : (f : Fact) → IsWireFact f → request_in (codes "take" ++ 32 ∷ fact_bytes f) ≡ Ok (asked (segment.Take f))
unfolding halves_frame
take_read f wire =
    ap (halves_frame (codes "take" ++ 32 ∷ fact_bytes f)) (halves_at (codes "take") (fact_bytes f) refl) ∙ rw (fact_decoded f wire) refl

answer_read : (s : SummaryData) → IsWireSummary s → request_in (codes "answer" ++ 32 ∷ summary_bytes s) ≡ Ok (asked (segment.Answer s))
unfolding halves_frame
answer_read s wire =
    ap (halves_frame (codes "answer" ++ 32 ∷ summary_bytes s)) (halves_at (codes "answer") (summary_bytes s) refl) ∙ rw (summary_decoded s wire) refl

within_both : (xs ys : List ℕ) → ltb (length (xs ++ ys)) (length xs) ≡ false
within_both xs ys = grind (arith, nat_tests, length-append xs ys)

-- so many bytes, and those after them
cut_apart : (xs ys : List ℕ) → split_by (Some (length xs)) (xs ++ ys) ≡ Some (xs, ys)
cut_apart xs ys =
    rw (within_both xs ys, take-append_seam xs ys, drop-append_seam xs ys) refl

abbrev absorb_text : List ℕ → List ℕ → List ℕ
absorb_text shown answered = decimal (length shown) ++ 32 ∷ (shown ++ answered)

absorbed_at : (shown answered : List ℕ) → length shown ≤ 4294967295 → sized (halves (absorb_text shown answered)) ≡ Some (shown, answered)
absorbed_at shown answered few =
    ap sized (halves_at (decimal (length shown)) (shown ++ answered) (lacks_decimal 32 (length shown) (omega arith) refl))
    ∙ ap (λ (o : Option ℕ). split_by o (shown ++ answered)) (decimal_is_read 4294967295 (length shown) (omega arith) few) ∙ cut_apart shown answered

absorb_read : (s : SummaryData) (d : DeltaData) → IsWireSummary s → IsWireDelta d → length (summary_bytes s) ≤ 4294967295
    → request_in (codes "absorb" ++ 32 ∷ absorb_text (summary_bytes s) (delta_bytes d)) ≡ Ok (asked (segment.Absorb s d))
unfolding halves_frame
absorb_read s d ws wd few =
    let text : List ℕ = absorb_text (summary_bytes s) (delta_bytes d) in
    ap (halves_frame (codes "absorb" ++ 32 ∷ text)) (halves_at (codes "absorb") text refl)
    ∙ ap absorb_both (absorbed_at (summary_bytes s) (delta_bytes d) few) ∙ rw (summary_decoded s ws, delta_decoded d wd) refl

absorb_is : (s : SummaryData) (d : DeltaData) → IsWireSummary s → IsWireDelta d
    → segment_frame (segment.Absorb s d) ≡ codes "absorb" ++ 32 ∷ absorb_text (summary_bytes s) (delta_bytes d)
absorb_is s d ws wd =
    rw (summary_has s ws, delta_has d wd) (behind_one (codes "absorb") (length (summary_bytes s)) (summary_bytes s ++ delta_bytes d))

segment_read : (a : SegmentRequest) → IsCarriedSegment a → request_in (segment_frame a) ≡ Ok (asked a)
unfolding halves_frame words_line lone_word
segment_read (segment.Take f) carried = take_read f carried
segment_read segment.Front carried = ap (halves_frame (codes "front")) (no_halves (codes "front") refl)
segment_read segment.Ask carried = ap (halves_frame (codes "ask")) (no_halves (codes "ask") refl)
segment_read (segment.Answer s) carried = ap (λ (o : Option (List ℕ)). request_in (answer_frame o)) (summary_has s carried) ∙ answer_read s carried
segment_read (segment.Absorb s d) carried = ap request_in (absorb_is s d carried.0 carried.1) ∙ absorb_read s d carried.0 carried.1 carried.2
segment_read other carried = absurd carried

-- ---- as requests of a guard

-- none of these words begins a request of a guard alone
plain_front : (a : SegmentRequest) → IsCarriedSegment a → guard_request stream.Frames (segment_frame a) ≡ plain_text stream.Frames (segment_frame a)
unfolding guard_words lone_text
plain_front (segment.Take f) carried = ap (guard_words stream.Frames (segment_frame (segment.Take f))) (halves_at (codes "take") (fact_bytes f) refl)
plain_front segment.Front carried = ap (guard_words stream.Frames (codes "front")) (no_halves (codes "front") refl)
plain_front segment.Ask carried = ap (guard_words stream.Frames (codes "ask")) (no_halves (codes "ask") refl)
plain_front (segment.Answer s) carried = rw (summary_has s carried)
    (ap (guard_words stream.Frames (codes "answer" ++ 32 ∷ summary_bytes s)) (halves_at (codes "answer") (summary_bytes s) refl))
plain_front (segment.Absorb s d) carried =
    let text : List ℕ = absorb_text (summary_bytes s) (delta_bytes d) in
    rw (absorb_is s d carried.0 carried.1) (ap (guard_words stream.Frames (codes "absorb" ++ 32 ∷ text)) (halves_at (codes "absorb") text refl))
plain_front other carried = absurd carried

plain_read : (a : SegmentRequest) → IsCarriedSegment a → guard_request stream.Frames (segment_frame a) ≡ Ok (guard_asked (guard.Plain a))
unfolding plain_text
plain_read a carried = plain_front a carried ∙ ap (λ (r : Result Asked LineFault). r >>= (λ x. Ok (plainly x))) (segment_read a carried)

as_read : (generation birth : ℕ) (a : SegmentRequest) → generation ≤ max_wide → birth ≤ max_wide → IsCarriedSegment a
    → guard_request stream.Frames (request_frame (guard.As generation birth a)) ≡ Ok (guard_asked (guard.As generation birth a))
unfolding guard_words under_text
as_read generation birth a g b carried =
    let own : List ℕ = segment_frame a in
    let behind : List ℕ = decimal birth ++ 32 ∷ own in
    let rest : List ℕ = decimal generation ++ 32 ∷ behind in
    ap (guard_request stream.Frames) (behind_two (codes "as") generation birth own)
    ∙ ap (guard_words stream.Frames (codes "as" ++ 32 ∷ rest)) (halves_at (codes "as") rest refl)
    ∙ ap (under_generation stream.Frames) (wide_front_at generation behind g)
    ∙ ap (under_birth stream.Frames generation) (wide_front_at birth own b)
    ∙ ap (λ (r : Result Asked LineFault). r >>= (λ x. Ok (under generation birth x))) (segment_read a carried)

-- ---- a word and numbers

fence_read : (generation : ℕ) → generation ≤ max_wide
    → guard_request stream.Frames (request_frame (guard.Fence generation)) ≡ Ok (guard_asked (guard.Fence generation))
unfolding guard_words
fence_read generation le =
    let rest : List ℕ = decimal generation ++ numbers_behind [] in
    ap (guard_words stream.Frames (codes "fence" ++ 32 ∷ rest)) (halves_at (codes "fence") rest refl)
    ∙ ap formed (made_at fence_form generation [] (omega arith, tt) (le, tt))

propose_read : (generation birth : ℕ) (cut : CutData) → generation ≤ max_wide → birth ≤ max_wide → IsWireCut cut
    → guard_request stream.Frames (request_frame (guard.Propose generation birth cut)) ≡ Ok (guard_asked (guard.Propose generation birth cut))
unfolding guard_words
propose_read generation birth cut g b wire =
    let limits = cut_limits cut wire in
    let others : List ℕ = birth ∷ cut.epoch ∷ cut.lo ∷ cut.hi ∷ [] in
    let rest : List ℕ = decimal generation ++ numbers_behind others in
    ap (guard_words stream.Frames (codes "propose" ++ 32 ∷ rest)) (halves_at (codes "propose") rest refl)
    ∙ ap formed (made_at propose_form generation others (omega arith, (omega arith, (omega arith, (omega arith, (omega arith, tt)))))
    (g, (b, (limits.epoch, (limits.lo, (limits.hi, tt)))))) ∙ rw wire.shape refl

-- ---- admissions

abbrev admission : ℕ → ℕ → ℕ → ℕ → Option AcceptedCut → Admission
admission generation birth epoch complete accepted =
    record { generation = generation; birth = birth; epoch = epoch; complete = complete; accepted = accepted }

abbrev four : ℕ → ℕ → ℕ → ℕ → List ℕ
four a b c d = a ∷ b ∷ c ∷ d ∷ []

admit_words : (rest : List ℕ)
    → guard_request stream.Frames (codes "admit" ++ 32 ∷ rest) ≡ formed (either_of (made_by admit_form (parts_at 32 rest)) (made_by admit_with_form (parts_at 32 rest)))
unfolding guard_words admission_of
admit_words rest = ap (guard_words stream.Frames (codes "admit" ++ 32 ∷ rest)) (halves_at (codes "admit") rest refl)

admission_at : (generation birth epoch complete : ℕ) (accepted : Option AcceptedCut) → IsCarriedAdmission (admission generation birth epoch complete accepted)
    → guard_request stream.Frames (admission_frame (admission generation birth epoch complete accepted))
    ≡ Ok (guard_asked (guard.Admit (admission generation birth epoch complete accepted)))
admission_at generation birth epoch complete None carried =
    let others : List ℕ = birth ∷ epoch ∷ complete ∷ [] in
    let rest : List ℕ = decimal generation ++ numbers_behind others in
    ap (guard_request stream.Frames) (append-nil (codes "admit" ++ 32 ∷ rest)) ∙ admit_words rest
    ∙ ap (λ (o : Option GuardAsked). formed (either_of o (made_by admit_with_form (parts_at 32 rest))))
    (made_at admit_form generation others (omega arith, (omega arith, (omega arith, (omega arith, tt))))
    (carried.0.0, (carried.0.1, (carried.1.0, (carried.1.1, tt)))))
admission_at generation birth epoch complete (Some pair) carried =
    let pairs : List ℕ = pair_numbers (Some pair) in
    let others : List ℕ = birth ∷ epoch ∷ complete ∷ pairs in
    let rest : List ℕ = decimal generation ++ numbers_behind others in
    let limits = cut_limits pair.cut carried.2.1 in
    let small : AreLimits admit_with_form.limits =
    (omega arith, (omega arith, (omega arith, (omega arith, (omega arith, (omega arith, (omega arith, (omega arith, tt)))))))) in
    let within : AreWithin (generation ∷ others) admit_with_form.limits =
    (carried.0.0, (carried.0.1, (carried.1.0, (carried.1.1, (carried.2.0, (limits.epoch, (limits.lo, (limits.hi, tt)))))))) in
    ap (guard_request stream.Frames)
    (append_assoc (codes "admit") (numbers_behind (four generation birth epoch complete)) (numbers_behind pairs)
    ∙ ap (λ (l : List ℕ). codes "admit" ++ l) (in_a_row (four generation birth epoch complete) pairs)) ∙ admit_words rest
    ∙ ap (λ (o : Option GuardAsked). formed (either_of o (made_by admit_with_form (parts_at 32 rest))))
    (made_none admit_form admit_with_form.limits generation others small within (λ e. omega (arith, e)))
    ∙ ap formed (made_at admit_with_form generation others small within) ∙ rw carried.2.1.shape refl

-- ---- any request

pub requests_are_read : RequestsAreRead
unfolding guard_words lone_text
requests_are_read guard.Status carried = ap (guard_words stream.Frames (codes "status")) (no_halves (codes "status") refl)
requests_are_read (guard.Fence generation) carried = fence_read generation carried
requests_are_read (guard.As generation birth a) carried = as_read generation birth a carried.0.0 carried.0.1 carried.1
requests_are_read (guard.Propose generation birth cut) carried = propose_read generation birth cut carried.0.0 carried.0.1 carried.1
requests_are_read (guard.Admit a) carried = admission_at a.generation a.birth a.epoch a.complete a.accepted carried
requests_are_read (guard.Plain a) carried = plain_read a carried

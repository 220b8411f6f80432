-- An engine reads in the frame of a node's reply that reply, where it listens to it.
use Rattle.std.proofs.Common.{◌≡◌, ℕ, ◌+◌, ◌≤◌, Bool, true, false, eqb, List, [], ◌∷◌, ◌++◌, length, Option, Some, None, refl, sym, ap, ◌∙◌, append_assoc, length-append, arith}
use Rattle.std.proofs.lemmas.Bool.{false≢true}
use Rattle.std.proofs.lemmas.Fmt.{length-decimal-le}
use Rattle.std.specs.Prelude.{codes}
use Rattle.std.specs.Fmt.{decimal}
use Rattle.segment_core.specs.declared.answers.Front.{Front}
use Rattle.messages.specs.Summaries.{SummaryData}
use Rattle.messages.specs.Deltas.{DeltaData}
use Rattle.redo_wire.specs.Summaries.{summary_bytes, is_long_summary}
use Rattle.redo_wire.specs.Deltas.{delta_bytes, is_long_delta}
use Rattle.replica.specs.declared.replies.Reply.{Reply as SegmentReply}
use Rattle.replica.specs.declared.replies.Reply.TheVariants as segment
use Rattle.guard.specs.declared.requests.AcceptedCut.{AcceptedCut}
use Rattle.guard.specs.declared.replies.Reply.{Reply}
use Rattle.guard.specs.declared.replies.Reply.TheVariants as reply
use Rattle.text.specs.Parts.{◌>>=◌}
use Rattle.text.proofs.Forms.{AreWithin}
use Rattle.text.proofs.Split.{lacks}
use Rattle.node_stream.specs.Telling.{numbers_behind, frame, frame_of}
use Rattle.node_stream.specs.GuardReading.{max_wide, either_of}
use Rattle.node_stream.specs.GuardTelling.{pair_numbers, guard_numbers, member_number, status_numbers, heading, guard_frame}
use Rattle.node_stream.specs.declared.asked.Window.{Window}
use Rattle.node_stream.proofs.Long.{value_of_bytes}
use Rattle.node_stream.proofs.Rendered.{fits_whole}
use Rattle.volume_stream.specs.Words.{made_of}
use Rattle.volume_stream.specs.ReplyFrames.{status_form, status_with_form, fenced_form, fenced_with_form, stale_form, fresh_form, stranger_form, admitted_form, behind_form, accepted_form, front_form, status_reply, fenced_reply, short_reply, numbered_reply, lone_segment_reply, segment_words, segment_reply, under_birth, under_generation, headed_reply, lone_reply, reply_words, reply_in}
use Rattle.volume_stream.specs.Carried.{AreWide, IsWireFront, IsWirePair, IsHeardSegment, RepliesAreRead}
use Rattle.volume_stream.proofs.Numbers.{AreLimits, halves_at, no_halves, made, not_made, wide_front_at, in_a_row}
use Rattle.volume_stream.proofs.Encoded.{summary_decoded, delta_decoded, summary_fits, delta_fits, cut_limits}

-- ---- replies of a segment

front_read : (w : Window) (f : Front) → IsWireFront f → segment_reply (frame_of w (segment.Front f)) ≡ Some (segment.Front f)
unfolding segment_words
front_read w f wire =
    let others : List ℕ = f.complete ∷ f.min ∷ [] in
    let rest : List ℕ = decimal f.epoch ++ numbers_behind others in
    ap (segment_words (codes "front" ++ 32 ∷ rest)) (halves_at (codes "front") rest refl)
    ∙ made front_form f.epoch others (omega arith, (omega arith, (omega arith, tt))) (wire.0.0, (wire.0.1, (wire.1, tt))) (omega arith)

not_long : (b : Bool) → b ≡ false → b ≡ true → ⊥
not_long b f t = false≢true (sym f ∙ t)

summary_text : (w : Window) (s : SummaryData) → IsHeardSegment (segment.Summary s) → frame_of w (segment.Summary s) ≡ codes "summary" ++ 32 ∷ summary_bytes s
summary_text w s heard =
    ap frame (value_of_bytes (codes "summary") (summary_bytes s) (is_long_summary s) (not_long (is_long_summary s) (summary_fits s heard.0)))
    ∙ fits_whole (codes "summary too long") (codes "summary" ++ 32 ∷ summary_bytes s) (omega (arith, heard.1))

delta_text : (w : Window) (d : DeltaData) → IsHeardSegment (segment.Delta d) → frame_of w (segment.Delta d) ≡ codes "delta" ++ 32 ∷ delta_bytes d
delta_text w d heard =
    ap frame (value_of_bytes (codes "delta") (delta_bytes d) (is_long_delta d) (not_long (is_long_delta d) (delta_fits d heard.0)))
    ∙ fits_whole (codes "delta too long") (codes "delta" ++ 32 ∷ delta_bytes d) (omega (arith, heard.1))

segment_read : (w : Window) (r : SegmentReply) → IsHeardSegment r → segment_reply (frame_of w r) ≡ Some r
unfolding segment_words lone_segment_reply
segment_read w segment.Changed heard = ap (segment_words (codes "changed")) (no_halves (codes "changed") refl)
segment_read w segment.Unchanged heard = ap (segment_words (codes "unchanged")) (no_halves (codes "unchanged") refl)
segment_read w segment.Absorbed heard = ap (segment_words (codes "absorbed")) (no_halves (codes "absorbed") refl)
segment_read w (segment.Front f) heard = front_read w f heard
segment_read w (segment.Summary s) heard =
    ap segment_reply (summary_text w s heard)
    ∙ ap (segment_words (codes "summary" ++ 32 ∷ summary_bytes s)) (halves_at (codes "summary") (summary_bytes s) refl)
    ∙ rw (summary_decoded s heard.0) refl
segment_read w (segment.Delta d) heard =
    ap segment_reply (delta_text w d heard)
    ∙ ap (segment_words (codes "delta" ++ 32 ∷ delta_bytes d)) (halves_at (codes "delta") (delta_bytes d) refl)
    ∙ rw (delta_decoded d heard.0) refl
segment_read w other heard = absurd heard

-- a number of 64 bits has 20 digits at most
digits : (n : ℕ) → n ≤ max_wide → length (decimal n) ≤ 20
digits n le = length-decimal-le 20 n (omega arith) (omega (arith, le)) (omega (arith, le))

front_len : (f : Front) → IsWireFront f → length (codes "front" ++ numbers_behind (f.epoch ∷ f.complete ∷ f.min ∷ [])) ≤ 68
front_len f wire =
    let a = digits f.epoch (omega (arith, wire.0.0)) in
    let b = digits f.complete (omega (arith, wire.0.1)) in
    let c = digits f.min (omega (arith, wire.1)) in
    omega (
      arith,
      a,
      b,
      c,
      length-append (decimal f.epoch) (numbers_behind (f.complete ∷ f.min ∷ [])),
      length-append (decimal f.complete) (numbers_behind (f.min ∷ [])),
      length-append (decimal f.min) [],
    )

-- behind a generation and a birth there is room for it
segment_len : (w : Window) (r : SegmentReply) → IsHeardSegment r → length (frame_of w r) + 45 ≤ 4294967295
segment_len w segment.Changed heard = omega arith
segment_len w segment.Unchanged heard = omega arith
segment_len w segment.Absorbed heard = omega arith
segment_len w (segment.Front f) heard = omega (arith, front_len f heard)
segment_len w (segment.Summary s) heard = omega (arith, ap length (summary_text w s heard), heard.1)
segment_len w (segment.Delta d) heard = omega (arith, ap length (delta_text w d heard), heard.1)
segment_len w other heard = absurd heard

-- ---- a reply under a generation

heading_len : (generation birth : ℕ) → generation ≤ max_wide → birth ≤ max_wide → length (heading generation birth) ≤ 45
heading_len generation birth g b =
    let first = digits generation g in
    let next = digits birth b in
    omega (
      arith,
      first,
      next,
      length-append (numbers_behind (generation ∷ birth ∷ [])) (32 ∷ []),
      length-append (decimal generation) (numbers_behind (birth ∷ [])),
      length-append (decimal birth) [],
    )

headed_text : (generation birth : ℕ) (text : List ℕ)
    → heading generation birth ++ text ≡ codes "as" ++ 32 ∷ (decimal generation ++ 32 ∷ (decimal birth ++ 32 ∷ text))
headed_text generation birth text = simp append_assoc

headed_read : (w : Window) (generation birth : ℕ) (own : SegmentReply) → generation ≤ max_wide → birth ≤ max_wide → IsHeardSegment own
    → reply_in (guard_frame w (reply.Headed generation birth own)) ≡ Some (reply.Headed generation birth own)
unfolding reply_words headed_reply
headed_read w generation birth own g b heard =
    let text : List ℕ = frame_of w own in
    let behind : List ℕ = decimal birth ++ 32 ∷ text in
    let rest : List ℕ = decimal generation ++ 32 ∷ behind in
    let room : length (heading generation birth ++ text) ≤ 4294967295 =
    omega (arith, length-append (heading generation birth) text, heading_len generation birth g b, segment_len w own heard) in
    ap reply_in (fits_whole (codes "too long") (heading generation birth ++ text) room ∙ headed_text generation birth text)
    ∙ ap (reply_words (codes "as" ++ 32 ∷ rest)) (halves_at (codes "as") rest refl) ∙ ap under_generation (wide_front_at generation behind g)
    ∙ ap (under_birth generation) (wide_front_at birth text b)
    ∙ ap (λ (o : Option SegmentReply). o >>= (λ told. Some (reply.Headed generation birth told))) (segment_read w own heard)

-- ---- a word and numbers

numbers_text : (word ns : List ℕ) (accepted : Option AcceptedCut)
    → frame (guard_numbers word ns accepted) ≡ word ++ numbers_behind (ns ++ pair_numbers accepted)
numbers_text word ns accepted = ap (λ (l : List ℕ). word ++ l) (in_a_row ns (pair_numbers accepted))

-- a reply of numbers by what its word and numbers say
worded : (word : List ℕ) (n : ℕ) (ns : List ℕ) → lacks 32 word ≡ true → reply_in (word ++ numbers_behind (n ∷ ns))
    ≡ reply_words (word ++ numbers_behind (n ∷ ns)) (Some (word, decimal n ++ numbers_behind ns))
worded word n ns h = ap (reply_words (word ++ numbers_behind (n ∷ ns))) (halves_at word (decimal n ++ numbers_behind ns) h)

member_is : (b : Bool) → eqb (member_number b) 1 ≡ b
member_is true = refl
member_is false = refl

one : (b : Bool) → member_number b ≤ 1
one true = omega arith
one false = omega arith

six : AreLimits status_form.limits
six = (omega arith, (omega arith, (omega arith, (omega arith, (omega arith, (omega arith, tt))))))

ten : AreLimits status_with_form.limits
ten = (omega arith, (omega arith, (omega arith, (omega arith, (omega arith, (omega arith, (omega arith, (omega arith, (omega arith, (omega arith, tt))))))))))

status_read : (generation birth : ℕ) (is_member : Bool) (front : Front) (accepted : Option AcceptedCut) → AreWide generation birth → IsWireFront front
    → IsWirePair accepted → let ns : List ℕ = birth ∷ member_number is_member ∷ front.epoch ∷ front.complete ∷ front.min ∷ pair_numbers accepted in
    status_reply (decimal generation ++ numbers_behind ns) ≡ Some (reply.Status generation birth is_member front accepted)
unfolding status_reply
status_read generation birth is_member front None wide wire pair =
    let ns : List ℕ = birth ∷ member_number is_member ∷ front.epoch ∷ front.complete ∷ front.min ∷ [] in
    let rest : List ℕ = decimal generation ++ numbers_behind ns in
    ap (λ (o : Option Reply). either_of o (made_of status_with_form rest))
    (made status_form generation ns six (wide.0, (wide.1, (one is_member, (wire.0.0, (wire.0.1, (wire.1, tt)))))) (omega arith))
    ∙ rw (member_is is_member) refl
status_read generation birth is_member front (Some by) wide wire pair =
    let limits = cut_limits by.cut pair.1 in
    let ns : List ℕ = birth ∷ member_number is_member ∷ front.epoch ∷ front.complete ∷ front.min ∷ pair_numbers (Some by) in
    let rest : List ℕ = decimal generation ++ numbers_behind ns in
    let within : AreWithin (generation ∷ ns) status_with_form.limits =
    (wide.0, (wide.1, (one is_member, (wire.0.0, (wire.0.1, (wire.1, (pair.0, (limits.epoch, (limits.lo, (limits.hi, tt)))))))))) in
    ap (λ (o : Option Reply). either_of o (made_of status_with_form rest))
    (not_made status_form status_with_form.limits generation ns ten within (λ e. omega (arith, e)) (omega arith))
    ∙ made status_with_form generation ns ten within (omega arith) ∙ rw (pair.1.shape, member_is is_member) refl

fenced_read : (generation birth : ℕ) (accepted : Option AcceptedCut) → AreWide generation birth → IsWirePair accepted
    → fenced_reply (decimal generation ++ numbers_behind (birth ∷ pair_numbers accepted)) ≡ Some (reply.Fenced generation birth accepted)
unfolding fenced_reply
fenced_read generation birth None wide pair =
    let rest : List ℕ = decimal generation ++ numbers_behind (birth ∷ []) in
    ap (λ (o : Option Reply). either_of o (made_of fenced_with_form rest))
    (made fenced_form generation (birth ∷ []) (omega arith, (omega arith, tt)) (wide.0, (wide.1, tt)) (omega arith))
fenced_read generation birth (Some by) wide pair =
    let limits = cut_limits by.cut pair.1 in
    let ns : List ℕ = birth ∷ pair_numbers (Some by) in
    let rest : List ℕ = decimal generation ++ numbers_behind ns in
    let small : AreLimits fenced_with_form.limits = (omega arith, (omega arith, (omega arith, (omega arith, (omega arith, (omega arith, tt)))))) in
    let within : AreWithin (generation ∷ ns) fenced_with_form.limits =
    (wide.0, (wide.1, (pair.0, (limits.epoch, (limits.lo, (limits.hi, tt)))))) in
    ap (λ (o : Option Reply). either_of o (made_of fenced_with_form rest))
    (not_made fenced_form fenced_with_form.limits generation ns small within (λ e. omega (arith, e)) (omega arith))
    ∙ made fenced_with_form generation ns small within (omega arith) ∙ rw pair.1.shape refl

-- ---- any reply

pub replies_are_read : RepliesAreRead
unfolding reply_words numbered_reply short_reply lone_reply
replies_are_read w (reply.Status generation birth is_member front accepted) heard =
    let ns : List ℕ = birth ∷ member_number is_member ∷ front.epoch ∷ front.complete ∷ front.min ∷ pair_numbers accepted in
    ap reply_in (numbers_text (codes "status") (status_numbers generation birth is_member front) accepted) ∙ worded (codes "status") generation ns refl
    ∙ status_read generation birth is_member front accepted heard.0 heard.1 heard.2
replies_are_read w (reply.Fenced generation birth accepted) heard =
    ap reply_in (numbers_text (codes "fenced") (generation ∷ birth ∷ []) accepted)
    ∙ worded (codes "fenced") generation (birth ∷ pair_numbers accepted) refl ∙ fenced_read generation birth accepted heard.0 heard.1
replies_are_read w (reply.Stale generation) heard =
    worded (codes "stale") generation [] refl
    ∙ made stale_form generation [] (omega arith, tt) (heard, tt) (omega arith)
replies_are_read w (reply.Fresh birth) heard =
    worded (codes "fresh") birth [] refl
    ∙ made fresh_form birth [] (omega arith, tt) (heard, tt) (omega arith)
replies_are_read w (reply.Headed generation birth own) heard = headed_read w generation birth own heard.0.0 heard.0.1 heard.1
replies_are_read w (reply.Accepted generation birth epoch) heard =
    worded (codes "accepted") generation (birth ∷ epoch ∷ []) refl
    ∙ made accepted_form generation (birth ∷ epoch ∷ []) (omega arith, (omega arith, (omega arith, tt))) (heard.0.0, (heard.0.1, (heard.1, tt))) (omega arith)
replies_are_read w (reply.Admitted generation birth) heard =
    worded (codes "admitted") generation (birth ∷ []) refl
    ∙ made admitted_form generation (birth ∷ []) (omega arith, (omega arith, tt)) (heard.0, (heard.1, tt)) (omega arith)
replies_are_read w reply.Member heard = ap (reply_words (codes "member")) (no_halves (codes "member") refl)
replies_are_read w (reply.Stranger birth) heard =
    worded (codes "stranger") birth [] refl
    ∙ made stranger_form birth [] (omega arith, tt) (heard, tt) (omega arith)
replies_are_read w (reply.Behind epoch complete) heard =
    worded (codes "behind") epoch (complete ∷ []) refl
    ∙ made behind_form epoch (complete ∷ []) (omega arith, (omega arith, tt)) (heard.0, (heard.1, tt)) (omega arith)
replies_are_read w other heard = absurd heard

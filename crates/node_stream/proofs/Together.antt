-- Frames that are answered one after another.
use Rattle.std.proofs.Common.{◌≡◌, ℕ, ◌+◌, ◌*◌, ◌<◌, ◌≤◌, ◌^◌, List, [], ◌∷◌, ◌++◌, length, map, Result, Ok, Err, inl, inr, refl, sym, ap, ◌∙◌, subst, append_assoc, append-nil, zero-add, add-zero, arith, length-append}
use Rattle.std.specs.Prelude.{codes}
use Rattle.std.specs.List.{All, concat}
use Rattle.std.proofs.lemmas.List.Elements.{All-nil, All-push}
use Rattle.framing.specs.Frames.{header, framed, IsShort, IsBegun}
use Rattle.framing.specs.Inside.{AreInside, FitsFrame, bytes_with}
use Rattle.framing.proofs.FramesAnswered.{joined}
use Rattle.framing.proofs.Headers.{length-header}
use Rattle.framing.proofs.Nested.{first_inside, none_inside}
use Rattle.guard.specs.Data.{GuardData}
use Rattle.node_stream.specs.Answering.{Spoken, by_frames, TellsFault, AnswersAsked, AnswersRequest, ReadsAsked, AnswersOneOf, AnswersInTurn, AnswersAll}
use Rattle.node_stream.specs.Gathering.{HasPlaceFor, Gathers, gathered_bytes, gathered_room}
use Rattle.node_stream.specs.GuardReading.{guard_request}
use Rattle.node_stream.specs.GuardTelling.{sure_for}
use Rattle.node_stream.specs.declared.asked.GuardAsked.{GuardAsked}
use Rattle.node_stream.specs.declared.gathered.Gathered.{Gathered}
use Rattle.node_stream.specs.declared.job.Form.TheVariants as stream
use Rattle.node_stream.specs.declared.faults.LineFault.{LineFault}

-- ---- one answer more
module _ (form : Spoken) (bytes text : List ℕ) where
  one_at : (put put' others others' : ℕ) (old old' new : GuardData) → put ≡ put' → others ≡ others' → old ≡ old'
      → AnswersOneOf form put others old bytes text new → AnswersOneOf form put' others' old' bytes text new
  one_at put put' others others' old old' new e f g h =
      subst (λ (p : ℕ). AnswersOneOf form p others' old' bytes text new) e
      (subst (λ (n : ℕ). AnswersOneOf form put n old' bytes text new) f (subst (λ (r : GuardData). AnswersOneOf form put others r bytes text new) g h))

  in_turn_more : (put behind : ℕ) (old : GuardData) (done texts : List (List ℕ)) (mid new : GuardData)
      → AnswersInTurn form put (behind + 1) old done texts mid → AnswersOneOf form (put + length (concat (map framed texts))) behind mid bytes text new
      → AnswersInTurn form put behind old (done ++ bytes ∷ []) (texts ++ text ∷ []) new
  in_turn_more put behind old [] [] mid new h one =
      (new, one_at (put + 0) put behind (0 + behind) mid old new (add-zero put) (sym (zero-add behind)) h one, refl)
  in_turn_more put behind old (b ∷ bs) (t ∷ ts) mid new h one =
      let others : length bs + (behind + 1) ≡ length (bs ++ bytes ∷ []) + behind = omega (arith, length-append bs (bytes ∷ [])) in
      let front : put + length (concat (map framed (t ∷ ts))) ≡ put + (4 + length t) + length (concat (map framed ts)) =
      omega (arith, length-append (framed t) (concat (map framed ts)), length-append (header (length t)) t, length-header (length t)) in (
        h.0,
        subst (λ (n : ℕ). AnswersOneOf form put n old b t h.0) others h.1,
        in_turn_more (put + (4 + length t)) behind h.0 bs ts mid new h.2
            (subst (λ (p : ℕ). AnswersOneOf form p behind mid bytes text new) front one),
      )
  in_turn_more put behind old [] (t ∷ ts) mid new h one = absurd h
  in_turn_more put behind old (b ∷ bs) [] mid new h one = absurd h

-- ---- the frames before the rest
-- the frames before the rest are answered, and so many are in the rest
pub record Answered (old : GuardData) (bytes rest out : List ℕ) (left : ℕ) (new : GuardData) : Type 0 where
  pub done : List (List ℕ)
  pub texts : List (List ℕ)
  pub others : List (List ℕ)
  pub encoded : bytes ≡ concat (map framed done) ++ rest
  pub short : All IsShort done
  pub behind : AreInside rest others
  pub many : length others ≡ left
  pub few : 21 * (length done + left) ≤ 2 ^ 26
  pub answered : AnswersInTurn by_frames 0 left old done texts new
  pub told : AreInside out texts

pub answered_none : (old : GuardData) (bytes out : List ℕ) (left : ℕ) (frames : List (List ℕ)) → AreInside bytes frames → length frames ≡ left → out ≡ []
    → 21 * left ≤ 2 ^ 26 → Answered old bytes bytes out left old
answered_none old bytes out left frames inside many none few = record {
  done = [];
  texts = [];
  others = frames;
  encoded = refl;
  short = All-nil IsShort;
  behind = inside;
  many = many;
  few = omega arith;
  answered = refl;
  told = record { encoded = none; short = All-nil IsShort };
}

module _ (old : GuardData) (bytes rest out : List ℕ) (left : ℕ) (mid : GuardData) (h : Answered old bytes rest out left mid) where
  pub some_left : (frame behind : List ℕ) → rest ≡ framed frame ++ behind → IsShort frame → 0 < left
  some_left frame behind e short = let first = first_inside rest frame behind h.others h.behind e short in omega (arith, h.many, ap length first.1)

  pub answered_more : (frame behind said out' : List ℕ) (left' : ℕ) (new : GuardData) → rest ≡ framed frame ++ behind → IsShort frame
      → AnswersOneOf by_frames (length out) left' mid frame said new → out' ≡ out ++ framed said → IsShort said → left' + 1 ≡ left
      → Answered old bytes behind out' left' new
  answered_more frame behind said out' left' new e short one put fits is =
      let first = first_inside rest frame behind h.others h.behind e short in record {
        done = h.done ++ frame ∷ [];
        texts = h.texts ++ said ∷ [];
        others = first.0;
        encoded = h.encoded ∙ ap (λ (l : List ℕ). concat (map framed h.done) ++ l) e ∙ sym (append_assoc (concat (map framed h.done)) (framed frame) behind)
            ∙ ap (λ (l : List ℕ). l ++ behind) (sym (joined h.done frame));
        short = All-push IsShort h.done frame h.short short;
        behind = first.2;
        many = omega (arith, h.many, ap length first.1, is);
        few = omega (arith, h.few, length-append h.done (frame ∷ []), is);
        answered = in_turn_more by_frames frame said 0 left' old h.done h.texts mid new
            (subst (λ (n : ℕ). AnswersInTurn by_frames 0 n old h.done h.texts mid) (sym is) h.answered)
            (subst (λ (p : ℕ). AnswersOneOf by_frames p left' mid frame said new) (omega (arith, ap length h.told.encoded)) one);
        told = record {
          encoded = put ∙ ap (λ (l : List ℕ). l ++ framed said) h.told.encoded ∙ sym (joined h.texts said);
          short = All-push IsShort h.texts said h.told.short fits;
        };
      }

  pub answered_all : IsBegun rest → length out ≤ 2 ^ 26 → AnswersAll by_frames old bytes out mid
  answered_all begun within =
      let none : h.others ≡ [] = none_inside rest h.others h.behind begun in
      let empty : rest ≡ [] = h.behind.encoded ∙ ap (λ (l : List (List ℕ)). concat (map framed l)) none in record {
        frames = h.done;
        texts = h.texts;
        asked = record { encoded = h.encoded ∙ ap (λ (l : List ℕ). concat (map framed h.done) ++ l) empty ∙ append-nil (concat (map framed h.done)); short = h.short };
        few = omega (arith, h.few);
        answered = subst (λ (n : ℕ). AnswersInTurn by_frames 0 n old h.done h.texts mid) (sym h.many ∙ ap length none) h.answered;
        told = h.told;
        within = within;
      }

-- ---- what was put is an answer
-- what is answered without a step
pub fault_answers : (form : Spoken) (mid : GuardData) (bytes text : List ℕ) → TellsFault form bytes text → AnswersRequest form mid bytes text mid
fault_answers form mid bytes text (inl lacks) = inl (record { is = lacks; did = inl refl })
fault_answers form mid bytes text (inr fault) =
    subst (λ (a : Result GuardAsked LineFault). AnswersAsked form a mid text mid) (sym fault.1) (inr (fault.2, refl))

-- in place of the reply of what only reads the answer may say that memory ran out
lacking : (old : GuardData) (asked : Result GuardAsked LineFault) (text : List ℕ) (new : GuardData) → ReadsAsked by_frames asked old text new
    → AnswersAsked by_frames asked old (codes "memory") new
lacking old (Ok asked) text new h = inl (record { is = refl; did = inr (h.told, h.replies, h.unchanged) })
lacking old (Err fault) text new h = absurd h

-- an answer that was put is one to its request
pub said : (mid : GuardData) (frame text : List ℕ) (asked : GuardAsked) (new : GuardData) (answers answers' : Gathered) (others : ℕ)
    → guard_request stream.Frames frame ≡ Ok asked → AnswersAsked by_frames (Ok asked) mid text new
    → (sure_for asked.request < length text → ReadsAsked by_frames (Ok asked) mid text new) → IsShort text
    → HasPlaceFor answers (others + 1) → FitsFrame (length (gathered_bytes answers)) (sure_for asked.request) others
    → bytes_with (length (gathered_bytes answers)) (sure_for asked.request) others ≤ gathered_room answers → Gathers answers text others answers'
    → (told : List ℕ) × AnswersOneOf by_frames (length (gathered_bytes answers)) others mid frame told new
    × (gathered_bytes answers' ≡ gathered_bytes answers ++ framed told) × IsShort told
said mid frame text asked new answers answers' others asks one reads short place within free (inl put) =
    (text, inl (put.0, subst (λ (a : Result GuardAsked LineFault). AnswersAsked by_frames a mid text new) (sym asks) one), put.1, short)
said mid frame text asked new answers answers' others asks one reads short place within free (inr (inl put)) =
    let fits : FitsFrame (length (gathered_bytes answers)) 6 others = omega (arith, place.within) in
    let long : sure_for asked.request < length text = omega (arith, put.1, free) in
    let lacks : AnswersAsked by_frames (guard_request stream.Frames frame) mid (codes "memory") new =
    subst (λ (a : Result GuardAsked LineFault). AnswersAsked by_frames a mid (codes "memory") new) (sym asks) (lacking mid (Ok asked) text new (reads long)) in
    (codes "memory", inl (fits, lacks), put.2, omega arith)
said mid frame text asked new answers answers' others asks one reads short place within free (inr (inr put)) =
    let long : sure_for asked.request < length text = omega (arith, put.0, within) in
    let over = subst (λ (a : Result GuardAsked LineFault). ReadsAsked by_frames a mid text new) (sym asks) (reads long) in
    (codes "long", inr (inl (record { is = refl; answer = text; reads = over; exceeds = put.0 })), put.1, omega arith)

-- the frame encodes no request, or there was no memory to read it
pub not_read : (mid : GuardData) (frame text : List ℕ) (answers answers' : Gathered) (others : ℕ) → TellsFault by_frames frame text → length text ≤ 17
    → HasPlaceFor answers (others + 1) → gathered_bytes answers' ≡ gathered_bytes answers ++ framed text
    → (told : List ℕ) × AnswersOneOf by_frames (length (gathered_bytes answers)) others mid frame told mid
    × (gathered_bytes answers' ≡ gathered_bytes answers ++ framed told) × IsShort told
not_read mid frame text answers answers' others why few place put =
    let fits : FitsFrame (length (gathered_bytes answers)) (length text) others = omega (arith, place.within, few) in
    (text, inl (fits, fault_answers by_frames mid frame text why), put, omega (arith, few))

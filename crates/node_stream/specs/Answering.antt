-- How a guard answers a line, and how a frame.
use Rattle.std.specs.Prelude.{◌≡◌, ℕ, ◌+◌, ◌*◌, ◌<◌, ◌≤◌, ◌^◌, ◌⊎◌, List, [], ◌∷◌, length, Option, Some, None, Result, Ok, Err, codes}
use Rattle.framing.specs.Inside.{AreInside, FitsFrame, Exceeds}
use Rattle.guard.specs.Data.{GuardData}
use Rattle.guard.specs.Guarding.{IsGuardReply}
use Rattle.guard.specs.Refusing.{IsGuardRefusal, IsAfterGuardRefusal}
use Rattle.guard.specs.declared.replies.Reply.{Reply}
use Rattle.node_stream.specs.FrameReading.{many_in}
use Rattle.node_stream.specs.GuardReading.{guard_request}
use Rattle.node_stream.specs.GuardTelling.{guard_text, sure_for}
use Rattle.node_stream.specs.Telling.{fault_text, rendered}
use Rattle.node_stream.specs.Telling.BodyData.{Text}
use Rattle.node_stream.specs.declared.asked.GuardAsked.{GuardAsked}
use Rattle.node_stream.specs.declared.asked.Window.{Window}
use Rattle.node_stream.specs.declared.faults.LineFault.{LineFault}
use Rattle.node_stream.specs.declared.faults.LineFault.TheVariants as fault
use Rattle.node_stream.specs.declared.job.Form.{Form}
use Rattle.node_stream.specs.declared.job.Form.TheVariants as stream

-- A form of the stream: the bytes of many requests, where those of one hold many; what one request asks; and the texts of replies, of
-- faults, of lack of memory, for a request that is too long, and for what exceeds the limit of the answer to many.
pub record Spoken : Type 0 where
  pub many : List ℕ → Option (List ℕ)
  pub asks : List ℕ → Result GuardAsked LineFault
  pub reply : Window → Reply → List ℕ
  pub fault : LineFault → List ℕ
  pub memory : List ℕ
  pub long : List ℕ
  pub over : List ℕ

-- a text that is no reply
abbrev pub text_in : Form → List ℕ → List ℕ
text_in form text = rendered form [] (Text text)

-- lines hold no others
abbrev pub many_by : Form → List ℕ → Option (List ℕ)
many_by stream.Lines line = None
many_by stream.Frames frame = many_in frame

abbrev pub over_limit : Form → List ℕ
over_limit stream.Lines = codes "long line"
over_limit stream.Frames = codes "long frame"

abbrev pub protocol : Form → Spoken
protocol form = record {
  many = many_by form;
  asks = guard_request form;
  reply = guard_text form;
  fault = λ why. text_in form (fault_text form why);
  memory = text_in form (codes "memory");
  long = text_in form (over_limit form);
  over = text_in form (codes "long");
}

abbrev pub by_lines : Spoken
by_lines = protocol stream.Lines

abbrev pub by_frames : Spoken
by_frames = protocol stream.Frames

-- The guard carries out the request, and the text is that of its reply. A refused read may change which images the cache keeps, and any
-- other refusal changes nothing.
pub record ReportsReply (form : Spoken) (asked : GuardAsked) (old : GuardData) (text : List ℕ) (new : GuardData) : Type 0 where
  pub told : Reply
  pub replies : IsGuardReply old asked.request told new
  pub refused : IsGuardRefusal told → IsAfterGuardRefusal asked.request old new
  pub is : text ≡ form.reply asked.window told

-- the guard carries out what is asked with some reply, and is as after a refusal of it; bytes that encode no request ask nothing
abbrev pub CarriesOut : Result GuardAsked LineFault → GuardData → GuardData → Type 0
CarriesOut (Ok asked) old new = (told : Reply) × IsGuardReply old asked.request told new × IsAfterGuardRefusal asked.request old new
CarriesOut (Err fault) old new = ⊥

-- There was no memory. The guard did nothing; or it carried out a request that leaves it as a refusal does: a read may have changed which
-- images the cache keeps, and any other request has changed nothing.
pub record LacksMemory (form : Spoken) (asked : Result GuardAsked LineFault) (old : GuardData) (text : List ℕ) (new : GuardData) : Type 0 where
  pub is : text ≡ form.memory
  pub did : (new ≡ old) ⊎ CarriesOut asked old new

-- the request is carried out and its reply reported; bytes that encode no request change nothing
abbrev pub ReportsAnswer : Spoken → Result GuardAsked LineFault → GuardData → List ℕ → GuardData → Type 0
ReportsAnswer form (Ok asked) old text new = ReportsReply form asked old text new
ReportsAnswer form (Err fault) old text new = (text ≡ form.fault fault) × (new ≡ old)

-- the text answers what was read
abbrev pub AnswersAsked : Spoken → Result GuardAsked LineFault → GuardData → List ℕ → GuardData → Type 0
AnswersAsked form asked old text new = LacksMemory form asked old text new ⊎ ReportsAnswer form asked old text new

-- the text answers the bytes of one request
abbrev pub AnswersRequest : Spoken → GuardData → List ℕ → List ℕ → GuardData → Type 0
AnswersRequest form old bytes text new = AnswersAsked form (form.asks bytes) old text new

-- the text says, with no step of the guard, that there was no memory, or why the bytes encode no request
abbrev pub TellsFault : Spoken → List ℕ → List ℕ → Type 0
TellsFault form bytes text = (text ≡ form.memory) ⊎ ((fault : LineFault) × (form.asks bytes ≡ Err fault) × (text ≡ form.fault fault))

-- ---- many requests
-- The text is that of the reply to what was asked, and the guard is as after a refusal of it: asked again, it is answered again.
pub record OnlyReads (form : Spoken) (asked : GuardAsked) (old : GuardData) (text : List ℕ) (new : GuardData) : Type 0 where
  pub told : Reply
  pub replies : IsGuardReply old asked.request told new
  pub is : text ≡ form.reply asked.window told
  pub unchanged : IsAfterGuardRefusal asked.request old new

-- bytes that encode no request read nothing
abbrev pub ReadsAsked : Spoken → Result GuardAsked LineFault → GuardData → List ℕ → GuardData → Type 0
ReadsAsked form (Ok asked) old text new = OnlyReads form asked old text new
ReadsAsked form (Err fault) old text new = ⊥

-- The answer exceeds the limit, after so many bytes of answers and before so many answers. The guard is as after a refusal of the request.
pub record IsOver (form : Spoken) (put others : ℕ) (old : GuardData) (bytes text : List ℕ) (new : GuardData) : Type 0 where
  pub is : text ≡ form.over
  pub answer : List ℕ
  pub reads : ReadsAsked form (form.asks bytes) old answer new
  pub exceeds : Exceeds put (length answer) others

-- The longest answer that reports a change would exceed the limit, after so many bytes of answers and before so many answers. So the request is
-- not carried out. Of a request of a replica that no engine asks this cannot be: for 17 bytes there is room.
pub record IsHeldBack (form : Spoken) (put others : ℕ) (bytes text : List ℕ) : Type 0 where
  pub asked : GuardAsked
  pub asks : form.asks bytes ≡ Ok asked
  pub is : text ≡ form.over
  pub exceeds : Exceeds put (sure_for asked.request) others

-- the text answers one of many requests, as it would be answered alone; or it says that this answer exceeds the limit, or might do so
abbrev pub AnswersOneOf : Spoken → ℕ → ℕ → GuardData → List ℕ → List ℕ → GuardData → Type 0
AnswersOneOf form put others old bytes text new =
    (FitsFrame put (length text) others × AnswersRequest form old bytes text new)
    ⊎ (IsOver form put others old bytes text new
    ⊎ (IsHeldBack form put others bytes text × (new ≡ old)))

-- the texts answer the requests, one after another, after so many bytes of answers and before so many answers
abbrev pub AnswersInTurn : Spoken → ℕ → ℕ → GuardData → List (List ℕ) → List (List ℕ) → GuardData → Type 0
AnswersInTurn form put behind old [] [] new = new ≡ old
AnswersInTurn form put behind old (bytes ∷ others) (text ∷ texts) new =
    (next : GuardData) × AnswersOneOf form put (length others + behind) old bytes text next
    × AnswersInTurn form (put + (4 + length text)) behind next others texts new
AnswersInTurn form put behind old [] (text ∷ texts) new = ⊥
AnswersInTurn form put behind old (bytes ∷ others) [] new = ⊥

-- The bytes are the frames of requests, of which there are few enough, and the text is those of their answers, one after another.
pub record AnswersAll (form : Spoken) (old : GuardData) (bytes text : List ℕ) (new : GuardData) : Type 0 where
  pub frames : List (List ℕ)
  pub texts : List (List ℕ)
  pub asked : AreInside bytes frames
  pub few : 21 * length frames ≤ 2 ^ 26
  pub answered : AnswersInTurn form 0 0 old frames texts new
  pub told : AreInside text texts
  pub within : length text ≤ 2 ^ 26

-- The bytes are the frames of requests, of which there are too many for short answers within the limit. None is carried out.
pub record AreTooMany (form : Spoken) (old : GuardData) (bytes text : List ℕ) (new : GuardData) : Type 0 where
  pub frames : List (List ℕ)
  pub asked : AreInside bytes frames
  pub exceed : 2 ^ 26 < 21 * length frames
  pub is : text ≡ form.over
  pub same : new ≡ old

-- many requests are answered one after another; where they are too many, or there was no room for their answers, or they are no frames,
-- nothing changes
abbrev pub AnswersMany : Spoken → GuardData → List ℕ → List ℕ → GuardData → Type 0
AnswersMany form old bytes text new =
    ((text ≡ form.memory) × (new ≡ old))
    ⊎ ((((frames : List (List ℕ)) → AreInside bytes frames → ⊥) × (text ≡ form.fault fault.Form) × (new ≡ old))
    ⊎ (AreTooMany form old bytes text new
    ⊎ AnswersAll form old bytes text new))

-- the text answers the bytes of one request, or of many
abbrev pub AnswersThese : Spoken → Option (List ℕ) → GuardData → List ℕ → List ℕ → GuardData → Type 0
AnswersThese form None old bytes text new = AnswersRequest form old bytes text new
AnswersThese form (Some inside) old bytes text new = AnswersMany form old inside text new

-- the text answers the bytes
abbrev pub IsAnswerBy : Spoken → GuardData → List ℕ → List ℕ → GuardData → Type 0
IsAnswerBy form old bytes text new = AnswersThese form (form.many bytes) old bytes text new

-- the text with its LF answers the line without its own
abbrev pub IsAnswer : GuardData → List ℕ → List ℕ → GuardData → Type 0
IsAnswer old line text new = IsAnswerBy by_lines old line text new

-- the bytes of a frame answer those of another one
abbrev pub IsFrameAnswer : GuardData → List ℕ → List ℕ → GuardData → Type 0
IsFrameAnswer old frame text new = IsAnswerBy by_frames old frame text new

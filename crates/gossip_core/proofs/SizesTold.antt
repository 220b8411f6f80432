-- The delta of which a size is returned, before it is made.
use Rattle.std.proofs.Common.{◌≡◌, ℕ, ◌<◌, ◌≤◌, min, List, [], length, refl}
use Rattle.std.specs.List.{AllByRecursion}
use Rattle.redo_core.specs.Data.{RecordData}
use Rattle.redo_core.specs.Meaning.{ImageData}
use Rattle.redo_core.specs.Order.{Lists, RecordBefore}
use Rattle.redo_core.specs.Shape.{page_len}
use Rattle.messages.specs.Summaries.{SummaryData}
use Rattle.messages.specs.Deltas.{delta_of}
use Rattle.redo_wire.specs.Deltas.{delta_bytes}
use Rattle.segment_theorems.specs.State.{State}
use Rattle.segment_theorems.specs.HasMeaning.{HasAnchor}
use Rattle.segment_theorems.specs.Laws.{SameAnchor}
use Rattle.segment_theorems.specs.Gossip.{ReplyFills}
use Rattle.segment_core.specs.StoredPages.{CountsShown}
use Rattle.gossip_core.specs.Replying.{IsSent, SendsRecords, SendsPages, AnswersSummary}
use Rattle.gossip_core.specs.Sizes.{IsSizeOf, IsReplySize}
use Rattle.gossip_core.proofs.Filling.{fills, answers_short, answers_whole}

-- so many bytes have the deltas of the book, so many pages and the records
abbrev pub SizesDeltas : State → ℕ → List RecordData → ℕ → Type 0
SizesDeltas s pages records size =
    (base : ℕ) (images : List ImageData) → length images ≡ pages → AllByRecursion (λ p. length p.bytes ≡ page_len) images
    → size ≡ length (delta_bytes (delta_of s.book base images records))

pub records_size : (s : State) (summary : SummaryData) (anchor : ℕ) (records : List RecordData) (size : ℕ) → HasAnchor s anchor
    → Lists RecordBefore (IsSent s (min anchor summary.anchor) summary.keys) records → SizesDeltas s 0 records size
    → IsSizeOf (SendsRecords s summary) size
records_size s summary anchor records size own lists sizes = (
  delta_of s.book 0 [] records,
  record { book = refl; base = refl; pages = refl; anchor = anchor; own = own; records = lists },
  sizes 0 [] refl tt,
)

pub pages_size : (s : State) (summary : SummaryData) (anchor count : ℕ) (records : List RecordData) (size : ℕ) → HasAnchor s anchor
    → CountsShown s count → Lists RecordBefore (IsSent s anchor summary.keys) records → SizesDeltas s count records size
    → IsSizeOf (SendsPages s summary) size
pages_size s summary anchor count records size own counts lists sizes = (
  delta_of s.book anchor counts.0 records,
  record { book = refl; base = own; pages = counts.1 anchor own; records = lists },
  sizes anchor counts.0 counts.3 counts.2,
)

pub short_size : ReplyFills → SameAnchor → (s : State) (summary : SummaryData) (size : ℕ) → s.base ≤ summary.anchor
    → IsSizeOf (SendsRecords s summary) size → IsReplySize s summary size
short_size law same s summary size low is =
    let a : AnswersSummary s summary is.0 = answers_short s summary is.0 low is.1 in
    record { delta = is.0; answers = a; fills = fills law same s summary is.0 a; is = is.2 }

pub whole_size : ReplyFills → SameAnchor → (s : State) (summary : SummaryData) (size : ℕ) → summary.anchor < s.base
    → IsSizeOf (SendsPages s summary) size → IsReplySize s summary size
whole_size law same s summary size high is =
    let a : AnswersSummary s summary is.0 = answers_whole s summary is.0 high is.1 in
    record { delta = is.0; answers = a; fills = fills law same s summary is.0 a; is = is.2 }

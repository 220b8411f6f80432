-- A reply to a summary under a limit on its size.
use Rattle.std.proofs.Common.{◌≡◌, ℕ, ◌<◌, ◌≤◌, ◌⊎◌, ◌↔◌, ltb, true, false, refl, sym, ap, subst, arith, Result, Ok, Err, IfOk}
use Rattle.std.proofs.lemmas.Bool.Decides.{nat_tests}
use Rattle.messages.specs.Summaries.{SummaryData}
use Rattle.messages.specs.Deltas.{DeltaData}
use Rattle.segment_theorems.specs.State.{State}
use Rattle.segment_core.specs.Forgetting.{IsSoundState, IsWhole, IsFirstBreak}
use Rattle.segment_core.specs.declared.answers.ReadFault.{ReadFault}
use Rattle.segment_core.specs.declared.answers.ReadFault.TheVariants as fault
use Rattle.gossip_core.specs.Replying.{IsLeastBreak, AnswersSummary}
use Rattle.gossip_core.specs.Sizes.{delta_len, IsReplySize}
use Rattle.gossip_core.proofs.OneReply.{one_reply}
use Rattle.replica.specs.declared.replies.Reply.{Reply}
use Rattle.replica.specs.declared.replies.Reply.TheVariants as reply
use Rattle.replica.specs.Replying.{delta_reply, fault_reply}
use Rattle.replica.specs.Gossiping.{TellsDelta, RepliesWithin, limited_reply}

-- a broken chain is reported exactly where pages are to be sent and there is one
abbrev pub ReportsBroken : (A : Type 0) → State → SummaryData → Result A ReadFault → Type 0
ReportsBroken A s summary answer =
    (page n : ℕ) → (answer ≡ Err (fault.BrokenBlockChain page n)) ↔ ((summary.anchor < s.base) × IsFirstBreak s page n)

-- a delta that is moved reports what it reported
pub still_whole : (A B : Type 0) (s : State) (summary : SummaryData) (a : A) (b : B) → ReportsBroken A s summary (Ok a) → ReportsBroken B s summary (Ok b)
still_whole A B s summary a b broken = λ page n. (
  λ (e : Ok b ≡ Err (fault.BrokenBlockChain page n)). absurd (cc),
  λ h. let e : Ok a ≡ Err (fault.BrokenBlockChain page n) = (broken page n).1 h in absurd (cc),
)

-- and one for which there is no memory was whole
pub lost_whole : (A B : Type 0) (s : State) (summary : SummaryData) (a : A) → ReportsBroken A s summary (Ok a)
    → ReportsBroken B s summary (Err fault.Memory)
lost_whole A B s summary a broken = λ page n. (
  λ (e : Err fault.Memory ≡ Err (fault.BrokenBlockChain page n)). absurd (cc),
  λ h. let e : Ok a ≡ Err (fault.BrokenBlockChain page n) = (broken page n).1 h in absurd (cc),
)

is_large : (most : ℕ) (d : DeltaData) → most < delta_len d → reply.Large ≡ limited_reply most (reply.Delta d)
is_large most d lt = let n = delta_len d in let t : ltb most n ≡ true = grind (arith, nat_tests) in rw t refl

fits : (most : ℕ) (d : DeltaData) → delta_len d ≤ most → reply.Delta d ≡ limited_reply most (reply.Delta d)
fits most d le = let n = delta_len d in let t : ltb most n ≡ false = grind (arith, nat_tests) in rw t refl

no_delta : (most : ℕ) (f : ReadFault) → fault_reply f ≡ limited_reply most (fault_reply f)
no_delta most (fault.Below min) = refl
no_delta most (fault.Above complete) = refl
no_delta most (fault.BrokenBlockChain page number) = refl
no_delta most fault.Memory = refl

-- the delta has more bytes than it may have
pub too_large : (s : State) (summary : SummaryData) (most size : ℕ) → IsReplySize s summary size → (summary.anchor < s.base → IsWhole s)
    → ReportsBroken ℕ s summary (Ok size) → most < size → RepliesWithin s summary most reply.Large
too_large s summary most size is whole broken lt = record {
  whole = reply.Delta is.delta;
  replies = record {
    answer = Ok is.delta;
    replies = record {
      fills = is.fills;
      sound = tt;
      answers = is.answers;
      refused = tt;
      whole = whole;
      broken = still_whole ℕ DeltaData s summary size is.delta broken;
    };
    is = refl;
  };
  is = is_large most is.delta (subst (λ n. most < n) is.is lt);
}

fits_by : (most : ℕ) (answer : Result DeltaData ReadFault) → IfOk answer (λ d. delta_len d ≤ most) → delta_reply answer ≡ limited_reply most (delta_reply answer)
fits_by most (Ok d) le = fits most d le
fits_by most (Err f) le = no_delta most f

sized : (s : State) (summary : SummaryData) (most size : ℕ) (answer : Result DeltaData ReadFault) → IsReplySize s summary size → size ≤ most
    → IfOk answer (AnswersSummary s summary) → IfOk answer (λ d. delta_len d ≤ most)
sized s summary most size (Ok d) is le answers =
    subst (λ n. n ≤ most) (ap delta_len (one_reply s summary is.delta d is.answers answers)) (subst (λ n. n ≤ most) is.is le)
sized s summary most size (Err f) is le answers = tt

-- the delta has no more
pub not_large : (s : State) (summary : SummaryData) (most size : ℕ) (told : Reply) → IsReplySize s summary size → size ≤ most → TellsDelta s summary told
    → RepliesWithin s summary most told
not_large s summary most size told is le replies = record {
  whole = told;
  replies = replies;
  is = subst (λ r. r ≡ limited_reply most r) (sym replies.is) (fits_by most replies.answer (sized s summary most size replies.answer is le replies.replies.answers));
}

-- there is no delta
pub unsized : (s : State) (summary : SummaryData) (most : ℕ) (f : ReadFault) → (IsSoundState s → f ≡ fault.Memory)
    → ((f ≡ fault.Memory) ⊎ ((summary.anchor < s.base) × IsLeastBreak s f)) → ReportsBroken ℕ s summary (Err f)
    → RepliesWithin s summary most (fault_reply f)
unsized s summary most f sound refused broken = record {
  whole = fault_reply f;
  replies = record {
    answer = Err f;
    replies = record {
      fills = tt;
      sound = sound;
      answers = tt;
      refused = refused;
      whole = tt;
      broken = λ page n. (
        λ (e : Err f ≡ Err (fault.BrokenBlockChain page n)). (broken page n).0 (let g : f ≡ fault.BrokenBlockChain page n = cc in ap (λ x. Err x) g),
        λ h. let e : Err f ≡ Err (fault.BrokenBlockChain page n) = (broken page n).1 h in let g : f ≡ fault.BrokenBlockChain page n = cc in ap (λ x. Err x) g,
      );
    };
    is = refl;
  };
  is = no_delta most f;
}

-- What a reply says of the request that it answers, and of the node that gave it.
use Rattle.std.proofs.Common.{◌≡◌, ℕ, ⊎_elim, IsTrue, Option, refl, sym, ◌∙◌, subst, ap}
use Rattle.redo_core.specs.Data.{CutData}
use Rattle.replica.specs.declared.requests.Request.{Request as SegmentRequest}
use Rattle.replica.specs.declared.replies.Reply.{Reply as SegmentReply}
use Rattle.replica.specs.Machine.{IsReply}
use Rattle.guard.specs.declared.requests.AcceptedCut.{AcceptedCut}
use Rattle.guard.specs.declared.requests.Request.{Request}
use Rattle.guard.specs.declared.requests.Request.TheVariants as request
use Rattle.guard.specs.declared.replies.Reply.TheVariants as reply
use Rattle.guard.specs.Data.{GuardData}
use Rattle.guard.specs.Guarding.{IsUnder, NamesNode, IsGuardReply}

-- ---- `fenced`
fenced_no_name : (g : GuardData) (generation birth : ℕ) (accepted : Option AcceptedCut) → NamesNode g (reply.Fenced generation birth accepted) → ⊥
fenced_no_name g generation birth accepted names = ⊎_elim
    (λ member. let no : reply.Fenced generation birth accepted ≡ reply.Stale g.generation = member.1 in absurd (cc))
    (λ fresh. let no : reply.Fenced generation birth accepted ≡ reply.Fresh g.birth = fresh.1 in absurd (cc))
    names

same_fenced : (g b h c : ℕ) (a d : Option AcceptedCut) → reply.Fenced g b a ≡ reply.Fenced h c d → (b ≡ c) × (a ≡ d)
same_fenced g b h c a d same = let one : b ≡ c = cc in let two : a ≡ d = cc in (one, two)

-- the node's birth, and what it had accepted
pub fenced_says : (old : GuardData) (asked : Request) (generation birth : ℕ) (accepted : Option AcceptedCut) (new : GuardData)
    → IsGuardReply old asked (reply.Fenced generation birth accepted) new → (birth ≡ old.birth) × (accepted ≡ old.accepted)
fenced_says old request.Status generation birth accepted new says =
    let no : reply.Fenced generation birth accepted ≡ reply.Status old.generation old.birth old.is_member says.0 old.accepted = says.2 in absurd (cc)
fenced_says old (request.Fence g) generation birth accepted new says = ⊎_elim
    (λ yes. same_fenced generation birth g old.birth accepted old.accepted yes.1)
    (λ no. absurd (fenced_no_name old generation birth accepted no.1.0))
    says
fenced_says old (request.As g b asked) generation birth accepted new says = ⊎_elim
    (λ no. let clash : reply.Fenced generation birth accepted ≡ reply.Unguarded = no.1 in absurd (cc))
    (λ may. ⊎_elim
    (λ yes. let clash : reply.Fenced generation birth accepted ≡ reply.Headed g b yes.3.0 = yes.3.2 in absurd (cc))
    (λ no. absurd (fenced_no_name old generation birth accepted no.2.0))
    may)
    says
fenced_says old (request.Propose g b cut) generation birth accepted new says = ⊎_elim
    (λ yes. let clash : reply.Fenced generation birth accepted ≡ reply.Accepted g b cut.epoch = yes.2 in absurd (cc))
    (λ no. absurd (fenced_no_name old generation birth accepted no.1.0))
    says
fenced_says old (request.Admit asked) generation birth accepted new says = ⊎_elim
    (λ no. let clash : reply.Fenced generation birth accepted ≡ reply.Member = no.1 in absurd (cc))
    (λ out. ⊎_elim
    (λ no. let clash : reply.Fenced generation birth accepted ≡ reply.Stranger old.birth = no.2 in absurd (cc))
    (λ known. ⊎_elim
    (λ yes. let clash : reply.Fenced generation birth accepted ≡ reply.Admitted asked.generation old.birth = yes.1 in absurd (cc))
    (λ no. let clash : reply.Fenced generation birth accepted ≡ reply.Behind known.2.0.epoch known.2.0.complete = no.1 in absurd (cc))
    known.2.2)
    out)
    says
fenced_says old (request.Plain asked) generation birth accepted new says = ⊎_elim
    (λ no. let clash : reply.Fenced generation birth accepted ≡ reply.Member = no.2 in absurd (cc))
    (λ yes. let clash : reply.Fenced generation birth accepted ≡ reply.Plain yes.2.0 = yes.2.2 in absurd (cc))
    says

-- ---- `fresh`
fresh_name : (g : GuardData) (birth : ℕ) → NamesNode g (reply.Fresh birth) → ¬ (IsTrue g.is_member) × (birth ≡ g.birth)
fresh_name g birth names = ⊎_elim
    (λ member. let no : reply.Fresh birth ≡ reply.Stale g.generation = member.1 in absurd (cc))
    (λ fresh. let told : reply.Fresh birth ≡ reply.Fresh g.birth = fresh.1 in (fresh.0, let same : birth ≡ g.birth = cc in same))
    names

-- the node is no member, and the birth is its own
pub fresh_says : (old : GuardData) (asked : Request) (birth : ℕ) (new : GuardData) → IsGuardReply old asked (reply.Fresh birth) new
    → ¬ (IsTrue old.is_member) × (birth ≡ old.birth)
fresh_says old request.Status birth new says =
    let no : reply.Fresh birth ≡ reply.Status old.generation old.birth old.is_member says.0 old.accepted = says.2 in absurd (cc)
fresh_says old (request.Fence g) birth new says = ⊎_elim
    (λ yes. let clash : reply.Fresh birth ≡ reply.Fenced g old.birth old.accepted = yes.1 in absurd (cc))
    (λ no. fresh_name old birth no.1.0)
    says
fresh_says old (request.As g b asked) birth new says = ⊎_elim
    (λ no. let clash : reply.Fresh birth ≡ reply.Unguarded = no.1 in absurd (cc))
    (λ may. ⊎_elim
    (λ yes. let clash : reply.Fresh birth ≡ reply.Headed g b yes.3.0 = yes.3.2 in absurd (cc))
    (λ no. fresh_name old birth no.2.0)
    may)
    says
fresh_says old (request.Propose g b cut) birth new says = ⊎_elim
    (λ yes. let clash : reply.Fresh birth ≡ reply.Accepted g b cut.epoch = yes.2 in absurd (cc))
    (λ no. fresh_name old birth no.1.0)
    says
fresh_says old (request.Admit asked) birth new says = ⊎_elim
    (λ no. let clash : reply.Fresh birth ≡ reply.Member = no.1 in absurd (cc))
    (λ out. ⊎_elim
    (λ no. let clash : reply.Fresh birth ≡ reply.Stranger old.birth = no.2 in absurd (cc))
    (λ known. ⊎_elim
    (λ yes. let clash : reply.Fresh birth ≡ reply.Admitted asked.generation old.birth = yes.1 in absurd (cc))
    (λ no. let clash : reply.Fresh birth ≡ reply.Behind known.2.0.epoch known.2.0.complete = no.1 in absurd (cc))
    known.2.2)
    out)
    says
fresh_says old (request.Plain asked) birth new says = ⊎_elim
    (λ no. let clash : reply.Fresh birth ≡ reply.Member = no.2 in absurd (cc))
    (λ yes. let clash : reply.Fresh birth ≡ reply.Plain yes.2.0 = yes.2.2 in absurd (cc))
    says

-- ---- what a replica replied
headed_no_name : (g : GuardData) (generation birth : ℕ) (told : SegmentReply) → NamesNode g (reply.Headed generation birth told) → ⊥
headed_no_name g generation birth told names = ⊎_elim
    (λ member. let no : reply.Headed generation birth told ≡ reply.Stale g.generation = member.1 in absurd (cc))
    (λ fresh. let no : reply.Headed generation birth told ≡ reply.Fresh g.birth = fresh.1 in absurd (cc))
    names

-- the request was asked under this generation and birth, which the node was of, and its replica replied so
pub record IsHeaded (old new : GuardData) (asked : Request) (generation birth : ℕ) (told : SegmentReply) : Type 0 where
  pub inner : SegmentRequest
  pub asked_is : asked ≡ request.As generation birth inner
  pub under : IsUnder old generation birth
  pub replies : IsReply old.replica inner told new.replica

same_headed : (g b h c : ℕ) (x y : SegmentReply) → reply.Headed g b x ≡ reply.Headed h c y → (g ≡ h) × (b ≡ c) × (x ≡ y)
same_headed g b h c x y same = let one : g ≡ h = cc in let two : b ≡ c = cc in let three : x ≡ y = cc in (one, two, three)

as_headed : (old new : GuardData) (g b h c : ℕ) (inner : SegmentRequest) (x y : SegmentReply) → IsUnder old h c → IsReply old.replica inner y new.replica
    → reply.Headed g b x ≡ reply.Headed h c y → IsHeaded old new (request.As h c inner) g b x
as_headed old new g b h c inner x y under replies same =
    let parts = same_headed g b h c x y same in record {
      inner = inner;
      asked_is = ap (λ (n : ℕ). request.As n c inner) (sym parts.0) ∙ ap (λ (n : ℕ). request.As g n inner) (sym parts.1);
      under = subst (λ (n : ℕ). IsUnder old n b) (sym parts.0) (subst (λ (n : ℕ). IsUnder old h n) (sym parts.1) under);
      replies = subst (λ (z : SegmentReply). IsReply old.replica inner z new.replica) (sym parts.2) replies;
    }

pub headed_says : (old : GuardData) (asked : Request) (generation birth : ℕ) (told : SegmentReply) (new : GuardData)
    → IsGuardReply old asked (reply.Headed generation birth told) new → IsHeaded old new asked generation birth told
headed_says old request.Status generation birth told new says =
    let no : reply.Headed generation birth told ≡ reply.Status old.generation old.birth old.is_member says.0 old.accepted = says.2 in absurd (cc)
headed_says old (request.Fence g) generation birth told new says = ⊎_elim
    (λ yes. let clash : reply.Headed generation birth told ≡ reply.Fenced g old.birth old.accepted = yes.1 in absurd (cc))
    (λ no. absurd (headed_no_name old generation birth told no.1.0))
    says
headed_says old (request.As g b asked) generation birth told new says = ⊎_elim
    (λ no. let clash : reply.Headed generation birth told ≡ reply.Unguarded = no.1 in absurd (cc))
    (λ may. ⊎_elim
    (λ yes. as_headed old new generation birth g b asked told yes.3.0 yes.1 yes.3.1 yes.3.2)
    (λ no. absurd (headed_no_name old generation birth told no.2.0))
    may)
    says
headed_says old (request.Propose g b cut) generation birth told new says = ⊎_elim
    (λ yes. let clash : reply.Headed generation birth told ≡ reply.Accepted g b cut.epoch = yes.2 in absurd (cc))
    (λ no. absurd (headed_no_name old generation birth told no.1.0))
    says
headed_says old (request.Admit asked) generation birth told new says = ⊎_elim
    (λ no. let clash : reply.Headed generation birth told ≡ reply.Member = no.1 in absurd (cc))
    (λ out. ⊎_elim
    (λ no. let clash : reply.Headed generation birth told ≡ reply.Stranger old.birth = no.2 in absurd (cc))
    (λ known. ⊎_elim
    (λ yes. let clash : reply.Headed generation birth told ≡ reply.Admitted asked.generation old.birth = yes.1 in absurd (cc))
    (λ no. let clash : reply.Headed generation birth told ≡ reply.Behind known.2.0.epoch known.2.0.complete = no.1 in absurd (cc))
    known.2.2)
    out)
    says
headed_says old (request.Plain asked) generation birth told new says = ⊎_elim
    (λ no. let clash : reply.Headed generation birth told ≡ reply.Member = no.2 in absurd (cc))
    (λ yes. let clash : reply.Headed generation birth told ≡ reply.Plain yes.2.0 = yes.2.2 in absurd (cc))
    says

-- ---- `accepted`
accepted_no_name : (g : GuardData) (generation birth epoch : ℕ) → NamesNode g (reply.Accepted generation birth epoch) → ⊥
accepted_no_name g generation birth epoch names = ⊎_elim
    (λ member. let no : reply.Accepted generation birth epoch ≡ reply.Stale g.generation = member.1 in absurd (cc))
    (λ fresh. let no : reply.Accepted generation birth epoch ≡ reply.Fresh g.birth = fresh.1 in absurd (cc))
    names

same_accepted : (g b k h c j : ℕ) → reply.Accepted g b k ≡ reply.Accepted h c j → j ≡ k
same_accepted g b k h c j same = cc

-- the request proposed a truncation of the epoch
pub record IsProposed (asked : Request) (epoch : ℕ) : Type 0 where
  pub generation : ℕ
  pub birth : ℕ
  pub cut : CutData
  pub asked_is : asked ≡ request.Propose generation birth cut
  pub same : cut.epoch ≡ epoch

pub accepted_says : (old : GuardData) (asked : Request) (generation birth epoch : ℕ) (new : GuardData)
    → IsGuardReply old asked (reply.Accepted generation birth epoch) new → IsProposed asked epoch
accepted_says old request.Status generation birth epoch new says =
    let no : reply.Accepted generation birth epoch ≡ reply.Status old.generation old.birth old.is_member says.0 old.accepted = says.2 in absurd (cc)
accepted_says old (request.Fence g) generation birth epoch new says = ⊎_elim
    (λ yes. let clash : reply.Accepted generation birth epoch ≡ reply.Fenced g old.birth old.accepted = yes.1 in absurd (cc))
    (λ no. absurd (accepted_no_name old generation birth epoch no.1.0))
    says
accepted_says old (request.As g b asked) generation birth epoch new says = ⊎_elim
    (λ no. let clash : reply.Accepted generation birth epoch ≡ reply.Unguarded = no.1 in absurd (cc))
    (λ may. ⊎_elim
    (λ yes. let clash : reply.Accepted generation birth epoch ≡ reply.Headed g b yes.3.0 = yes.3.2 in absurd (cc))
    (λ no. absurd (accepted_no_name old generation birth epoch no.2.0))
    may)
    says
accepted_says old (request.Propose g b cut) generation birth epoch new says = ⊎_elim
    (λ yes. record {
      generation = g;
      birth = b;
      cut = cut;
      asked_is = refl;
      same = same_accepted generation birth epoch g b cut.epoch yes.2;
    })
    (λ no. absurd (accepted_no_name old generation birth epoch no.1.0))
    says
accepted_says old (request.Admit asked) generation birth epoch new says = ⊎_elim
    (λ no. let clash : reply.Accepted generation birth epoch ≡ reply.Member = no.1 in absurd (cc))
    (λ out. ⊎_elim
    (λ no. let clash : reply.Accepted generation birth epoch ≡ reply.Stranger old.birth = no.2 in absurd (cc))
    (λ known. ⊎_elim
    (λ yes. let clash : reply.Accepted generation birth epoch ≡ reply.Admitted asked.generation old.birth = yes.1 in absurd (cc))
    (λ no. let clash : reply.Accepted generation birth epoch ≡ reply.Behind known.2.0.epoch known.2.0.complete = no.1 in absurd (cc))
    known.2.2)
    out)
    says
accepted_says old (request.Plain asked) generation birth epoch new says = ⊎_elim
    (λ no. let clash : reply.Accepted generation birth epoch ≡ reply.Member = no.2 in absurd (cc))
    (λ yes. let clash : reply.Accepted generation birth epoch ≡ reply.Plain yes.2.0 = yes.2.2 in absurd (cc))
    says

use Rattle.std.proofs.Common.{◌≡◌, List, refl, subst}
use Rattle.std.specs.Option.{option_copied}
use Rattle.fleet_core.specs.declared.replies.Reply.TheVariants.{Front as FrontIs, NoNode, NoMessage}
use Rattle.fleet_core.specs.declared.making.Made.{Made}
use Rattle.fleet_core.specs.MessageCalls.{AbsorbsNumber}
use Rattle.fleet_core.proofs.Following.{follows_front, follows_read}
use Rattle.fleet_core.proofs.Carrying.{own_step, take_step, never_no_node, never_no_message, ask_step, answer_step, absorb_step}
use Rattle.fleet_core.proofs.fleets.carry_out.Goals as goal

pub returns-in-Take : goal.returns-in-Take
returns-in-Take c =
    rw c.in-Take.is (take_step c.args.roster _ (option_copied c.args.other) _ c.in-Take.node _ _ _ c.take_copy.ensures)

pub returns-in-Fold : goal.returns-in-Fold
returns-in-Fold c =
    let e = c.fold_page.ensures in
    let other = option_copied c.args.other in
    rw c.in-Fold.is
    (own_step c.args.roster _ other _ _ _ _ (λ told facts. refl) refl (e.follows c.args.roster c.in-Fold.node other) (e.calls, refl) e.found e.named e.refused)

pub returns-in-Front : goal.returns-in-Front
returns-in-Front c =
    let e = c.front.ensures in
    let other = option_copied c.args.other in
    rw c.in-Front.is
    (own_step c.args.roster _ other _ _ (FrontIs c.front.result) _ (λ told facts. refl) refl
    (follows_front c.args.roster other _ c.in-Front.node _ e.front) (record { front = c.front.result; own = e.own; told = refl }, refl, refl)
    (λ node (is : FrontIs c.front.result ≡ NoNode node). absurd (cc))
    (λ number (is : FrontIs c.front.result ≡ NoMessage number). absurd (cc)) (λ refused. absurd refused))

pub returns-in-Read : goal.returns-in-Read
returns-in-Read c =
    let e = c.read.ensures in
    let other = option_copied c.args.other in
    rw c.in-Read.is
    (own_step c.args.roster _ other _ _ _ _ (λ told facts. refl) refl
    (follows_read c.args.roster other _ c.in-Read.node _ _ c.in-Read.offset c.in-Read.len _ _ e.result c.read_reply.ensures)
    (record { answer = c.read.result; own = e.own; outside = e.outside; broken = e.broken; told = c.read_reply.ensures }, refl, refl)
    (never_no_node c.read.result c.read_reply.result c.read_reply.ensures) (never_no_message c.read.result c.read_reply.result c.read_reply.ensures)
    (λ refused. refl))

pub returns-in-Join : goal.returns-in-Join
returns-in-Join c =
    let e = c.join_beside.ensures in
    let other = option_copied c.args.other in
    rw c.in-Join.is
    (own_step c.args.roster _ other _ _ _ _ (λ told facts. refl) refl
    (e.follows c.args.roster c.in-Join.node c.in-Join.from) (e.calls, refl) e.found e.named e.refused)

pub returns-in-Same : goal.returns-in-Same
returns-in-Same c =
    let e = c.same_beside.ensures in
    let other = option_copied c.args.other in
    rw c.in-Same.is
    (own_step c.args.roster _ other _ _ _ _ (λ told facts. refl) refl
    (e.follows c.args.roster c.in-Same.node c.in-Same.other) (e.calls, refl, refl) e.found e.named (λ refused. refl))

pub returns-in-Covers : goal.returns-in-Covers
returns-in-Covers c =
    let e = c.covers_beside.ensures in
    let other = option_copied c.args.other in
    rw c.in-Covers.is
    (own_step c.args.roster _ other _ _ _ _ (λ told facts. refl) refl
    (e.follows c.args.roster c.in-Covers.node c.in-Covers.other) (e.calls, refl, refl) e.found e.named (λ refused. refl))

pub returns-in-Wipe : goal.returns-in-Wipe
returns-in-Wipe c =
    let e = c.wipe.ensures in
    let other = option_copied c.args.other in
    rw c.in-Wipe.is
    (own_step c.args.roster _ other _ _ _ _ (λ told facts. refl) refl
    (e.follows c.in-Wipe.node other) (e.calls, refl) e.found e.named e.refused)

pub returns-in-Ask : goal.returns-in-Ask
returns-in-Ask c = rw c.in-Ask.is (ask_step c.args.roster _ (option_copied c.args.other) _ c.in-Ask.node _ _ c.ask.ensures.calls)

pub returns-in-Answer : goal.returns-in-Answer
returns-in-Answer c =
    rw c.in-Answer.is
    (answer_step c.args.roster _ (option_copied c.args.other) _ c.in-Answer.node c.in-Answer.message _ _ c.answer_question.ensures.calls)

pub returns-in-Absorb : goal.returns-in-Absorb
returns-in-Absorb c =
    let same : c.deref.result.now ≡ c.args.messages.now.items = c.deref.ensures.value in
    let calls = subst (λ (made : List Made). AbsorbsNumber c.args.segment.now made c.in-Absorb.message c.absorb_answer.result c.absorb_answer.new.segment) same
    c.absorb_answer.ensures.calls in
    rw c.in-Absorb.is (absorb_step c.args.roster _ (option_copied c.args.other) _ c.in-Absorb.node c.in-Absorb.message _ _ calls)

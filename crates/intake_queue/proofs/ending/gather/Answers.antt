use Rattle.std.proofs.Common.{rules, ◌≡◌, ◌++◌, ◌∷◌, [], inl, inr, ⊎_elim, ℕ, sym, ap, ◌∙◌, subst}
use Rattle.std.specs.List.{Contains}
use Rattle.std.proofs.lemmas.List.Elements.{Contains-push, Contains-push_cases, Contains-append_left}
use Rattle.crossbeam_queue.specs.Passes.{view}
use Rattle.redo_core.proofs.Members.{none_in}
use Rattle.intake_queue.specs.Known.{taker}
use Rattle.intake_queue.specs.Ends.{SenderData}
use Rattle.intake_queue.proofs.Closing.{ends, as_taker, as_sender}
use Rattle.intake_queue.proofs.ending.gather.Goals as goal

pub absorb-requires-clause-queue : goal.absorb-requires-clause-queue
absorb-requires-clause-queue g c =
    let i = c.loop-sender.invariant in
    let sender = c.in-Some.sender in
    let last : c.loop-sender.senders.items ≡ c.pop.new.self.items ++ sender ∷ [] = c.in-Some.ensures.items in
    let own = i.senders sender (subst (λ xs. Contains xs sender) (sym last) (Contains-push c.pop.new.self.items sender)) in
    (i.own, (ap (λ s. s.intake) c.sender.view_is ∙ own, c.sender.invariant.0))

pub absorb-requires-clause-rule : goal.absorb-requires-clause-rule
absorb-requires-clause-rule g c = search (rules, ends, as_sender)

pub loop-sender-preserved : goal.loop-sender-preserved
loop-sender-preserved g c =
    let i = c.loop-sender.invariant in
    let sender = c.in-Some.sender in
    let rest = c.pop.new.self.items in
    let last : c.loop-sender.senders.items ≡ rest ++ sender ∷ [] = c.in-Some.ensures.items in
    let v = view c.loop-sender.pass in
    let w = view c.sender.inside.pass in
    let all = v.ended ++ (w.number, w.accepted) ∷ [] in
    let now : view c.absorb.new.pass ≡ taker v.taken v.senders v.made all v.accepted_counts = c.absorb.ensures.rule in
    let ended : (view c.absorb.new.pass).ended ≡ all = ap (λ u. u.ended) now in
    let whose : (w.number, w.accepted) ≡ (sender.number, sender.accepted) =
    ap (λ (n : ℕ). (n, w.accepted)) (ap (λ u. u.number) c.sender.invariant.1) ∙ ap (λ s. (s.number, s.accepted)) c.sender.view_is in
    record {
      own = (c.absorb.ensures.queue.0 ∙ i.own.0, c.absorb.ensures.queue.2 ∙ i.own.1);
      senders = λ s h. i.senders s (subst (λ xs. Contains xs s) (sym last) (Contains-append_left rest (sender ∷ []) s h));
      taker = as_taker _ _ _ _ _ _ now;
      taken = (ap (λ u. u.taken) now ∙ i.taken.0, ap (λ u. u.senders) now ∙ i.taken.1);
      ended = λ s h. ⊎_elim
          (λ (q : Contains c.loop-sender.senders.items s). ⊎_elim
          (λ (r : Contains rest s). inl r)
          (λ (e : sender ≡ s). inr (subst (λ es. Contains es (s.number, s.accepted)) (sym ended)
          (subst (λ y. Contains all y) (whose ∙ ap (λ (y : SenderData). (y.number, y.accepted)) e) (Contains-push v.ended (w.number, w.accepted)))))
          (Contains-push_cases rest sender s (subst (λ xs. Contains xs s) last q)))
          (λ (q : Contains v.ended (s.number, s.accepted)). inr (subst (λ es. Contains es (s.number, s.accepted)) (sym ended)
          (Contains-append_left v.ended ((w.number, w.accepted) ∷ []) (s.number, s.accepted) q)))
          (i.ended s h);
    }

pub returns-clause-ended : goal.returns-clause-ended
returns-clause-ended g c = let none : c.loop-sender.senders.items ≡ [] = search rules in λ s h. ⊎_elim
    (λ (q : Contains c.loop-sender.senders.items s). absurd (none_in s (subst (λ xs. Contains xs s) none q)))
    (λ q. q)
    (c.loop-sender.invariant.ended s h)

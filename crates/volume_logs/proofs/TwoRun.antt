-- The run with two engines follows the rules of the protocol.
use Rattle.std.proofs.Common.{◌≡◌, ◌≢◌, ℕ, zero, suc, ◌<◌, ◌≤◌, ◌⊎◌, ⊎_elim, inl, inr, [], ◌∷◌, Some, None, refl, subst, arith}
use Rattle.std.specs.List.{Contains}
use Rattle.redo_core.specs.Data.{CutData}
use Rattle.redo_core.proofs.Members.{none_in, here, there, which, only}
use Rattle.volume_theorems.specs.Nodes.{HasNothing, VoteUpTo, GrowsTo}
use Rattle.volume_theorems.specs.Runs.{MakesMove, Many}
use Rattle.volume_theorems.specs.Runs.Move.{IsFenced, Accepts}
use Rattle.volume_theorems.specs.Opening.{HasGathered, HasShown, HasAsked, AnswersUnder, IsCutSent, IsUnion}
use Rattle.volume_theorems.specs.Proposing.{MayPropose}
use Rattle.volume_theorems.specs.Protocol.{Moves, FollowsProtocol}
use Rattle.volume_theorems.specs.Sample.{sample_cut, nothing, is_zero}
use Rattle.volume_theorems.proofs.Sample.{alone}
use Rattle.volume_theorems.proofs.Orders.{grows_itself, vote_itself}
use Rattle.volume_logs.specs.TwoWriters.{later_cut, committed, two_node, two_nodes, two_run}

-- what holds of node 0 holds of a quorum
pub many_of : (P : ℕ → Type 0) → P 0 → Many two_run P
many_of P has = (is_zero, omega arith, alone P has)

-- ---- the first engine
gathered_one : HasGathered two_run 0
gathered_one = record {
  many = omega arith;
  before = λ i among. omega arith;
  fenced = alone (λ (i : ℕ). MakesMove two_run 1 i (IsFenced 0)) (refl, refl);
}

shown_one : HasShown two_run 0 0 2
shown_one = record { after = omega arith; under = (refl, refl); birth = refl }

union_one : IsUnion two_run 0 4 nothing
union_one = record {
  gathered = gathered_one;
  of_all = alone (λ (i : ℕ). (p : ℕ) × (p < 4) × HasShown two_run 0 i p × GrowsTo (two_nodes p i).content nothing)
      (2, omega arith, shown_one, grows_itself nothing);
  sent = λ c inside. absurd (none_in c inside);
}

asked_one : (t : ℕ) → 2 < t → HasAsked two_run 0 t
asked_one t after = record {
  gathered = gathered_one;
  shown = alone (λ (i : ℕ). (p : ℕ) × (p < t) × HasShown two_run 0 i p) (2, after, shown_one);
}

proposes_one : MayPropose two_run 0 1 4
proposes_one = record {
  union = nothing;
  unites = union_one;
  next = refl;
  of_epoch = refl;
  known = many_of (λ (i : ℕ). (s : ℕ) × (s < 4) × AnswersUnder two_run 0 s i
      × ((two_nodes s i).content.epoch ≡ 0) × Contains (two_nodes s i).content.points 0)
      (3, omega arith, record { asked = asked_one 3 (omega arith); under = (refl, refl) }, refl, here 0 []);
  best = None;
  greatest = record { of_one = (0, refl, refl); above = alone (λ (i : ℕ). VoteUpTo (two_nodes 1 i).accepted None) tt };
  choice = inr (record {
    opens = refl;
    free = λ of. of;
    lo = here 0 [];
    last = λ p inside. let itself : 0 ≡ p = only 0 p inside in omega arith;
    hi = omega arith;
  });
}

pub accepted_one : (t : ℕ) → 4 < t → Many two_run (λ i. (s : ℕ) × (s < t) × MakesMove two_run s i (Accepts 0 1))
accepted_one t after = many_of (λ (i : ℕ). (s : ℕ) × (s < t) × MakesMove two_run s i (Accepts 0 1)) (4, after, (refl, refl))

pub sent_one : (t : ℕ) → 4 < t → IsCutSent two_run t sample_cut
sent_one t after = (0, refl, accepted_one t after)

sent_first : (t : ℕ) (c : CutData) → 4 < t → Contains (sample_cut ∷ []) c → IsCutSent two_run t c
sent_first t c after inside = subst (λ (x : CutData). IsCutSent two_run t x) (only sample_cut c inside) (sent_one t after)

-- ---- the second engine
gathered_two : HasGathered two_run 1
gathered_two = record {
  many = omega arith;
  before = λ i among. omega arith;
  fenced = alone (λ (i : ℕ). MakesMove two_run 7 i (IsFenced 1)) (refl, refl);
}

shown_two : HasShown two_run 1 0 8
shown_two = record { after = omega arith; under = (refl, refl); birth = refl }

union_two : IsUnion two_run 1 10 committed
union_two = record {
  gathered = gathered_two;
  of_all = alone (λ (i : ℕ). (p : ℕ) × (p < 10) × HasShown two_run 1 i p × GrowsTo (two_nodes p i).content committed)
      (8, omega arith, shown_two, grows_itself committed);
  sent = λ c inside. sent_first 10 c (omega arith) inside;
}

asked_two : HasAsked two_run 1 9
asked_two = record {
  gathered = gathered_two;
  shown = alone (λ (i : ℕ). (p : ℕ) × (p < 9) × HasShown two_run 1 i p) (8, omega arith, shown_two);
}

upto_seven : (p : ℕ) → Contains (0 ∷ 7 ∷ []) p → p ≤ 7
upto_seven p inside = ⊎_elim
    (λ (none : 0 ≡ p). omega arith)
    (λ (rest : Contains (7 ∷ []) p). let itself : 7 ≡ p = only 7 p rest in omega arith)
    (which 0 (7 ∷ []) p inside)

proposes_two : MayPropose two_run 1 2 10
proposes_two = record {
  union = committed;
  unites = union_two;
  next = refl;
  of_epoch = refl;
  known = many_of (λ (i : ℕ). (s : ℕ) × (s < 10) × AnswersUnder two_run 1 s i
      × ((two_nodes s i).content.epoch ≡ 1) × Contains (two_nodes s i).content.points 7)
      (9, omega arith, record { asked = asked_two; under = (refl, refl) }, refl, there 0 (7 ∷ []) 7 (here 7 []));
  best = Some (record { generation = 2; cut = sample_cut });
  greatest = record {
    of_one = (0, refl, refl);
    above = alone (λ (i : ℕ). VoteUpTo (two_nodes 7 i).accepted (Some (record { generation = 2; cut = sample_cut })))
        (vote_itself (Some (record { generation = 2; cut = sample_cut })));
  };
  choice = inr (record {
    opens = refl;
    free = λ (of : 1 ≡ 2). omega arith;
    lo = there 0 (7 ∷ []) 7 (here 7 []);
    last = λ p inside. upto_seven p inside;
    hi = omega arith;
  });
}

pub accepted_two : (t : ℕ) → 10 < t → Many two_run (λ i. (s : ℕ) × (s < t) × MakesMove two_run s i (Accepts 1 2))
accepted_two t after = many_of (λ (i : ℕ). (s : ℕ) × (s < t) × MakesMove two_run s i (Accepts 1 2)) (10, after, (refl, refl))

pub sent_two : (t : ℕ) → 10 < t → IsCutSent two_run t later_cut
sent_two t after = (1, refl, accepted_two t after)

-- ---- the node
begins_two : (i : ℕ) → HasNothing (two_nodes 0 i)
begins_two zero = record { member = λ e. absurd (cc); generation = refl; accepted = refl; epoch = refl; points = refl; cuts = refl }
begins_two (suc i) = record { member = λ e. absurd (cc); generation = refl; accepted = refl; epoch = refl; points = refl; cuts = refl }

second_comes : (c : CutData) → Contains (sample_cut ∷ later_cut ∷ []) c → Contains (sample_cut ∷ []) c ⊎ IsCutSent two_run 11 c
second_comes c inside = ⊎_elim
    (λ (old : sample_cut ≡ c). inl (subst (λ (x : CutData). Contains (sample_cut ∷ []) x) old (here sample_cut [])))
    (λ (new : Contains (later_cut ∷ []) c).
    inr (subst (λ (x : CutData). IsCutSent two_run 11 x) (only later_cut c new) (sent_two 11 (omega arith))))
    (which sample_cut (later_cut ∷ []) c inside)

two_goes : (t : ℕ) → Moves two_run t 0 (two_run.moves t) (two_node t) (two_node (suc t))
two_goes zero = record { out = λ e. absurd (cc); birth = refl; new_is = refl }
two_goes (suc zero) = record { member = refl; above = omega arith; new_is = refl }
two_goes (suc (suc zero)) = refl
two_goes (suc (suc (suc zero))) = refl
two_goes (suc (suc (suc (suc zero)))) = record { under = (refl, refl); proposed = proposes_one; latest = λ later. later; new_is = refl }
two_goes (suc (suc (suc (suc (suc zero))))) = record {
  same = refl;
  grows = record { epoch = omega arith; cuts = λ c inside. absurd (none_in c inside); points = λ p inside upto. inside };
  sent = λ c inside. inr (sent_first 5 c (omega arith) inside);
}
two_goes (suc (suc (suc (suc (suc (suc zero)))))) = record {
  same = refl;
  grows = record {
    epoch = omega arith;
    cuts = λ c inside. inside;
    points = λ p inside upto. subst (λ (x : ℕ). Contains (0 ∷ 7 ∷ []) x) (only 0 p inside) (here 0 (7 ∷ []));
  };
  sent = λ c inside. inl inside;
}
two_goes (suc (suc (suc (suc (suc (suc (suc zero))))))) = record { member = refl; above = omega arith; new_is = refl }
two_goes (suc (suc (suc (suc (suc (suc (suc (suc zero)))))))) = refl
two_goes (suc (suc (suc (suc (suc (suc (suc (suc (suc zero))))))))) = refl
two_goes (suc (suc (suc (suc (suc (suc (suc (suc (suc (suc zero)))))))))) =
    record { under = (refl, refl); proposed = proposes_two; latest = λ later. omega (arith, later.1); new_is = refl }
two_goes (suc (suc (suc (suc (suc (suc (suc (suc (suc (suc (suc zero))))))))))) = record {
  same = refl;
  grows = record {
    epoch = omega arith;
    cuts = λ c inside. subst (λ (x : CutData). Contains (sample_cut ∷ later_cut ∷ []) x) (only sample_cut c inside) (here sample_cut (later_cut ∷ []));
    points = λ p inside upto. inside;
  };
  sent = λ c inside. second_comes c inside;
}
two_goes (suc (suc (suc (suc (suc (suc (suc (suc (suc (suc (suc (suc t)))))))))))) = refl

two_others : (t i : ℕ) → i ≢ 0 → two_nodes (suc t) i ≡ two_nodes t i
two_others t zero apart = absurd (apart refl)
two_others t (suc i) apart = refl

pub two_follows : FollowsProtocol two_run
two_follows = record { overlap = omega arith; begins = begins_two; moves = two_goes; others = two_others }

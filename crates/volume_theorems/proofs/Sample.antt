-- The sample follows the rules.
use Rattle.std.proofs.Common.{◌≡◌, ◌≢◌, ℕ, zero, suc, ◌<◌, inl, inr, [], ◌∷◌, None, refl, subst, arith, IsTrue}
use Rattle.std.specs.List.{Contains}
use Rattle.redo_core.specs.Data.{CutData}
use Rattle.redo_core.proofs.Members.{none_in, here, there, only}
use Rattle.volume_theorems.specs.Nodes.{HasNothing, VoteUpTo, GrowsTo, IsOfGeneration}
use Rattle.volume_theorems.specs.Runs.{MakesMove, Many}
use Rattle.volume_theorems.specs.Runs.Move.{IsFenced, Accepts}
use Rattle.volume_theorems.specs.Opening.{HasGathered, HasShown, HasAsked, AnswersUnder, CountsUnder, IsCutSent, IsUnion}
use Rattle.volume_theorems.specs.Proposing.{MayPropose}
use Rattle.volume_theorems.specs.Protocol.{Moves}
use Rattle.volume_theorems.proofs.Orders.{grows_itself}
use Rattle.volume_theorems.proofs.Guards.{answers_count}
use Rattle.volume_theorems.specs.Sample.{sample_cut, nothing, is_zero, sample_node, sample_nodes, sample_run, SomeRun}

-- ---- the engine
-- what holds of node 0 holds of each node of the quorum
pub alone : (P : ℕ → Type 0) → P 0 → (i : ℕ) → IsTrue (is_zero i) → P i
alone P has zero among = has
alone P has (suc i) among = absurd (cc)

pub of_all : (P : ℕ → Type 0) → P 0 → Many sample_run P
of_all P has = (is_zero, omega arith, alone P has)

gathered : HasGathered sample_run 0
gathered = record {
  many = omega arith;
  before = λ i among. omega arith;
  fenced = alone (λ (i : ℕ). MakesMove sample_run 1 i (IsFenced 0)) (refl, refl);
}

shown : HasShown sample_run 0 0 2
shown = record { after = omega arith; under = (refl, refl); birth = refl }

asked : (t : ℕ) → 2 < t → HasAsked sample_run 0 t
asked t after = record {
  gathered = gathered;
  shown = alone (λ (i : ℕ). (p : ℕ) × (p < t) × HasShown sample_run 0 i p) (2, after, shown);
}

union : IsUnion sample_run 0 4 nothing
union = record {
  gathered = gathered;
  of_all = alone (λ (i : ℕ). (p : ℕ) × (p < 4) × HasShown sample_run 0 i p × GrowsTo (sample_nodes p i).content nothing)
      (2, omega arith, shown, grows_itself nothing);
  sent = λ c inside. absurd (none_in c inside);
}

pub answers : (t : ℕ) → 2 < t → IsOfGeneration (sample_node t) 2 → AnswersUnder sample_run 0 t 0
answers t after under = record { asked = asked t after; under = under }

proposes : MayPropose sample_run 0 1 4
proposes = record {
  union = nothing;
  unites = union;
  next = refl;
  of_epoch = refl;
  known = of_all (λ (i : ℕ). (s : ℕ) × (s < 4) × AnswersUnder sample_run 0 s i
      × ((sample_nodes s i).content.epoch ≡ 0) × Contains (sample_nodes s i).content.points 0)
      (3, omega arith, answers 3 (omega arith) (refl, refl), refl, here 0 []);
  best = None;
  greatest = record { of_one = (0, refl, refl); above = alone (λ (i : ℕ). VoteUpTo (sample_nodes 1 i).accepted None) tt };
  choice = inr (record {
    opens = refl;
    free = λ of. of;
    lo = here 0 [];
    last = λ p inside. let itself : 0 ≡ p = only 0 p inside in omega arith;
    hi = omega arith;
  });
}

sent : (c : CutData) → Contains (sample_cut ∷ []) c → IsCutSent sample_run 5 c
sent c inside =
    let of : IsCutSent sample_run 5 sample_cut = (
      0,
      refl,
      of_all (λ (i : ℕ). (s : ℕ) × (s < 5) × MakesMove sample_run s i (Accepts 0 1)) (4, omega arith, (refl, refl)),
    ) in
    subst (λ (x : CutData). IsCutSent sample_run 5 x) (only sample_cut c inside) of

-- ---- the node
begins : (i : ℕ) → HasNothing (sample_nodes 0 i)
begins zero = record { member = λ e. absurd (cc); generation = refl; accepted = refl; epoch = refl; points = refl; cuts = refl }
begins (suc i) = record { member = λ e. absurd (cc); generation = refl; accepted = refl; epoch = refl; points = refl; cuts = refl }

goes : (t : ℕ) → Moves sample_run t 0 (sample_run.moves t) (sample_node t) (sample_node (suc t))
goes zero = record { out = λ e. absurd (cc); birth = refl; new_is = refl }
goes (suc zero) = record { member = refl; above = omega arith; new_is = refl }
goes (suc (suc zero)) = refl
goes (suc (suc (suc zero))) = refl
goes (suc (suc (suc (suc zero)))) = record { under = (refl, refl); proposed = proposes; latest = λ later. later; new_is = refl }
goes (suc (suc (suc (suc (suc zero))))) = record {
  same = refl;
  grows = record { epoch = omega arith; cuts = λ c inside. absurd (none_in c inside); points = λ p inside upto. inside };
  sent = λ c inside. inr (sent c inside);
}
goes (suc (suc (suc (suc (suc (suc zero)))))) = record {
  same = refl;
  grows = record {
    epoch = omega arith;
    cuts = λ c inside. inside;
    points = λ p inside upto. subst (λ (x : ℕ). Contains (0 ∷ 7 ∷ []) x) (only 0 p inside) (here 0 (7 ∷ []));
  };
  sent = λ c inside. inl inside;
}
goes (suc (suc (suc (suc (suc (suc (suc t))))))) = refl

others : (t i : ℕ) → i ≢ 0 → sample_nodes (suc t) i ≡ sample_nodes t i
others t zero apart = absurd (apart refl)
others t (suc i) apart = refl

pub some_run : SomeRun
some_run = (
  record { overlap = omega arith; begins = begins; moves = goes; others = others },
  (
    record { own = refl; accepted = of_all (λ (i : ℕ). (s : ℕ) × MakesMove sample_run s i (Accepts 0 1)) (4, (refl, refl)) },
    inr (of_all
        (λ (i : ℕ). (s : ℕ) × CountsUnder sample_run 0 s i × (((sample_nodes s i).content.epoch ≡ 1) × Contains (sample_nodes s i).content.points 7))
        (7, answers_count sample_run 0 7 0 (answers 7 (omega arith) (refl, refl)), (refl, there 0 (7 ∷ []) 7 (here 7 [])))),
  ),
)

-- The run with an admission follows the rules.
use Rattle.std.proofs.Common.{◌≡◌, ◌≢◌, ℕ, zero, suc, ◌<◌, ◌≤◌, ⊎_elim, inr, [], ◌∷◌, Bool, Option, Some, None, refl, sym, subst, ap, arith, IsTrue}
use Rattle.std.specs.Prelude.{if◌then◌else◌}
use Rattle.std.specs.List.{Contains}
use Rattle.std.proofs.lemmas.Bool.{ne_eqb}
use Rattle.redo_core.specs.Data.{CutData}
use Rattle.redo_core.proofs.Members.{none_in, here, there, which, only}
use Rattle.volume_theorems.specs.Nodes.{VolumeNode, HasNothing, VoteUpTo, GrowsTo, IsOfGeneration}
use Rattle.volume_theorems.specs.Runs.{MakesMove, IsOneBirth, Many}
use Rattle.volume_theorems.specs.Runs.Move.{IsFenced, Accepts}
use Rattle.volume_theorems.specs.Opening.{HasGathered, HasShown, HasAsked, AnswersUnder, WasUnder, IsCutSent, IsUnion, IsBest}
use Rattle.volume_theorems.specs.Proposing.{MayPropose, MayAdmit}
use Rattle.volume_theorems.specs.Protocol.{Moves}
use Rattle.volume_theorems.proofs.Orders.{grows_itself}
use Rattle.volume_theorems.specs.Sample.{sample_cut, nothing}
use Rattle.volume_theorems.specs.Admitting.{MoveMade, kept_content, first_vote, fresh_with, admitting_moves, move_at, actor_of, after_move, admitting_nodes, is_low, is_end, admitting_run, SomeAdmission}

-- ---- quorums
of_low : (P : ℕ → Type 0) → P 0 → P 1 → (i : ℕ) → IsTrue (is_low i) → P i
of_low P one two zero among = one
of_low P one two (suc zero) among = two
of_low P one two (suc (suc i)) among = absurd (cc)

of_end : (P : ℕ → Type 0) → P 0 → P 2 → (i : ℕ) → IsTrue (is_end i) → P i
of_end P one two zero among = one
of_end P one two (suc zero) among = absurd (cc)
of_end P one two (suc (suc zero)) among = two
of_end P one two (suc (suc (suc i))) among = absurd (cc)

low_has : (P : ℕ → Type 0) → P 0 → P 1 → Many admitting_run P
low_has P one two = (is_low, omega arith, of_low P one two)

end_has : (P : ℕ → Type 0) → P 0 → P 2 → Many admitting_run P
end_has P one two = (is_end, omega arith, of_end P one two)

-- ---- contents
grows_kept : GrowsTo nothing kept_content
grows_kept = record {
  epoch = omega arith;
  cuts = λ c inside. absurd (none_in c inside);
  points = λ p inside upto. subst (λ (x : ℕ). Contains (0 ∷ 7 ∷ []) x) (only 0 p inside) (here 0 (7 ∷ []));
}

has_nothing : (birth : ℕ) → HasNothing (fresh_with birth nothing)
has_nothing birth = record { member = λ e. absurd (cc); generation = refl; accepted = refl; epoch = refl; points = refl; cuts = refl }

first_sent : (t : ℕ) → 8 < t → (c : CutData) → Contains (sample_cut ∷ []) c → IsCutSent admitting_run t c
first_sent t late c inside =
    let of : IsCutSent admitting_run t sample_cut = (
      0,
      refl,
      low_has (λ (i : ℕ). (s : ℕ) × (s < t) × MakesMove admitting_run s i (Accepts 0 1)) (7, omega arith, (refl, refl)) (8, omega arith, (refl, refl)),
    ) in
    subst (λ (x : CutData). IsCutSent admitting_run t x) (only sample_cut c inside) of

-- ---- the first engine
first_gathered : HasGathered admitting_run 0
first_gathered = record {
  many = omega arith;
  before = of_low (λ (i : ℕ). (admitting_run.engines 0).fenced i < 5) (omega arith) (omega arith);
  fenced = of_low (λ (i : ℕ). MakesMove admitting_run ((admitting_run.engines 0).fenced i) i (IsFenced 0)) (refl, refl) (refl, refl);
}

first_shown : (i : ℕ) → IsOfGeneration (admitting_nodes 5 i) 2 → IsOneBirth admitting_run i ((admitting_run.engines 0).fenced i) 5 → HasShown admitting_run 0 i 5
first_shown i under birth = record { after = omega arith; under = under; birth = birth }

first_asked : (t : ℕ) → 5 < t → HasAsked admitting_run 0 t
first_asked t late = record {
  gathered = first_gathered;
  shown = of_low (λ (i : ℕ). (p : ℕ) × (p < t) × HasShown admitting_run 0 i p)
      (5, late, first_shown 0 (refl, refl) refl) (5, late, first_shown 1 (refl, refl) refl);
}

first_union : (t : ℕ) → 5 < t → IsUnion admitting_run 0 t nothing
first_union t late = record {
  gathered = first_gathered;
  of_all = of_low (λ (i : ℕ). (p : ℕ) × (p < t) × HasShown admitting_run 0 i p × GrowsTo (admitting_nodes p i).content nothing)
      (5, late, first_shown 0 (refl, refl) refl, grows_itself nothing) (5, late, first_shown 1 (refl, refl) refl, grows_itself nothing);
  sent = λ c inside. absurd (none_in c inside);
}

first_proposed : (t : ℕ) → 6 < t → MayPropose admitting_run 0 1 t
first_proposed t late = record {
  union = nothing;
  unites = first_union t (omega arith);
  next = refl;
  of_epoch = refl;
  known = low_has (λ (i : ℕ). (s : ℕ) × (s < t) × AnswersUnder admitting_run 0 s i
      × ((admitting_nodes s i).content.epoch ≡ 0) × Contains (admitting_nodes s i).content.points 0)
      (6, late, record { asked = first_asked 6 (omega arith); under = (refl, refl) }, refl, here 0 [])
      (6, late, record { asked = first_asked 6 (omega arith); under = (refl, refl) }, refl, here 0 []);
  best = None;
  greatest = record {
    of_one = (0, refl, refl);
    above = of_low (λ (i : ℕ). VoteUpTo (admitting_nodes ((admitting_run.engines 0).fenced i) i).accepted None) tt tt;
  };
  choice = inr (record {
    opens = refl;
    free = λ of. of;
    lo = here 0 [];
    last = λ p inside. let itself : 0 ≡ p = only 0 p inside in omega arith;
    hi = omega arith;
  });
}

-- ---- the next engine
next_gathered : HasGathered admitting_run 1
next_gathered = record {
  many = omega arith;
  before = of_end (λ (i : ℕ). (admitting_run.engines 1).fenced i < 14) (omega arith) (omega arith);
  fenced = of_end (λ (i : ℕ). MakesMove admitting_run ((admitting_run.engines 1).fenced i) i (IsFenced 1)) (refl, refl) (refl, refl);
}

next_shown : (i : ℕ) → IsOfGeneration (admitting_nodes 14 i) 3 → IsOneBirth admitting_run i ((admitting_run.engines 1).fenced i) 14 → HasShown admitting_run 1 i 14
next_shown i under birth = record { after = omega arith; under = under; birth = birth }

next_asked : (t : ℕ) → 14 < t → HasAsked admitting_run 1 t
next_asked t late = record {
  gathered = next_gathered;
  shown = of_end (λ (i : ℕ). (p : ℕ) × (p < t) × HasShown admitting_run 1 i p)
      (14, late, next_shown 0 (refl, refl) refl) (14, late, next_shown 2 (refl, refl) refl);
}

next_union : (t : ℕ) → 14 < t → IsUnion admitting_run 1 t kept_content
next_union t late = record {
  gathered = next_gathered;
  of_all = of_end (λ (i : ℕ). (p : ℕ) × (p < t) × HasShown admitting_run 1 i p × GrowsTo (admitting_nodes p i).content kept_content)
      (14, late, next_shown 0 (refl, refl) refl, grows_itself kept_content) (14, late, next_shown 2 (refl, refl) refl, grows_kept);
  sent = λ c inside. first_sent t (omega arith) c inside;
}

next_best : IsBest admitting_run 1 first_vote
next_best = record {
  of_one = (0, refl, refl);
  above = of_end (λ (i : ℕ). VoteUpTo (admitting_nodes ((admitting_run.engines 1).fenced i) i).accepted first_vote) (inr (refl, omega arith)) tt;
}

next_proposed : (t : ℕ) → 17 < t → MayPropose admitting_run 1 2 t
next_proposed t late = record {
  union = kept_content;
  unites = next_union t (omega arith);
  next = refl;
  of_epoch = refl;
  known = end_has (λ (i : ℕ). (s : ℕ) × (s < t) × AnswersUnder admitting_run 1 s i
      × ((admitting_nodes s i).content.epoch ≡ 1) × Contains (admitting_nodes s i).content.points 7)
      (17, late, record { asked = next_asked 17 (omega arith); under = (refl, refl) }, refl, there 0 (7 ∷ []) 7 (here 7 []))
      (17, late, record { asked = next_asked 17 (omega arith); under = (refl, refl) }, refl, there 0 (7 ∷ []) 7 (here 7 []));
  best = first_vote;
  greatest = next_best;
  choice = inr (record {
    opens = refl;
    free = λ of. let no : 1 ≡ 2 = of in absurd (omega arith);
    lo = there 0 (7 ∷ []) 7 (here 7 []);
    last = λ p inside. ⊎_elim
        (λ (zeroth : 0 ≡ p). omega arith)
        (λ (more : Contains (7 ∷ []) p). let itself : 7 ≡ p = only 7 p more in omega arith)
        (which 0 (7 ∷ []) p inside);
    hi = omega arith;
  });
}

admitted : MayAdmit admitting_run 1 1 17 first_vote
admitted = record {
  union = kept_content;
  unites = next_union 17 (omega arith);
  heard = (12, omega arith, λ e. absurd (cc), refl);
  epoch = refl;
  points = λ p inside. inside;
  greatest = next_best;
}

-- ---- the moves
reborn : (s : ℕ) → s ≤ 11 → (admitting_nodes s 1).birth ≡ 1 → ⊥
reborn zero upto same = let no : 0 ≡ 1 = same in absurd (omega arith)
reborn (suc zero) upto same = let no : 0 ≡ 1 = same in absurd (omega arith)
reborn (suc (suc zero)) upto same = let no : 0 ≡ 1 = same in absurd (omega arith)
reborn (suc (suc (suc zero))) upto same = let no : 0 ≡ 1 = same in absurd (omega arith)
reborn (suc (suc (suc (suc zero)))) upto same = let no : 0 ≡ 1 = same in absurd (omega arith)
reborn (suc (suc (suc (suc (suc zero))))) upto same = let no : 0 ≡ 1 = same in absurd (omega arith)
reborn (suc (suc (suc (suc (suc (suc zero)))))) upto same = let no : 0 ≡ 1 = same in absurd (omega arith)
reborn (suc (suc (suc (suc (suc (suc (suc zero))))))) upto same = let no : 0 ≡ 1 = same in absurd (omega arith)
reborn (suc (suc (suc (suc (suc (suc (suc (suc zero)))))))) upto same = let no : 0 ≡ 1 = same in absurd (omega arith)
reborn (suc (suc (suc (suc (suc (suc (suc (suc (suc zero))))))))) upto same = let no : 0 ≡ 1 = same in absurd (omega arith)
reborn (suc (suc (suc (suc (suc (suc (suc (suc (suc (suc zero)))))))))) upto same = let no : 0 ≡ 1 = same in absurd (omega arith)
reborn (suc (suc (suc (suc (suc (suc (suc (suc (suc (suc (suc zero))))))))))) upto same = let no : 0 ≡ 1 = same in absurd (omega arith)
reborn (suc (suc (suc (suc (suc (suc (suc (suc (suc (suc (suc (suc s)))))))))))) upto same = absurd (omega arith)

goes : (t : ℕ) → Moves admitting_run t (admitting_run.actor t) (admitting_run.moves t) (admitting_nodes t (admitting_run.actor t)) (admitting_nodes (suc t) (admitting_run.actor t))
goes zero = record { out = λ e. absurd (cc); birth = refl; new_is = refl }
goes (suc zero) = record { out = λ e. absurd (cc); birth = refl; new_is = refl }
goes (suc (suc zero)) = record { out = λ e. absurd (cc); birth = refl; new_is = refl }
goes (suc (suc (suc zero))) = record { member = refl; above = omega arith; new_is = refl }
goes (suc (suc (suc (suc zero)))) = record { member = refl; above = omega arith; new_is = refl }
goes (suc (suc (suc (suc (suc zero))))) = refl
goes (suc (suc (suc (suc (suc (suc zero)))))) = refl
goes (suc (suc (suc (suc (suc (suc (suc zero))))))) = record { under = (refl, refl); proposed = first_proposed 7 (omega arith); latest = λ later. later; new_is = refl }
goes (suc (suc (suc (suc (suc (suc (suc (suc zero)))))))) = record { under = (refl, refl); proposed = first_proposed 8 (omega arith); latest = λ later. later; new_is = refl }
goes (suc (suc (suc (suc (suc (suc (suc (suc (suc zero))))))))) = record { same = refl; grows = grows_kept; sent = λ c inside. inr (first_sent 9 (omega arith) c inside) }
goes (suc (suc (suc (suc (suc (suc (suc (suc (suc (suc zero)))))))))) = record { same = refl; grows = grows_kept; sent = λ c inside. inr (first_sent 10 (omega arith) c inside) }
goes (suc (suc (suc (suc (suc (suc (suc (suc (suc (suc (suc zero))))))))))) = record { nothing = has_nothing 1; birth = λ s upto. reborn s upto }
goes (suc (suc (suc (suc (suc (suc (suc (suc (suc (suc (suc (suc zero)))))))))))) = record { member = refl; above = omega arith; new_is = refl }
goes (suc (suc (suc (suc (suc (suc (suc (suc (suc (suc (suc (suc (suc zero))))))))))))) = record { member = refl; above = omega arith; new_is = refl }
goes (suc (suc (suc (suc (suc (suc (suc (suc (suc (suc (suc (suc (suc (suc zero)))))))))))))) = refl
goes (suc (suc (suc (suc (suc (suc (suc (suc (suc (suc (suc (suc (suc (suc (suc zero))))))))))))))) = record { same = refl; grows = grows_kept; sent = λ c inside. inr (first_sent 15 (omega arith) c inside) }
goes (suc (suc (suc (suc (suc (suc (suc (suc (suc (suc (suc (suc (suc (suc (suc (suc zero)))))))))))))))) = record { same = refl; grows = grows_kept; sent = λ c inside. inr (first_sent 16 (omega arith) c inside) }
goes (suc (suc (suc (suc (suc (suc (suc (suc (suc (suc (suc (suc (suc (suc (suc (suc (suc zero))))))))))))))))) = record { out = λ e. absurd (cc); vote = first_vote; admits = admitted; new_is = refl }
goes (suc (suc (suc (suc (suc (suc (suc (suc (suc (suc (suc (suc (suc (suc (suc (suc (suc (suc zero)))))))))))))))))) = record { under = (refl, refl); proposed = next_proposed 18 (omega arith); latest = λ later. let low : 2 < 1 = later.1 in absurd (omega arith); new_is = refl }
goes (suc (suc (suc (suc (suc (suc (suc (suc (suc (suc (suc (suc (suc (suc (suc (suc (suc (suc (suc zero))))))))))))))))))) = record { under = (refl, refl); proposed = next_proposed 19 (omega arith); latest = λ later. let low : 2 < 1 = later.1 in absurd (omega arith); new_is = refl }
goes (suc (suc (suc (suc (suc (suc (suc (suc (suc (suc (suc (suc (suc (suc (suc (suc (suc (suc (suc (suc t)))))))))))))))))))) = refl

stays : (made : Option MoveMade) (i : ℕ) (old : VolumeNode) → i ≢ actor_of made → after_move made i old ≡ old
stays None i old apart = refl
stays (Some m) i old apart = ap (λ (b : Bool). if b then m.node else old) (ne_eqb m.actor i (λ same. apart (sym same)))

pub some_admission : SomeAdmission
some_admission = (
  record {
    overlap = omega arith;
    begins = λ i. has_nothing 0;
    moves = goes;
    others = λ t i apart. stays (move_at admitting_moves t) i (admitting_nodes t i) apart;
  },
  (refl, refl),
  (
    record {
      own = refl;
      accepted = low_has (λ (i : ℕ). (s : ℕ) × MakesMove admitting_run s i (Accepts 0 1)) (7, (refl, refl)) (8, (refl, refl));
    },
    inr (low_has (WasUnder admitting_run 0 (λ (n : VolumeNode). (n.content.epoch ≡ 1) × Contains n.content.points 7))
        (11, record { asked = first_asked 11 (omega arith); member = refl; upto = omega arith }, (refl, there 0 (7 ∷ []) 7 (here 7 [])))
        (11, record { asked = first_asked 11 (omega arith); member = refl; upto = omega arith }, (refl, there 0 (7 ∷ []) 7 (here 7 [])))),
  ),
  record {
    own = refl;
    accepted = low_has (λ (i : ℕ). (s : ℕ) × MakesMove admitting_run s i (Accepts 1 2)) (18, (refl, refl)) (19, (refl, refl));
  },
)

-- What each turn of a run keeps holds after all of them.
use Rattle.std.proofs.Common.{◌≡◌, ◌≢◌, ℕ, ⊎_elim, List, [], ◌∷◌, ◌++◌, refl, sym, subst, append_assoc}
use Rattle.std.proofs.lemmas.List.{append-nil}
use Rattle.replica.specs.Machine.{IsReply}
use Rattle.replica.specs.Parts.{ReplicaData}
use Rattle.replica.specs.Meaning.{Turn, Runs}
use Rattle.cluster_theorems.specs.Turns.{turns_of}
use Rattle.replica.proofs.Restarts.{same_or_not}
use Rattle.cluster_theorems.proofs.Turned.{own_turn, other_turn}

-- What holds of each node after some turns, and of the turns themselves, holds after one more turn that comes as it should.
pub record IsKept (OfNode : List (ℕ × Turn) → ℕ → ReplicaData → Type 0) (OfAll : List (ℕ × Turn) → Type 0) (Comes : List (ℕ × Turn) → ℕ → Turn → Type 0)
    : Type 0 where
  pub own : (turns : List (ℕ × Turn)) (node : ℕ) (t : Turn) (old new : ReplicaData) → OfAll turns → OfNode turns node old → Comes turns node t
      → IsReply old t.asked t.told new → OfNode (turns ++ (node, t) ∷ []) node new
  pub others : (turns : List (ℕ × Turn)) (node other : ℕ) (t : Turn) (r : ReplicaData) → node ≢ other → OfNode turns other r
      → OfNode (turns ++ (node, t) ∷ []) other r
  pub all : (turns : List (ℕ × Turn)) (node : ℕ) (t : Turn) (old new : ReplicaData) → OfAll turns → OfNode turns node old
      → IsReply old t.asked t.told new → OfAll (turns ++ (node, t) ∷ [])

module _ (OfNode : List (ℕ × Turn) → ℕ → ReplicaData → Type 0) (OfAll : List (ℕ × Turn) → Type 0) (Comes : List (ℕ × Turn) → ℕ → Turn → Type 0)
    (kept : IsKept OfNode OfAll Comes) (nodes : ℕ → ReplicaData) where
  -- it holds after the turns, and each node goes on by the rest
  abbrev pub Hold : List (ℕ × Turn) → List (ℕ × Turn) → Type 0
  Hold turns rest = OfAll turns × ((node : ℕ) → (r : ReplicaData) × Runs r (turns_of node rest) (nodes node) × OfNode turns node r)

  -- all turns come as they should
  abbrev pub AllCome : List (ℕ × Turn) → Type 0
  AllCome turns = (before after : List (ℕ × Turn)) (node : ℕ) (t : Turn) → turns ≡ before ++ (node, t) ∷ after → Comes before node t

  one_turn : (turns rest : List (ℕ × Turn)) (node : ℕ) (t : Turn) → Hold turns ((node, t) ∷ rest) → Comes turns node t
      → Hold (turns ++ (node, t) ∷ []) rest
  one_turn turns rest node t hold comes =
      let own = hold.1 node in
      let runs : Runs own.0 (t ∷ turns_of node rest) (nodes node) = subst (λ ts. Runs own.0 ts (nodes node)) (own_turn node t rest) own.1 in
      let Each : ℕ → Type 0 = λ k. (r : ReplicaData) × Runs r (turns_of k rest) (nodes k) × OfNode (turns ++ (node, t) ∷ []) k r in
      let here : Each node = (runs.0, runs.2, kept.own turns node t own.0 runs.0 hold.0 own.2 comes runs.1) in (
        kept.all turns node t own.0 runs.0 hold.0 own.2 runs.1,
        λ other. ⊎_elim
            (λ (same : node ≡ other). subst Each same here)
            (λ (apart : node ≢ other).
            let its = hold.1 other in
            let there : Each other = (
              its.0,
              subst (λ ts. Runs its.0 ts (nodes other)) (other_turn node other t rest apart) its.1,
              kept.others turns node other t its.0 apart its.2,
            ) in there)
            (same_or_not node other),
      )

  go_on : (turns next rest : List (ℕ × Turn)) → AllCome (turns ++ (next ++ rest)) → Hold turns (next ++ rest) → Hold (turns ++ next) rest
  go_on turns [] rest come hold = subst (λ ts. Hold ts rest) (sym (append-nil turns)) hold
  go_on turns (x ∷ next) rest come hold =
      let on = turns ++ x ∷ [] in
      let same : on ++ (next ++ rest) ≡ turns ++ (x ∷ (next ++ rest)) = append_assoc turns (x ∷ []) (next ++ rest) in
      let one : Hold on (next ++ rest) = one_turn turns (next ++ rest) x.0 x.1 hold (come turns (next ++ rest) x.0 x.1 refl) in
      subst (λ ts. Hold ts rest) (append_assoc turns (x ∷ []) next) (go_on on next rest (subst AllCome (sym same) come) one)

  pub reach : (turns before rest : List (ℕ × Turn)) → turns ≡ before ++ rest → AllCome turns → Hold [] turns → Hold before rest
  reach turns before rest all come begin = go_on [] before rest (subst AllCome all come) (subst (Hold []) all begin)

-- Lists of turns, with one turn more.
use Rattle.std.proofs.Common.{◌≡◌, ◌≢◌, ℕ, ◌⊎◌, inl, inr, List, [], ◌∷◌, ◌++◌, refl, ap, ◌∙◌, arith, Bool, true, false, Option, None, rules}
use Rattle.std.specs.Prelude.{◌==◌, if◌then◌else◌}
use Rattle.std.proofs.lemmas.Bool.Decides.{nat_tests}
use Rattle.redo_core.specs.declared.facts.Fact.{Fact}
use Rattle.replica.specs.declared.requests.Request.{Request}
use Rattle.replica.specs.declared.replies.Reply.{Reply}
use Rattle.replica.specs.Meaning.{Turn, facts_after, facts_after_all}
use Rattle.cluster_theorems.specs.Turns.{turns_of, facts_at, frozen_after, frozen_after_all, frozen_at, staged_after, staged_after_all, staged_at, Begun, begun_after, begun_after_all, begun_at, WasReplied}

-- ---- one node's turns
one_more : (b : Bool) (t : Turn) (all own rest : List Turn) → all ≡ own ++ rest
    → (if b then t ∷ all else all) ≡ (if b then t ∷ own else own) ++ rest
one_more b t all own rest e = search rules

turns_more : (node : ℕ) (turns more : List (ℕ × Turn)) → turns_of node (turns ++ more) ≡ turns_of node turns ++ turns_of node more
turns_more node [] more = refl
turns_more node (x ∷ turns) more =
    one_more (x.0 == node) x.1 (turns_of node (turns ++ more)) (turns_of node turns) (turns_of node more) (turns_more node turns more)

is_own : (node : ℕ) → (node == node) ≡ true
is_own node = grind (arith, nat_tests)

is_other : (node other : ℕ) → node ≢ other → (node == other) ≡ false
is_other node other apart = grind (arith, nat_tests, apart)

pub own_turn : (node : ℕ) (t : Turn) (more : List (ℕ × Turn)) → turns_of node ((node, t) ∷ more) ≡ t ∷ turns_of node more
own_turn node t more = ap (λ (b : Bool). if b then t ∷ turns_of node more else turns_of node more) (is_own node)

pub other_turn : (node other : ℕ) (t : Turn) (more : List (ℕ × Turn)) → node ≢ other → turns_of other ((node, t) ∷ more) ≡ turns_of other more
other_turn node other t more apart = ap (λ (b : Bool). if b then t ∷ turns_of other more else turns_of other more) (is_other node other apart)

own_last : (turns : List (ℕ × Turn)) (node : ℕ) (t : Turn) → turns_of node (turns ++ (node, t) ∷ []) ≡ turns_of node turns ++ t ∷ []
own_last turns node t = turns_more node turns ((node, t) ∷ []) ∙ ap (λ own. turns_of node turns ++ own) (own_turn node t [])

other_last : (turns : List (ℕ × Turn)) (node other : ℕ) (t : Turn) → node ≢ other → turns_of other (turns ++ (node, t) ∷ []) ≡ turns_of other turns
other_last turns node other t apart = search (rules, turns_more)

-- ---- what they leave of it
facts_more : (facts : List Fact) (turns more : List Turn) → facts_after_all facts (turns ++ more) ≡ facts_after_all (facts_after_all facts turns) more
facts_more facts [] more = refl
facts_more facts (t ∷ turns) more = facts_more (facts_after facts t.brought t.asked t.told) turns more

pub own_facts : (turns : List (ℕ × Turn)) (node : ℕ) (t : Turn)
    → facts_at (turns ++ (node, t) ∷ []) node ≡ facts_after (facts_at turns node) t.brought t.asked t.told
own_facts turns node t = ap (facts_after_all []) (own_last turns node t) ∙ facts_more [] (turns_of node turns) (t ∷ [])

pub other_facts : (turns : List (ℕ × Turn)) (node other : ℕ) (t : Turn) → node ≢ other → facts_at (turns ++ (node, t) ∷ []) other ≡ facts_at turns other
other_facts turns node other t apart = ap (facts_after_all []) (other_last turns node other t apart)

frozen_more : (facts frozen : List Fact) (turns more : List Turn)
    → frozen_after_all facts frozen (turns ++ more) ≡ frozen_after_all (facts_after_all facts turns) (frozen_after_all facts frozen turns) more
frozen_more facts frozen [] more = refl
frozen_more facts frozen (t ∷ turns) more =
    frozen_more (facts_after facts t.brought t.asked t.told) (frozen_after facts frozen t.asked t.told) turns more

pub own_frozen : (turns : List (ℕ × Turn)) (node : ℕ) (t : Turn)
    → frozen_at (turns ++ (node, t) ∷ []) node ≡ frozen_after (facts_at turns node) (frozen_at turns node) t.asked t.told
own_frozen turns node t = ap (frozen_after_all [] []) (own_last turns node t) ∙ frozen_more [] [] (turns_of node turns) (t ∷ [])

pub other_frozen : (turns : List (ℕ × Turn)) (node other : ℕ) (t : Turn) → node ≢ other → frozen_at (turns ++ (node, t) ∷ []) other ≡ frozen_at turns other
other_frozen turns node other t apart = ap (frozen_after_all [] []) (other_last turns node other t apart)

staged_more : (staged : List (List Fact)) (turns more : List Turn)
    → staged_after_all staged (turns ++ more) ≡ staged_after_all (staged_after_all staged turns) more
staged_more staged [] more = refl
staged_more staged (t ∷ turns) more = staged_more (staged_after staged t.brought t.asked t.told) turns more

pub own_staged : (turns : List (ℕ × Turn)) (node : ℕ) (t : Turn)
    → staged_at (turns ++ (node, t) ∷ []) node ≡ staged_after (staged_at turns node) t.brought t.asked t.told
own_staged turns node t = ap (staged_after_all []) (own_last turns node t) ∙ staged_more [] (turns_of node turns) (t ∷ [])

pub other_staged : (turns : List (ℕ × Turn)) (node other : ℕ) (t : Turn) → node ≢ other → staged_at (turns ++ (node, t) ∷ []) other ≡ staged_at turns other
other_staged turns node other t apart = ap (staged_after_all []) (other_last turns node other t apart)

begun_more : (begun : Option Begun) (turns more : List Turn) → begun_after_all begun (turns ++ more) ≡ begun_after_all (begun_after_all begun turns) more
begun_more begun [] more = refl
begun_more begun (t ∷ turns) more = begun_more (begun_after begun t.asked t.told) turns more

pub own_begun : (turns : List (ℕ × Turn)) (node : ℕ) (t : Turn)
    → begun_at (turns ++ (node, t) ∷ []) node ≡ begun_after (begun_at turns node) t.asked t.told
own_begun turns node t = ap (begun_after_all None) (own_last turns node t) ∙ begun_more None (turns_of node turns) (t ∷ [])

pub other_begun : (turns : List (ℕ × Turn)) (node other : ℕ) (t : Turn) → node ≢ other → begun_at (turns ++ (node, t) ∷ []) other ≡ begun_at turns other
other_begun turns node other t apart = ap (begun_after_all None) (other_last turns node other t apart)

-- ---- what was replied
-- an item of a list with one more is an item of the list, or the new one
pub none_there : {X : Type 0} (before : List X) (y : X) (after : List X) → [] ≡ before ++ y ∷ after → ⊥
none_there [] y after e = absurd (cc)
none_there (z ∷ before) y after e = absurd (cc)

split_last : {X : Type 0} (xs : List X) (x : X) (before : List X) (y : X) (after : List X) → xs ++ x ∷ [] ≡ before ++ y ∷ after
    → ((before ≡ xs) × (y ≡ x)) ⊎ ((rest : List X) × (xs ≡ before ++ y ∷ rest))
split_last [] x [] y after e = inl (refl, cc)
split_last [] x (z ∷ before) y after e = absurd (none_there before y after (cc))
split_last (w ∷ xs) x [] y after e = inr (xs, cc)
split_last (w ∷ xs) x (z ∷ before) y after e = elim (split_last xs x before y after (cc)) [
  | inl last ↦ let here : before ≡ xs = last.0 in inl (cc, last.1)
  | inr earlier ↦ let there : xs ≡ before ++ y ∷ earlier.0 = earlier.1 in inr (earlier.0, cc)
]

pub replied_last : (had : List (ℕ × Turn) → ℕ → List Fact) (turns : List (ℕ × Turn)) (node : ℕ) (t : Turn) (asked : Request) (told : Reply) (facts : List Fact)
    → WasReplied had (turns ++ (node, t) ∷ []) asked told facts
    → WasReplied had turns asked told facts ⊎ ((t.asked ≡ asked) × (t.told ≡ told) × (facts ≡ had turns node))
replied_last had turns node t asked told facts w = search (rules, split_last)

-- The message of a number in a list, and in the list of the machine's messages for it.
use Rattle.std.proofs.Common.{◌≡◌, ℕ, zero, suc, ◌⊎◌, List, [], ◌∷◌, ◌++◌, refl, subst, Option, Some, None, rules}
use Rattle.std.specs.Prelude.{slice_get}
use Rattle.std.specs.List.{AllZip, AllByRecursion}
use Rattle.redo_core.specs.declared.facts.Fact.{Fact}
use Rattle.messages.specs.Summaries.{SummaryData}
use Rattle.messages.specs.Deltas.{DeltaData}
use Rattle.fleet_core.specs.declared.making.Made.{Made}
use Rattle.fleet_core.specs.Machine.{Message, numbered, asked_by, answered_by}
use Rattle.fleet_core.specs.Messages.{question_by, question_in, answer_by, AsksWith, AnswersWith, IsMade, AreMade}
use Rattle.redo_core.proofs.ByPlace.{at_longer}

-- ---- two lists, place by place

abbrev pub Alike : {A B : Type 0} → (A → B → Type 0) → Option A → Option B → Type 0
Alike R None None = Unit {0}
Alike R None (Some b) = ⊥
Alike R (Some a) None = ⊥
Alike R (Some a) (Some b) = R a b

place_alike : {A B : Type 0} (R : A → B → Type 0) (xs : List A) (ys : List B) (i : ℕ) → AllZip R xs ys → Alike R (slice_get xs i) (slice_get ys i)
place_alike R [] [] i all = tt
place_alike R [] (y ∷ ys) i all = absurd all
place_alike R (x ∷ xs) [] i all = absurd all
place_alike R (x ∷ xs) (y ∷ ys) zero all = all.0
place_alike R (x ∷ xs) (y ∷ ys) (suc i) all = place_alike R xs ys i all.1

number_alike : {A B : Type 0} (R : A → B → Type 0) (xs : List A) (ys : List B) (n : ℕ) → AllZip R xs ys → Alike R (numbered xs n) (numbered ys n)
number_alike R xs ys n all = search (rules, place_alike)

-- both are there, or neither is
pub both_there : {A B : Type 0} (R : A → B → Type 0) (o : Option A) (p : Option B) → Alike R o p
    → ((o ≡ None) × (p ≡ None)) ⊎ ((x : A) × (y : B) × (o ≡ Some x) × (p ≡ Some y) × R x y)
both_there R o p alike = search rules

zip_more : {A B : Type 0} (R S : A → B → Type 0) → ((x : A) (y : B) → R x y → S x y) → (xs : List A) (ys : List B) (x : A) (y : B) → AllZip R xs ys → S x y
    → AllZip S (xs ++ x ∷ []) (ys ++ y ∷ [])
zip_more R S wider [] [] x y all one = (one, tt)
zip_more R S wider [] (b ∷ bs) x y all one = absurd all
zip_more R S wider (a ∷ as') [] x y all one = absurd all
zip_more R S wider (a ∷ as') (b ∷ bs) x y all one = (wider a b all.0, zip_more R S wider as' bs x y all.1 one)

place_has : {A : Type 0} (P : A → Type 0) (xs : List A) (i : ℕ) (x : A) → AllByRecursion P xs → slice_get xs i ≡ Some x → P x
place_has P [] i x all at = absurd (cc)
place_has P (y ∷ ys) zero x all at = let e : y ≡ x = cc in subst P e all.0
place_has P (y ∷ ys) (suc i) x all at = place_has P ys i x all.1 at

pub number_has : {A : Type 0} (P : A → Type 0) (xs : List A) (n : ℕ) (x : A) → AllByRecursion P xs → numbered xs n ≡ Some x → P x
number_has P xs n x all at = search (rules, place_has)

-- ---- a list that has grown

still_numbered : {A : Type 0} (xs more : List A) (n : ℕ) (x : A) → numbered xs n ≡ Some x → numbered (xs ++ more) n ≡ Some x
still_numbered xs more n x at = search (rules, at_longer)

still_asked_by : (made more : List Made) (n : ℕ) (s : SummaryData) (o : Option Made) → o ≡ numbered made n → question_by o ≡ Some s
    → question_in (made ++ more) n ≡ Some s
still_asked_by made more n s o is at = search (rules, still_numbered)

pub still_asked : (made more : List Made) (n : ℕ) (s : SummaryData) → question_in made n ≡ Some s → question_in (made ++ more) n ≡ Some s
still_asked made more n s at = still_asked_by made more n s (numbered made n) refl at

-- ---- messages, and what is kept of them

still_made : (roster : ℕ) (log : List Fact) (made more : List Made) (t : Message) (k : Made) → IsMade roster log made t k → IsMade roster log (made ++ more) t k
still_made roster log made more t k is = search (rules, still_asked)

-- there is one more of each
pub made_more : (roster : ℕ) (log : List Fact) (messages : List Message) (made : List Made) (t : Message) (k : Made) → AreMade roster log messages made
    → IsMade roster log (made ++ k ∷ []) t k → AreMade roster log (messages ++ t ∷ []) (made ++ k ∷ [])
made_more roster log messages made t k are one = search (rules, zip_more, still_made)

asked_alike : (roster : ℕ) (log : List Fact) (made : List Made) (o : Option Message) (p : Option Made) → Alike (IsMade roster log made) o p
    → Alike (AsksWith roster log) (asked_by o) (question_by p)
asked_alike roster log made o p is = search rules

-- an answer's question, and the answer
abbrev pub AnswersBoth : ℕ → List Fact → List Fact × List Fact → SummaryData × DeltaData → Type 0
AnswersBoth roster log facts kept = AsksWith roster log facts.0 kept.0 × AnswersWith roster log facts.1 kept.0 kept.1

answered_alike : (roster : ℕ) (log : List Fact) (made : List Made) (o : Option Message) (p : Option Made) → Alike (IsMade roster log made) o p
    → Alike (AnswersBoth roster log) (answered_by o) (answer_by made p)
answered_alike roster log made o p is = search rules

pub questions_alike : (roster : ℕ) (log : List Fact) (messages : List Message) (made : List Made) (n : ℕ) → AreMade roster log messages made
    → Alike (AsksWith roster log) (asked_by (numbered messages n)) (question_by (numbered made n))
questions_alike roster log messages made n are =
    asked_alike roster log made (numbered messages n) (numbered made n) (number_alike (IsMade roster log made) messages made n are)

pub answers_alike : (roster : ℕ) (log : List Fact) (messages : List Message) (made : List Made) (n : ℕ) → AreMade roster log messages made
    → Alike (AnswersBoth roster log) (answered_by (numbered messages n)) (answer_by made (numbered made n))
answers_alike roster log messages made n are = search (rules, answered_alike, number_alike)

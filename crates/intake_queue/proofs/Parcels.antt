-- Parcels of one sender, and new senders.
use Rattle.std.proofs.Common.{◌≡◌, ◌≢◌, ℕ, zero, suc, ◌+◌, ◌<◌, List, [], ◌∷◌, ◌++◌, length, ◌⊎◌, inl, inr, ⊎_elim, refl, sym, ap, subst, ◌∙◌, Some, rules, arith}
use Rattle.std.proofs.lemmas.Grind.{common_steps}
use Rattle.std.specs.Prelude.{◌==◌, slice_get}
use Rattle.std.specs.List.{Contains}
use Rattle.std.proofs.lemmas.Bool.{eq-eqb, ne_eqb}
use Rattle.std.proofs.lemmas.List.{append-nil}
use Rattle.std.proofs.lemmas.List.Elements.{filter-append}
use Rattle.redo_core.proofs.Members.{here, there}
use Rattle.redo_core.proofs.ByPlace.{at_longer}
use Rattle.atomic_table.specs.Seated.{TableId}
use Rattle.intake_queue.specs.Ends.{SenderData, new_sender, AreNewSenders}
use Rattle.intake_queue.specs.Parcel.{ParcelData, sent_by, AreNumbered}

pub sent_by-append : (p : ℕ) (xs ys : List ParcelData) → sent_by p (xs ++ ys) ≡ sent_by p xs ++ sent_by p ys
sent_by-append p xs ys = filter-append (λ (x : ParcelData). x.sender == p) xs ys

-- one more at the front, of this sender or of another
mine : (p : ℕ) (x : ParcelData) (xs : List ParcelData) → x.sender ≡ p → sent_by p (x ∷ xs) ≡ x ∷ sent_by p xs
mine p x xs is = rw (eq-eqb x.sender p is) refl

theirs : (p : ℕ) (x : ParcelData) (xs : List ParcelData) → x.sender ≢ p → sent_by p (x ∷ xs) ≡ sent_by p xs
theirs p x xs isnt = rw (ne_eqb x.sender p isnt) refl

-- one more at the end
pub one_of_mine : (p : ℕ) (xs : List ParcelData) (x : ParcelData) → x.sender ≡ p → sent_by p (xs ++ x ∷ []) ≡ sent_by p xs ++ x ∷ []
one_of_mine p xs x is = sent_by-append p xs (x ∷ []) ∙ ap (λ ys. sent_by p xs ++ ys) (mine p x [] is)

pub one_of_another : (p : ℕ) (xs : List ParcelData) (x : ParcelData) → x.sender ≢ p → sent_by p (xs ++ x ∷ []) ≡ sent_by p xs
one_of_another p xs x isnt = sent_by-append p xs (x ∷ []) ∙ (ap (λ ys. sent_by p xs ++ ys) (theirs p x [] isnt) ∙ append-nil (sent_by p xs))

-- where there is one sender only
pub all_mine : (p : ℕ) (xs : List ParcelData) → ((x : ParcelData) → Contains xs x → x.sender ≡ p) → sent_by p xs ≡ xs
all_mine p [] all = refl
all_mine p (x ∷ xs) all = mine p x xs (all x (here x xs)) ∙ ap (λ ys. x ∷ ys) (all_mine p xs (λ y c. all y (there x xs y c)))

at_more : (xs : List ParcelData) (x : ParcelData) (k : ℕ) (y : ParcelData) → slice_get (xs ++ x ∷ []) k ≡ Some y
    → (slice_get xs k ≡ Some y) ⊎ ((k ≡ length xs) × (x ≡ y))
at_more [] x zero y e = inr (refl, cc)
at_more [] x (suc k) y e = absurd cc
at_more (z ∷ xs) x zero y e = inl e
at_more (z ∷ xs) x (suc k) y e = ⊎_elim (λ h. inl h) (λ h. inr (ap suc h.0, h.1)) (at_more xs x k y e)

pub numbered_more : (xs : List ParcelData) (x : ParcelData) → AreNumbered xs → x.number ≡ length xs + 1 → AreNumbered (xs ++ x ∷ [])
numbered_more xs x all is = search (rules, at_more)

seam : {X : Type 0} (xs : List X) (x : X) (ys : List X) → slice_get (xs ++ x ∷ ys) (length xs) ≡ Some x
seam [] x ys = refl
seam (z ∷ xs) x ys = seam xs x ys

-- the number of the first that is left
pub numbered_first : (taken : List ParcelData) (x : ParcelData) (items : List ParcelData) → AreNumbered (sent_by x.sender (taken ++ x ∷ items))
    → x.number ≡ length (sent_by x.sender taken) + 1
numbered_first taken x items all = search (rules, sent_by-append, mine, seam)

-- those that are before others
pub numbered_before : (p : ℕ) (xs ys : List ParcelData) → AreNumbered (sent_by p (xs ++ ys)) → AreNumbered (sent_by p xs)
numbered_before p xs ys all = search (rules, sent_by-append, at_longer)

-- one more sender is handed out
pub one_more : (intake : TableId) (senders count : ℕ) (made all : List SenderData) (new : SenderData) → AreNewSenders intake senders count made
    → new ≡ new_sender intake senders (count + 1) → all ≡ made ++ new ∷ [] → AreNewSenders intake senders (count + 1) all
one_more intake senders count made all new are is more = (
  grind (arith, common_steps),
  λ before lt. subst (λ l. slice_get l before ≡ Some (new_sender intake senders (before + 1))) (sym more)
      (⊎_elim (λ (low : before < count). at_longer made (new ∷ []) before _ (are.1 before low))
      (λ (last : before ≡ count). grind (arith, seam made new [])) (grind arith)),
)

-- What a book and records export: the facts of the book, and then the records.
use Rattle.std.proofs.Common.{◌≡◌, ℕ, List, [], ◌∷◌, ◌++◌, map, refl, ap, subst, Bor, rules, arith}
use Rattle.std.proofs.lemmas.Grind.{common_steps}
use Rattle.redo_core.specs.Data.{RecordData, CutData, AdvanceData}
use Rattle.redo_core.specs.Book.{BookData, book_of}
use Rattle.redo_core.specs.declared.facts.Fact.TheVariants.{Record}
use Rattle.segment_theorems.specs.State.{State}
use Rattle.segment_core.specs.declared.answers.Refusal.{Refusal}
use Rattle.segment_core.specs.Exported.{book_facts, exported_facts}
use Rattle.segment_core.specs.InOrder.{TakesEach, RefusesOne}
use Rattle.segment_core.proofs.Ordered.{takes_append, refuses_sooner, refuses_later}

-- a book is made of its parts
pub same_book : (b : BookData) (cs : List CutData) (k : ℕ) (ps : List ℕ) (ws : List AdvanceData)
    → cs ≡ b.cuts → k ≡ b.complete → ps ≡ b.points → ws ≡ b.waits → book_of cs k ps ws ≡ b
same_book b cs k ps ws c e p w = let t : book_of cs k ps ws ≡ book_of b.cuts b.complete b.points b.waits = cc in t

-- the records that references refer to
pub records_behind : (rs : List (Bor RecordData)) → map (λ r. Record r.now) rs ≡ map Record (map (λ r. r.now) rs)
records_behind [] = refl
records_behind (r ∷ rs) = ap (λ fs. Record r.now ∷ fs) (records_behind rs)

pub in_two : (b : BookData) (rs : List RecordData) → book_facts b ++ map Record rs ≡ exported_facts b rs
in_two b rs = grind (arith, common_steps)

pub takes_told : (s : State) (b : BookData) (rs : List RecordData) (t u : State) → TakesEach s (book_facts b) t → TakesEach t (map Record rs) u
    → TakesEach s (exported_facts b rs) u
takes_told s b rs t u first rest = subst (λ fs. TakesEach s fs u) (in_two b rs) (takes_append s (book_facts b) t (map Record rs) u first rest)

pub refuses_book : (s : State) (b : BookData) (rs : List RecordData) (why : Refusal) → RefusesOne s (book_facts b) why → RefusesOne s (exported_facts b rs) why
refuses_book s b rs why h = subst (λ fs. RefusesOne s fs why) (in_two b rs) (refuses_sooner s (book_facts b) (map Record rs) why h)

pub refuses_records : (s : State) (b : BookData) (rs : List RecordData) (t : State) (why : Refusal) → TakesEach s (book_facts b) t
    → RefusesOne t (map Record rs) why → RefusesOne s (exported_facts b rs) why
refuses_records s b rs t why first h = search (rules, in_two, refuses_later)

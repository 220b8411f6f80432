-- The table of fenced nodes, one reply after another.
use Rattle.std.proofs.Common.{◌≡◌, ◌≢◌, ℕ, suc, ◌<◌, ◌≤◌, ⊎_elim, List, length, Bool, true, false, Option, Some, None, refl, sym, ◌∙◌, subst, ap, arith, length-set}
use Rattle.std.specs.Prelude.{slice_set, ◌==◌, if◌then◌else◌}
use Rattle.std.proofs.lemmas.Bool.{eq-eqb, ne_eqb}
use Rattle.guard.specs.declared.requests.AcceptedCut.{AcceptedCut}
use Rattle.volume.specs.Sets.{birth_at}
use Rattle.volume_theorems.specs.Runs.{VolumeRun}
use Rattle.volume_engines.specs.Lives.{Life, Guards}
use Rattle.volume_engines.specs.Engines.{fenced_by}
use Rattle.volume_engines.proofs.Tables.{at_or_not, put_there, put_elsewhere, some_same}
use Rattle.volume_engines.proofs.Knowing.{pair_at, IsFencedAs, KnowsTable}

-- ---- which answers count
pub fenced_here : (generation own i node at before : ℕ) → generation ≡ own → i ≡ node
    → (if node == i then (if generation == own then at else before) else before) ≡ at
fenced_here generation own i node at before same here =
    ap (λ (b : Bool). if b then (if generation == own then at else before) else before) (eq-eqb node i (sym here))
    ∙ ap (λ (b : Bool). if b then at else before) (eq-eqb generation own same)

pub fenced_elsewhere : (generation own i node at before : ℕ) → i ≢ node
    → (if node == i then (if generation == own then at else before) else before) ≡ before
fenced_elsewhere generation own i node at before apart =
    ap (λ (b : Bool). if b then (if generation == own then at else before) else before) (ne_eqb node i (λ same. apart (sym same)))

same_either : (b : Bool) (n : ℕ) → (if b then n else n) ≡ n
same_either true n = refl
same_either false n = refl

pub fenced_otherwise : (generation own i node at before : ℕ) → (generation ≡ own → ⊥)
    → (if node == i then (if generation == own then at else before) else before) ≡ before
fenced_otherwise generation own i node at before apart =
    ap (λ (b : Bool). if node == i then (if b then at else before) else before) (ne_eqb generation own apart)
    ∙ same_either (node == i) before

-- ---- the table
module _ (run : VolumeRun) (guards : Guards) (e : ℕ) (life : Life) (n : ℕ) (in_time : life.moments n ≤ life.moments (suc n)) where
  fenced_later : (p i b : ℕ) (a : Option AcceptedCut) → IsFencedAs run guards e (life.moments n) p i b a → IsFencedAs run guards e (life.moments (suc n)) p i b a
  fenced_later p i b a is = record {
    before = let early : p < life.moments n = is.before in omega arith;
    moved = is.moved;
    birth = is.birth;
    accepted = is.accepted;
  }

  -- the entry of a node of which nothing new was heard
  entry_stays : (i b : ℕ) (a : Option AcceptedCut) → fenced_by life (suc (suc n)) i ≡ fenced_by life (suc n) i
      → IsFencedAs run guards e (life.moments n) (fenced_by life (suc n) i) i b a
      → IsFencedAs run guards e (life.moments (suc n)) (fenced_by life (suc (suc n)) i) i b a
  entry_stays i b a same is =
      subst (λ (p : ℕ). IsFencedAs run guards e (life.moments (suc n)) p i b a) (sym same) (fenced_later (fenced_by life (suc n) i) i b a is)

  -- the nodes from the roster on have no entry
  pub table_stays_below : (births : List (Option ℕ)) (pairs : List (Option AcceptedCut))
      → ((i : ℕ) → i < run.roster → fenced_by life (suc (suc n)) i ≡ fenced_by life (suc n) i)
      → KnowsTable run guards e life n births pairs → KnowsTable run guards e life (suc n) births pairs
  table_stays_below births pairs same k = record {
    births_long = k.births_long;
    pairs_long = k.pairs_long;
    within = k.within;
    fenced = λ i b has. entry_stays i b (pair_at pairs i) (same i (k.within i b has)) (k.fenced i b has);
    lone = k.lone;
  }

  pub table_stays : (births : List (Option ℕ)) (pairs : List (Option AcceptedCut))
      → ((i : ℕ) → fenced_by life (suc (suc n)) i ≡ fenced_by life (suc n) i)
      → KnowsTable run guards e life n births pairs → KnowsTable run guards e life (suc n) births pairs
  table_stays births pairs same k = table_stays_below births pairs (λ i low. same i) k

  -- without the node
  module _ (births : List (Option ℕ)) (pairs : List (Option AcceptedCut)) (node : ℕ) (low : node < 15) (k : KnowsTable run guards e life n births pairs) where
    births_hold : node < length births
    births_hold = let long : length births ≡ 15 = k.births_long in omega arith

    pairs_hold : node < length pairs
    pairs_hold = let long : length pairs ≡ 15 = k.pairs_long in omega arith

    cleared_had : (i b : ℕ) → birth_at (slice_set births node None) i ≡ Some b → (i ≢ node) × (birth_at births i ≡ Some b)
    cleared_had i b has = ⊎_elim
        (λ (here : i ≡ node). let no : None ≡ Some b = sym (put_there births node i None None births_hold here) ∙ has in absurd (cc))
        (λ (apart : i ≢ node). (apart, sym (put_elsewhere births node i None None apart) ∙ has))
        (at_or_not i node)

    pub table_without : ((i : ℕ) → fenced_by life (suc (suc n)) i ≡ fenced_by life (suc n) i)
        → KnowsTable run guards e life (suc n) (slice_set births node None) (slice_set pairs node None)
    table_without same = record {
      births_long = length-set births node None ∙ k.births_long;
      pairs_long = length-set pairs node None ∙ k.pairs_long;
      within = λ i b has. k.within i b (cleared_had i b has).1;
      fenced = λ i b has.
          let had = cleared_had i b has in
          subst (λ (a : Option AcceptedCut). IsFencedAs run guards e (life.moments (suc n)) (fenced_by life (suc (suc n)) i) i b a)
          (sym (put_elsewhere pairs node i None None had.0)) (entry_stays i b (pair_at pairs i) (same i) (k.fenced i b had.1));
      lone = λ i none. ⊎_elim
          (λ (here : i ≡ node). put_there pairs node i None None pairs_hold here)
          (λ (apart : i ≢ node).
          put_elsewhere pairs node i None None apart ∙ k.lone i (sym (put_elsewhere births node i None None apart) ∙ none))
          (at_or_not i node);
    }

    -- with another answer of the node
    module _ (birth : ℕ) (accepted : Option AcceptedCut) (inside : node < run.roster)
        (new : IsFencedAs run guards e (life.moments (suc n)) (fenced_by life (suc (suc n)) node) node birth accepted)
        (others : (i : ℕ) → i ≢ node → fenced_by life (suc (suc n)) i ≡ fenced_by life (suc n) i) where
      entry_new : (i b : ℕ) → i ≡ node → birth_at (slice_set births node (Some birth)) i ≡ Some b
          → IsFencedAs run guards e (life.moments (suc n)) (fenced_by life (suc (suc n)) i) i b (pair_at (slice_set pairs node accepted) i)
      entry_new i b here has =
          let same : birth ≡ b = some_same birth b (sym (put_there births node i (Some birth) None births_hold here) ∙ has) in
          subst (λ (a : Option AcceptedCut). IsFencedAs run guards e (life.moments (suc n)) (fenced_by life (suc (suc n)) i) i b a)
          (sym (put_there pairs node i accepted None pairs_hold here))
          (subst (λ (j : ℕ). IsFencedAs run guards e (life.moments (suc n)) (fenced_by life (suc (suc n)) j) j b accepted) (sym here)
          (subst (λ (c : ℕ). IsFencedAs run guards e (life.moments (suc n)) (fenced_by life (suc (suc n)) node) node c accepted) same new))

      entry_old : (i b : ℕ) → i ≢ node → birth_at (slice_set births node (Some birth)) i ≡ Some b
          → IsFencedAs run guards e (life.moments (suc n)) (fenced_by life (suc (suc n)) i) i b (pair_at (slice_set pairs node accepted) i)
      entry_old i b apart has =
          subst (λ (a : Option AcceptedCut). IsFencedAs run guards e (life.moments (suc n)) (fenced_by life (suc (suc n)) i) i b a)
          (sym (put_elsewhere pairs node i accepted None apart))
          (entry_stays i b (pair_at pairs i) (others i apart) (k.fenced i b (sym (put_elsewhere births node i (Some birth) None apart) ∙ has)))

      pub table_with : KnowsTable run guards e life (suc n) (slice_set births node (Some birth)) (slice_set pairs node accepted)
      table_with = record {
        births_long = length-set births node (Some birth) ∙ k.births_long;
        pairs_long = length-set pairs node accepted ∙ k.pairs_long;
        within = λ i b has. ⊎_elim
            (λ (here : i ≡ node). subst (λ (j : ℕ). j < run.roster) (sym here) inside)
            (λ (apart : i ≢ node). k.within i b (sym (put_elsewhere births node i (Some birth) None apart) ∙ has))
            (at_or_not i node);
        fenced = λ i b has. ⊎_elim
            (λ (here : i ≡ node). entry_new i b here has)
            (λ (apart : i ≢ node). entry_old i b apart has)
            (at_or_not i node);
        lone = λ i none. ⊎_elim
            (λ (here : i ≡ node). let no : Some birth ≡ None = sym (put_there births node i (Some birth) None births_hold here) ∙ none in absurd (cc))
            (λ (apart : i ≢ node).
            put_elsewhere pairs node i accepted None apart ∙ k.lone i (sym (put_elsewhere births node i (Some birth) None apart) ∙ none))
            (at_or_not i node);
      }

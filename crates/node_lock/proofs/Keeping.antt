-- Each step keeps the rule of the lock.
use Rattle.std.proofs.Common.{◌≡◌, ◌≢◌, ℕ, zero, suc, ◌+◌, ◌<◌, ◌≤◌, eqb, eq-eqb, ne_eqb, Bool, true, false, if◌then◌else◌, List, [], ◌∷◌, ◌++◌, length, get_or, set, sym, refl, ap, ◌∙◌, subst, ⊎_elim, arith, Option, Some, unwrap_or, length-set, length-append, get_or-set_same, rules}
use mathlib.Core.Logic.{dite}
use mathlib.Core.Option.{none, some, some-injective, some-ne-none}
use native.Mathlib.Decide.{ℕ_discrete}
use lib.ListN.{get_elem?}
use lib.Seq.{set-get_or}
use prog.Atomic.{either}
use Rattle.atomic_table.specs.Table.{State, Me, step, keeps, takes, gives, rest, stepped, Allows, Enters, Splits, Joins, opening}
use Rattle.atomic_table.proofs.Lists.{at_set, set_here, set_else, set_again, at_longer, at_snoc}
use Rattle.node_lock.specs.declared.rule.SeatView.{SeatView}
use Rattle.node_lock.specs.Trail.{Entry, Receipt, receipts_of}
use Rattle.node_lock.specs.Known.{Part, standing_for, holding, new_parts, first_part, rest_parts, ListsAreTrue, tally, total, one, weight, is_of}
use Rattle.node_lock.specs.Rule.{Fits, KeepsLockRule}
use Rattle.node_lock.specs.Steps.{IsSeated, TakesState, IsGiven, IsPosted}
use Rattle.node_lock.proofs.Tallies.{tally_append, tally_one, tally_cut, total_set, total_snoc, total_two, total_alone}
use Rattle.node_lock.proofs.Receipts.{list_grows, others_stay, are_append, are_rest, are_first}

abbrev IsFalse : Bool → Type 0
IsFalse true = ⊥
IsFalse false = Unit {0}

no : false ≡ true → ⊥
no e = subst IsFalse e tt

-- a view in the place of another with the same measure
same_total : (f : Part → ℕ) (vs : List SeatView) (i : ℕ) (v w : SeatView) → get_elem? vs i ≡ some v → tally f w.parts ≡ tally f v.parts
    → total f (set vs i w) ≡ total f vs
same_total f vs i v w at same = omega (arith, total_set f vs i v w at, same)

seats_stay : (K : ℕ → SeatView → Type 0) (vs : List SeatView) (me : ℕ) (w : SeatView) → K me w → ((j : ℕ) (d : SeatView) → j ≢ me → get_elem? vs j ≡ some d → K j d)
    → (j : ℕ) (d : SeatView) → get_elem? (set vs me w) j ≡ some d → K j d
seats_stay K vs me w mine others j d e = search (rules, at_set)

in_bounds : {A : Type 0} (l : List A) (i : ℕ) (a : A) → get_elem? l i ≡ some a → i < length l
in_bounds [] i a e = absurd (some-ne-none a (sym e))
in_bounds (x ∷ xs) zero a e = omega arith
in_bounds (x ∷ xs) (suc i) a e = omega (arith, in_bounds xs i a e)

-- a seat that holds the slot is not one that does not
apart : (vs : List SeatView) (i j : ℕ) (v u : SeatView) → get_elem? vs i ≡ some v → v.holds ≡ false → get_elem? vs j ≡ some u → u.holds ≡ true → i ≢ j
apart vs i j v u at idle there held e = cc

module _ {T : Type 0} (trail_of : T → List Entry) (good : T → Type 0) (passes : ℕ) where
  abbrev St : Type 0
  St = State (Option T) SeatView

  abbrev M : Type 0
  M = Me (Option T) SeatView

  abbrev Rule : St → Type 0
  Rule = KeepsLockRule trail_of good passes

  abbrev word : St → ℕ
  word s = get_or s.words 0 0

  abbrev with_views : St → List SeatView → St
  with_views s vs = record { words = s.words; homes = s.homes; views = vs }

  -- only views change, the holder's stays, and together they represent the same passes
  views_change : (s : St) (r : Rule s) (vs : List SeatView) → (word s ≢ 0 → (v : SeatView) × (get_elem? vs r.holder ≡ some v) × (v.holds ≡ true))
      → ((j : ℕ) (d : SeatView) → get_elem? vs j ≡ some d → Fits passes r.trail r.holder (word s) j d)
      → ((f : Part → ℕ) → total f vs ≡ total f s.views) → Rule (with_views s vs)
  views_change s r vs away each totals = search rules

  -- an idle seat's new view fits where its lists are true
  idle_fits : (trail : List Entry) (holder at seat known : ℕ) (parts : List Part) → (0 < known → known ≡ passes) → ListsAreTrue parts trail
      → Fits passes trail holder at seat (standing_for known parts)
  idle_fits trail holder at seat known parts same are = record { same = same; lists = are; holds = λ e. absurd (no e) }

  pub sits : (slots n : ℕ) (parts : List Part)
      → Enters Rule slots 0 (λ k w. IsSeated trail_of good (step slots 0 0 0 none) (standing_for passes parts, []) k (w, []))
  sits slots n parts s r _ _ = let w : SeatView = standing_for passes [] in (
    w,
    views_change s r (s.views ++ w ∷ []) (λ z. let t = r.away z in (t.0, at_longer s.views (w ∷ []) r.holder t.0 t.1, t.2))
        (λ j d e. ⊎_elim (r.each j d) (λ (q : w ≡ d). subst (Fits passes r.trail r.holder (word s) j) q
        (idle_fits r.trail r.holder (word s) j passes [] (λ _. refl) tt)) (at_snoc s.views w d j e))
        (λ f. omega (arith, total_snoc f s.views w)),
    refl,
  )

  -- the first pass of an idle seat goes to a new seat
  pub splits : (id : ℕ) (v : SeatView) → v.holds ≡ false
      → Splits Rule id v (standing_for v.passes (rest_parts v.parts)) (standing_for v.passes (first_part v.parts))
  splits id v idle s r at = let w : SeatView = standing_for v.passes (rest_parts v.parts) in let o : SeatView = standing_for v.passes (first_part v.parts) in
      let old = r.each id v at in let Fit : ℕ → SeatView → Type 0 = Fits passes r.trail r.holder (word s) in
      let rest_fits = idle_fits r.trail r.holder (word s) id v.passes (rest_parts v.parts) old.same (are_rest v.parts r.trail old.lists) in
      views_change s r (set s.views id w ++ o ∷ [])
      (λ z. let t = r.away z in let far : r.holder ≢ id = λ e. apart s.views id r.holder v t.0 at idle t.1 t.2 (sym e) in
      (t.0, at_longer (set s.views id w) (o ∷ []) r.holder t.0 (set_else s.views id r.holder w far ∙ t.1), t.2))
      (λ j d e. ⊎_elim (seats_stay Fit s.views id w rest_fits (λ k x _. r.each k x) j d)
      (λ (q : o ≡ d). subst (Fit j) q (idle_fits r.trail r.holder (word s) j v.passes (first_part v.parts) old.same (are_first v.parts r.trail old.lists)))
      (at_snoc (set s.views id w) o d j e))
      (λ f. omega (arith, total_set f s.views id v w at, tally_cut f v.parts, total_snoc f (set s.views id w) o))

  -- one seat for the passes of two idle ones
  pub joins : (id : ℕ) (v : SeatView) (other : ℕ) (u : SeatView) → v.holds ≡ false → u.holds ≡ false
      → Joins Rule id v other u (standing_for v.passes (v.parts ++ u.parts)) (standing_for 0 [])
  joins id v other u idle idle' s r at far there = let w : SeatView = standing_for v.passes (v.parts ++ u.parts) in let o : SeatView = standing_for 0 [] in
      let old = r.each id v at in let vs : List SeatView = set s.views id w in let Fit : ℕ → SeatView → Type 0 = Fits passes r.trail r.holder (word s) in
      let there' : get_elem? s.views other ≡ some u = sym (set_else s.views id other w far) ∙ there in let old' = r.each other u there' in
      let both_fit = idle_fits r.trail r.holder (word s) id v.passes (v.parts ++ u.parts) old.same (are_append v.parts u.parts r.trail old.lists old'.lists) in
      let spent_fits = idle_fits r.trail r.holder (word s) other 0 [] (λ h. absurd (omega arith)) tt in
      views_change s r (set vs other o)
      (λ z. let t = r.away z in (
        t.0,
        set_else vs other r.holder o (λ e. apart s.views other r.holder u t.0 there' idle' t.1 t.2 (sym e))
            ∙ (set_else s.views id r.holder w (λ e. apart s.views id r.holder v t.0 at idle t.1 t.2 (sym e)) ∙ t.1),
        t.2,
      ))
      (seats_stay Fit vs other o spent_fits (λ k x _. seats_stay Fit s.views id w both_fit (λ i y _. r.each i y) k x))
      (λ f. omega (arith, total_set f s.views id v w at, total_set f vs other u o there, tally_append f v.parts u.parts))

  -- a seat takes the slot where the word is 0
  pub tries : (slots id : ℕ) (me : M) → Allows Rule slots id me 0 (λ n. either (eqb n 0) 1 n) (TakesState trail_of good (step slots 0 0 1 none) me)
  tries slots id me s r deep at _ = let x : ℕ = word s in let v : SeatView = me.0 in let wide = r.one_word in let many = r.one_slot in dite (ℕ_discrete x 0)
      (λ hit. let d = r.home hit in let w : SeatView = holding v.passes v.parts (trail_of d.0) in let old = r.each id v at in
      let now : get_or (set s.words 0 1) 0 0 ≡ 1 = get_or-set_same s.words 0 1 0 (omega arith) in (
        w,
        takes 0 (Some d.0),
        d.1,
        subst (λ (b : Bool). Rule (stepped s 0 (either b 1 x) id me.1 w (takes 0 (Some d.0)))) (sym (eq-eqb x 0 hit)) record {
          trail = r.trail;
          holder = id;
          one_word = length-set s.words 0 1 ∙ wide;
          one_slot = length-set s.homes 0 none ∙ many;
          home = λ z. absurd (omega (arith, now, z));
          away = λ _. (w, set_here s.views id w (in_bounds s.views id v at), refl);
          each = seats_stay (Fits passes r.trail id (get_or (set s.words 0 1) 0 0)) s.views id w
              record { same = old.same; lists = old.lists; holds = λ _. (refl, d.2, now) }
              (λ j u other e. let f = r.each j u e in record { same = f.same; lists = f.lists; holds = λ q. let t = (f.holds q).2 in absurd (omega arith) });
          whole = same_total one s.views id v w at refl ∙ r.whole;
          summed = same_total weight s.views id v w at refl ∙ r.summed;
          once = λ pass. subst (λ (n : ℕ). n ≤ 1) (sym (same_total (is_of pass) s.views id v w at refl)) (r.once pass);
        },
        (
          (λ _. (
            d.0,
            refl,
            d.3,
            (
              subst (ListsAreTrue v.parts) (sym d.2) old.lists,
              λ some_pass every. total_alone s.views id v at (tally_one v.parts ∙ (every ∙ (old.same some_pass ∙ sym r.whole)))
                  ∙ (r.summed ∙ ap (λ (t : List Entry). length t) (sym d.2)),
            ),
          )),
          λ not. absurd (not hit),
        ),
      ))
      (λ miss. (
        v,
        keeps,
        tt,
        subst (λ (b : Bool). Rule (stepped s 0 (either b 1 x) id me.1 v keeps)) (sym (ne_eqb x 0 miss))
            (subst (λ (p : List ℕ × List SeatView). Rule record { words = p.0; homes = s.homes; views = p.1 })
            (λ i. (sym (set-get_or s.words 0 0) i, sym (set_again s.views id v at) i)) r),
        ((λ hit. absurd (miss hit)), λ _. refl),
      ))

  -- the holder gives the slot back, with the state d and the view w
  returns : (s : St) (r : Rule s) (id : ℕ) (v w : SeatView) (d : T) → get_elem? s.views id ≡ some v → v.holds ≡ true → good d
      → (0 < w.passes → w.passes ≡ passes) → w.holds ≡ false → ListsAreTrue w.parts (trail_of d)
      → ((j : ℕ) (u : SeatView) → j ≢ id → get_elem? s.views j ≡ some u → ListsAreTrue u.parts (trail_of d))
      → tally one w.parts ≡ tally one v.parts → ((pass : ℕ) → tally (is_of pass) w.parts ≡ tally (is_of pass) v.parts)
      → tally weight w.parts + length r.trail ≡ tally weight v.parts + length (trail_of d)
      → Rule record { words = set s.words 0 0; homes = set s.homes 0 (some (Some d)); views = set s.views id w }
  returns s r id v w d at held fine same idle mine others ones ofs weights = let wide = r.one_word in let many = r.one_slot in
      let now : get_or (set s.words 0 0) 0 0 ≡ 0 = get_or-set_same s.words 0 0 0 (omega arith) in let old = (r.each id v at).holds held in record {
        trail = trail_of d;
        holder = id;
        one_word = length-set s.words 0 0 ∙ wide;
        one_slot = length-set s.homes 0 (some (Some d)) ∙ many;
        home = λ _. (d, set_here s.homes 0 (some (Some d)) (omega arith), refl, fine);
        away = λ z. absurd (z now);
        each = seats_stay (Fits passes (trail_of d) id (get_or (set s.words 0 0) 0 0)) s.views id w
            record { same = same; lists = mine; holds = λ q. absurd (no (sym idle ∙ q)) }
            (λ j u other e. let f = r.each j u e in
            record { same = f.same; lists = others j u other e; holds = λ q. absurd (other (sym ((f.holds q).0) ∙ old.0)) });
        whole = same_total one s.views id v w at ones ∙ r.whole;
        summed = omega (arith, total_set weight s.views id v w at, r.summed, weights);
        once = λ pass. subst (λ (n : ℕ). n ≤ 1) (sym (same_total (is_of pass) s.views id v w at (ofs pass))) (r.once pass);
      }

  pub gives_back : (slots id : ℕ) (me : M) (d : T) → me.0.holds ≡ true → me.1 ≡ (0, Some d) ∷ [] → trail_of d ≡ me.0.noted → good d
      → Allows Rule slots id me 0 (λ _. 0) (IsGiven trail_of good (step slots 0 0 0 none) me)
  gives_back slots id me d held carried noted fine s r deep at _ = let v : SeatView = me.0 in let w : SeatView = standing_for v.passes v.parts in
      let old = r.each id v at in let is : trail_of d ≡ r.trail = noted ∙ (old.holds held).1 in (
        w,
        gives,
        tt,
        subst (λ (cs : List (ℕ × Option T)). Rule (stepped s 0 0 id cs w gives)) (sym carried)
            (returns s r id v w d at held fine old.same refl (subst (ListsAreTrue v.parts) (sym is) old.lists)
            (λ j u _ e. subst (ListsAreTrue u.parts) (sym is) (r.each j u e).lists) refl (λ _. refl)
            (ap (λ (t : List Entry). tally weight v.parts + length t) (sym is))),
        ap (λ (cs : List (ℕ × Option T)). (w, rest cs)) carried,
      )

  abbrev head_or : Part → List Part → Part
  head_or p [] = p
  head_or p (q ∷ qs) = q

  abbrev last_or : ℕ → List Entry → ℕ
  last_or k [] = k
  last_or k (e ∷ es) = last_or e.1 es

  last_snoc : (k : ℕ) (es : List Entry) (e : Entry) → last_or k (es ++ e ∷ []) ≡ e.1
  last_snoc k [] e = refl
  last_snoc k (f ∷ es) e = last_snoc f.1 es e

  abbrev carried_or : T → List (ℕ × Option T) → T
  carried_or d [] = d
  carried_or d (x ∷ xs) = unwrap_or x.1 d

  -- the same, where the seat's one pass has appended an entry
  pub posts : (slots id : ℕ) (me : M) (pass place : ℕ) (list : List Receipt) (d : T) → me.0.holds ≡ true → me.0.parts ≡ (pass, list) ∷ []
      → me.1 ≡ (0, Some d) ∷ [] → trail_of d ≡ me.0.noted ++ (pass, place) ∷ [] → good d
      → Allows Rule slots id me 0 (λ _. 0) (IsPosted trail_of good (step slots 0 0 0 none) me)
  posts slots id me pass place list d held own carried grown fine s r deep at _ = let v : SeatView = me.0 in
      let now : List Receipt = list ++ (suc (length v.noted), place) ∷ [] in let w : SeatView = standing_for v.passes ((pass, now) ∷ []) in
      let old = r.each id v at in let noted : v.noted ≡ r.trail = (old.holds held).1 in
      let is : trail_of d ≡ r.trail ++ (pass, place) ∷ [] = grown ∙ ap (λ (t : List Entry). t ++ (pass, place) ∷ []) noted in
      let was : list ≡ receipts_of pass v.noted = (subst (λ (ps : List Part). ListsAreTrue ps r.trail) own old.lists).0 ∙ ap (receipts_of pass) (sym noted) in
      let mine : tally (is_of pass) v.parts ≡ 1 = ap (tally (is_of pass)) own ∙ ap (λ (b : Bool). (if b then 1 else 0) + 0) (eq-eqb pass pass refl) in
      let none_else : (j : ℕ) (u : SeatView) → j ≢ id → get_elem? s.views j ≡ some u → tally (is_of pass) u.parts ≡ 0 =
      λ j u other e. omega (arith, total_two (is_of pass) s.views id j v u at e other, r.once pass, mine) in
      let weights : tally weight w.parts + length r.trail ≡ tally weight v.parts + length (trail_of d) =
      omega (
        arith,
        length-append list ((suc (length v.noted), place) ∷ []),
        length-append r.trail ((pass, place) ∷ []),
        ap (λ (t : List Entry). length t) is,
        ap (tally weight) own,
      ) in (
        w,
        gives,
        tt,
        subst (λ (cs : List (ℕ × Option T)). Rule (stepped s 0 0 id cs w gives)) (sym carried)
            (returns s r id v w d at held fine old.same refl (list_grows pass place list v.noted (trail_of d) was grown, tt)
            (λ j u other e. subst (ListsAreTrue u.parts) (sym is) (others_stay u.parts r.trail pass place (none_else j u other e) (r.each j u e).lists))
            (ap (tally one) (sym own)) (λ by. ap (tally (is_of by)) (sym own)) weights),
        λ by there l' d' own' carried' grown'. let p : (pass, list) ≡ (by, l') = ap (head_or (0, [])) (sym own ∙ own') in
            let same_d : d ≡ d' = ap (carried_or d) (sym carried ∙ carried') in let same_place : place ≡ there = sym (last_snoc 0 v.noted (pass, place))
            ∙ (ap (last_or 0) (sym grown ∙ (ap trail_of same_d ∙ grown')) ∙ last_snoc 0 v.noted (by, there)) in
            λ i. (standing_for v.passes (((p i).0, (p i).1 ++ (suc (length v.noted), same_place i) ∷ []) ∷ []), rest (carried i)),
      )

  new_are_true : (first n : ℕ) → ListsAreTrue (new_parts first n) []
  new_are_true first zero = tt
  new_are_true first (suc n) = (refl, new_are_true (suc first) n)

  new_count : (first n : ℕ) → tally one (new_parts first n) ≡ n
  new_count first zero = refl
  new_count first (suc n) = omega (arith, new_count (suc first) n)

  new_weight : (first n : ℕ) → tally weight (new_parts first n) ≡ 0
  new_weight first zero = refl
  new_weight first (suc n) = omega (arith, new_weight (suc first) n)

  new_past : (pass first n : ℕ) → pass < first → tally (is_of pass) (new_parts first n) ≡ 0
  new_past pass first zero below = refl
  new_past pass first (suc n) below = let other : is_of pass (first, []) ≡ 0 = ap (λ (b : Bool). if b then 1 else 0) (ne_eqb first pass (λ e. omega arith)) in
      omega (arith, other, new_past pass (suc first) n (omega arith))

  new_once : (pass first n : ℕ) → tally (is_of pass) (new_parts first n) ≤ 1
  new_once pass first zero = omega arith
  new_once pass first (suc n) = dite (ℕ_discrete first pass)
      (λ hit. let own : is_of pass (first, []) ≡ 1 = ap (λ (b : Bool). if b then 1 else 0) (eq-eqb first pass hit) in
      omega (arith, own, new_past pass (suc first) n (omega arith)))
      (λ miss. let other : is_of pass (first, []) ≡ 0 = ap (λ (b : Bool). if b then 1 else 0) (ne_eqb first pass miss) in
      omega (arith, other, new_once pass (suc first) n))

  pub starts : (d : T) → trail_of d ≡ [] → good d → Rule (opening (0 ∷ []) (Some d ∷ []) (standing_for passes (new_parts 0 passes)))
  starts d empty fine = let w : SeatView = standing_for passes (new_parts 0 passes) in record {
    trail = [];
    holder = 0;
    one_word = refl;
    one_slot = refl;
    home = λ _. (d, refl, empty, fine);
    away = λ z. absurd (z refl);
    each = each;
    whole = omega (arith, new_count 0 passes);
    summed = omega (arith, new_weight 0 passes);
    once = λ pass. omega (arith, new_once pass 0 passes);
  }
    where
      each : (j : ℕ) (u : SeatView) → get_elem? (standing_for passes (new_parts 0 passes) ∷ []) j ≡ some u → Fits passes [] 0 0 j u
      each zero u e = subst (Fits passes [] 0 0 0) (some-injective (standing_for passes (new_parts 0 passes)) u e)
          (idle_fits [] 0 0 0 passes (new_parts 0 passes) (λ _. refl) (new_are_true 0 passes))
      each (suc j) u e = absurd (some-ne-none u (sym e))

-- What taking an entry out is to all entries.
use Rattle.std.proofs.Common.{◌≡◌, ℕ, zero, suc, ◌<◌, ◌≤◌, List, [], ◌∷◌, ◌++◌, length, get_or, set, take, drop, sym, ap, ◌∙◌, subst, refl, arith, append_assoc, Some, rules}
use Rattle.std.proofs.lemmas.Grind.{common_steps}
use Rattle.std.specs.Global.{Vec}
use Rattle.std.specs.List.{remove, AllByRecursion}
use Rattle.std.specs.Map.{keys_of, lookup, remove_entry}
use Rattle.std.specs.BTreeMap.{is_at}
use Rattle.std.specs.Cmp.{IsTotalOrder}
use Rattle.std.specs.List.Sorted.{IsStrictlySortedBy}
use Rattle.std.specs.declared.cmp.Ordering.{Ordering}
use Rattle.std.specs.declared.cmp.Ordering.TheVariants.{Less}
use Rattle.std.proofs.lemmas.List.{get_or_default}
use Rattle.std.proofs.lemmas.List.Edits.{length-remove}
use Rattle.sorted_runs.specs.Rows.{entries, Headed, StartsWith, AllUpTo, IsRuns}
use Rattle.sorted_runs.specs.Places.{IsRunFor, IsFoundAt, IsGap}
use Rattle.sorted_runs.specs.Edits.{IsShaped, LosesAt}
use Rattle.sorted_runs.proofs.Lists.{one_more, Rises, rises_from, rises_to, here_hit, here_gap, got_hit, remove_past, remove_here, remove_above, entries_set, in_runs}
use Rattle.sorted_runs.proofs.Shaped.{headed_keep, headed_set, bounded_set, bounded_at}
use Rattle.sorted_runs.specs.declared.edits.TheConstants.{FULL}

without_one : {X : Type 0} (P : X → Type 0) (a c : List X) (x : X) → AllByRecursion P (a ++ x ∷ c) → AllByRecursion P (a ++ c)
without_one P [] c x h = h.1
without_one P (y ∷ a) c x h = (h.0, without_one P a c x h.1)

rises_without : {K V : Type 0} (R : K → K → Ordering) (a c : List (K × V)) (x : K × V) → Rises R (a ++ x ∷ c) → Rises R (a ++ c)
rises_without R [] c x h = h.1
rises_without R (y ∷ a) c x h = (without_one (λ z. R y.0 z.0 ≡ Less) a c x h.0, rises_without R a c x h.1)

pub entry_there : {X : Type 0} (xs : List X) (i : ℕ) → i < length xs → X
entry_there [] i lt = absurd (omega arith)
entry_there (x ∷ xs) i lt = x

module _ {K V : Type 0} where
  starts_remove : (f : K) (es : List (K × V)) (i : ℕ) → StartsWith f es → (i ≡ 0 → ⊥) → StartsWith f (remove es i)
  starts_remove f es i s ne = search rules

  pub headed_gone : (fs : List K) (vs : List (Vec (K × V))) (r : ℕ) (w : Vec (K × V)) → Headed fs vs → r < length vs → Headed (remove fs r) (remove (set vs r w) r)
  headed_gone [] [] r w h lt = absurd (omega arith)
  headed_gone [] (v ∷ vs) r w h lt = absurd h
  headed_gone (f ∷ fs) [] r w h lt = absurd h
  headed_gone (f ∷ fs) (v ∷ vs) zero w h lt = h.1
  headed_gone (f ∷ fs) (v ∷ vs) (suc r) w h lt = (h.0, headed_gone fs vs r w h.1 (omega arith))

  pub bounded_gone : (vs : List (Vec (K × V))) (r m : ℕ) (w : Vec (K × V)) → AllUpTo m vs → r < length vs → AllUpTo m (remove (set vs r w) r)
  bounded_gone [] r m w h lt = absurd (omega arith)
  bounded_gone (v ∷ vs) zero m w h lt = h.1
  bounded_gone (v ∷ vs) (suc r) m w h lt = (h.0, bounded_gone vs r m w h.1 (omega arith))

  pub entries_gone : (vs : List (Vec (K × V))) (r : ℕ) (w : Vec (K × V)) → r < length vs → entries (remove (set vs r w) r) ≡ entries (take r vs) ++ entries (drop (suc r) vs)
  entries_gone [] r w lt = absurd (omega arith)
  entries_gone (v ∷ vs) zero w lt = refl
  entries_gone (v ∷ vs) (suc r) w lt = ap (λ l. v.items ++ l) (entries_gone vs r w (omega arith)) ∙ sym (append_assoc v.items (entries (take r vs)) (entries (drop (suc r) vs)))

  -- the run as the code reads it, the run afterwards, and what is asked of both
  module _ (fs : List K) (vs : List (Vec (K × V))) (r i : ℕ) (m w : Vec (K × V)) (h : IsShaped fs vs) (lt : r < length vs) (mv : m ≡ get_or vs r m) (within : i < length (get_or vs r m).items) (is : w.items ≡ remove m.items i) where
    left_is : w.items ≡ remove (get_or vs r m).items i
    left_is = is ∙ ap (λ (x : Vec (K × V)). remove x.items i) mv

    shorter : length w.items ≤ FULL
    shorter = search (rules, bounded_at, length-remove)

    pub lost : (d : Vec (K × V)) → LosesAt vs r i d (set vs r w)
    lost d = entries_set vs r w lt ∙ ap (λ l. entries (take r vs) ++ (l ++ entries (drop (suc r) vs))) (left_is ∙ ap (λ (x : Vec (K × V)). remove x.items i) (get_or_default vs r m d lt))

    pub lost_behind : (i ≡ 0 → ⊥) → IsShaped fs (set vs r w)
    lost_behind ne = record {
      headed = headed_keep fs vs r m w h.headed lt (λ f s. subst (StartsWith f) (sym left_is) (starts_remove f (get_or vs r m).items i s ne));
      bounded = bounded_set vs r FULL w h.bounded shorter;
    }

    pub lost_first : (x : K × V) → 0 < length w.items → x ≡ get_or w.items 0 x → IsShaped (set fs r x.0) (set vs r w)
    lost_first x some at = search (rules, headed_set, bounded_set, shorter)

    pub lost_run : length w.items ≡ 0 → IsShaped (remove fs r) (remove (set vs r w) r)
    lost_run none = record { headed = headed_gone fs vs r w h.headed lt; bounded = bounded_gone vs r FULL w h.bounded lt }

    none_left : (es : List (K × V)) → length es ≡ 0 → [] ≡ es
    none_left es e = grind (arith, common_steps)

    pub lost_last : length w.items ≡ 0 → (d : Vec (K × V)) → LosesAt vs r i d (remove (set vs r w) r)
    lost_last none d = entries_gone vs r w lt ∙ ap (λ l. entries (take r vs) ++ (l ++ entries (drop (suc r) vs))) (none_left w.items none ∙ left_is ∙ ap (λ (x : Vec (K × V)). remove x.items i) (get_or_default vs r m d lt))

-- the key has gone
module _ {K V : Type 0} {R : K → K → Ordering} (o : IsTotalOrder R) (k : K) (fs : List K) (vs : List (Vec (K × V))) (len : ℕ) (inv : IsRuns R fs vs len) (r : ℕ) (at : IsRunFor R fs k r) (d : Vec (K × V)) (dv : d ≡ get_or vs r d) (l : List (K × V)) (ld : l ≡ d.items) (i : ℕ) (hit : IsFoundAt R l k i) where
  hit_run : IsFoundAt R (get_or vs r d).items k i
  hit_run = subst (λ q. IsFoundAt R q k i) (ld ∙ ap (λ (x : Vec (K × V)). x.items) dv) hit

  pub hit_place : (m : Vec (K × V)) → i < length (get_or vs r m).items
  hit_place m =
      let w = hit_run.within in
      let f = ap (λ (x : Vec (K × V)). length x.items) (get_or_default vs r d m (in_runs o k fs vs len inv r at)) in
      omega arith

  pub gone_is : (x : K × V) (fs' : List K) (new : List (Vec (K × V))) (len' : ℕ) → IsShaped fs' new → LosesAt vs r i d new → suc len' ≡ len → (entries new ≡ remove_entry (is_at (R k)) (entries vs)) × IsRuns R fs' new len'
  gone_is x fs' new len' formed loses less =
      let run = (get_or vs r d).items in
      let front = entries (take r vs) in
      let back = entries (drop (suc r) vs) in
      let h = here_hit o k fs vs len inv r at d i x hit_run in
      let a = front ++ take i run in
      let c = drop (suc i) run ++ back in
      let y = get_or run i x in
      let after : entries new ≡ a ++ c = loses ∙ ap (λ q. front ++ q) (append_assoc (take i run) (drop (suc i) run) back) ∙ sym (append_assoc front (take i run) c) in
      let out : remove_entry (is_at (R k)) (entries vs) ≡ a ++ c = ap (λ q. remove_entry (is_at (R k)) q) h.split ∙ remove_past R k a (y ∷ c) h.before ∙ ap (λ q. a ++ q) (remove_here R k y c (hit_run.here x)) in
      let long : length (entries vs) ≡ suc (length (entries new)) = ap (λ q. length q) h.split ∙ one_more a c y ∙ ap (λ q. suc (length q)) (sym after) in
      let was = inv.counted in (
        after ∙ sym out,
        record {
          headed = formed.headed;
          rising = subst (λ q. IsStrictlySortedBy R (keys_of q)) (sym after) (rises_to R (a ++ c) (rises_without R a c y (subst (Rises R) h.split (rises_from R (entries vs) inv.rising))));
          bounded = formed.bounded;
          counted = omega arith;
        },
      )

  pub had_here : (x : K × V) (u : V) → u ≡ (get_or (get_or vs r d).items i x).1 → Some u ≡ lookup (is_at (R k)) (entries vs)
  had_here x u is = ap Some is ∙ sym (got_hit o k fs vs len inv r at d i x hit_run)

  pub held : (x : K × V) → 0 < len
  held x = search rules

pub gap_stays : {K V : Type 0} {R : K → K → Ordering} (o : IsTotalOrder R) (k : K) (fs : List K) (vs : List (Vec (K × V))) (len : ℕ) (inv : IsRuns R fs vs len) (r : ℕ) (at : IsRunFor R fs k r) (d : Vec (K × V)) → d ≡ get_or vs r d → (l : List (K × V)) → l ≡ d.items → (i : ℕ) → IsGap R l k i → entries vs ≡ remove_entry (is_at (R k)) (entries vs)
gap_stays {K} {V} {R} o k fs vs len inv r at d dv l ld i gap =
    let run = (get_or vs r d).items in
    let h = here_gap o k fs vs len inv r at d i (subst (λ q. IsGap R q k i) (ld ∙ ap (λ (x : Vec (K × V)). x.items) dv) gap) in
    let a = entries (take r vs) ++ take i run in
    let b = drop i run ++ entries (drop (suc r) vs) in
    h.split ∙ sym (ap (λ q. remove_entry (is_at (R k)) q) h.split ∙ remove_past R k a b h.before ∙ ap (λ q. a ++ q) (remove_above R k b h.after))

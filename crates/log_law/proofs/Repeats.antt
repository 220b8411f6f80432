-- Law 1 as the scan goes: records by what is kept of each key, truncations by the first of their epoch.
use Rattle.std.proofs.Common.{◌≡◌, ℕ, zero, suc, ◌+◌, ◌<◌, ◌≤◌, ◌⊎◌, inl, inr, ⊎_elim, List, [], ◌∷◌, ◌++◌, length, take, drop, refl, sym, ap, ◌∙◌, subst, arith, Option, Some, None, Bool, true, false, cond, rules}
use Rattle.std.specs.Prelude.{slice_get, ◌==◌}
use Rattle.std.specs.List.{Contains}
use Rattle.std.proofs.lemmas.Bool.{eqb-true, eq-eqb, and_parts, and_from, cases_Bool}
use Rattle.std.proofs.lemmas.Option.{none-some, same_Some, slice_get_within, get_or_from_slice_get}
use Rattle.std.proofs.lemmas.List.{take_more, take-append-drop}
use Rattle.std.proofs.Math.Seq.{drop-cons}
use Rattle.std.proofs.lemmas.List.Elements.{Contains-append_cases}
use Rattle.redo_core.specs.Data.{RecordData, CutData, AdvanceData}
use Rattle.redo_core.specs.Keys.{key_in, key_of}
use Rattle.redo_core.specs.declared.keys.Key.{Key}
use Rattle.redo_core.specs.Sets.{cuts}
use Rattle.redo_core.specs.Sound.{Law1}
use Rattle.redo_core.specs.declared.facts.Fact.{Fact}
use Rattle.redo_core.specs.declared.facts.Fact.TheVariants.{Record, Cut, Advance}
use Rattle.redo_core.proofs.Members.{none_in, here, there, which}
use Rattle.redo_core.proofs.FactParts.{cut_in}
use Rattle.log_law.specs.Counted.{first_at, first_cut, or_first}
use Rattle.std.specs.Prelude.{MatchBool, not}
use Rattle.std.specs.HashMap.{get}
use Rattle.log_law.specs.Keys.{KeepLaw1To, IsFirstKeyConflict, IsSeenAt, IsSeen, Seen, is_same_key}
use Rattle.log_law.proofs.FirstCuts.{first_cut-append, first_at_epoch, first_among}
use Rattle.log_law.proofs.Least.{same_redo}

-- the facts up to an index and the one at it
pub taken : (log : List Fact) (p : ℕ) (f : Fact) → slice_get log p ≡ Some f → take (p + 1) log ≡ take p log ++ f ∷ []
taken log p f at = take_more log p f (slice_get_within log p f at) ∙ ap (λ g. take p log ++ g ∷ []) (get_or_from_slice_get log p f f at)

pub taken_cases : (log : List Fact) (p : ℕ) (f g : Fact) → slice_get log p ≡ Some f → Contains (take (p + 1) log) g → Contains (take p log) g ⊎ (f ≡ g)
taken_cases log p f g at h =
    ⊎_elim inl
    (λ (k : Contains (f ∷ []) g). inr (⊎_elim (λ (e : f ≡ g). e) (λ (n : Contains [] g). absurd (none_in g n)) (which f [] g k)))
    (Contains-append_cases (take p log) (f ∷ []) g (subst (λ xs. Contains xs g) (taken log p f at) h))

pub kept_more : (log : List Fact) (p : ℕ) (f : Fact) → slice_get log p ≡ Some f → Law1 (take p log) f → KeepLaw1To log p → KeepLaw1To log (p + 1)
kept_more log p f at law kept q g l s = search rules

-- a record with nothing of its key before it
pub law1_none : (log : List Fact) (p : ℕ) (r : RecordData) → IsSeenAt log p r.epoch r.number None → Law1 (take p log) (Record r)
law1_none log p r h (Record s) m k = absurd (h s m k.0 k.1)
law1_none log p r h (Cut c) m k = absurd k
law1_none log p r h (Advance a) m k = absurd k

-- a record that is the one before it of its key
pub law1_same : (log : List Fact) (p i : ℕ) (r : RecordData) → IsSeenAt log p r.epoch r.number (Some i) → slice_get log i ≡ Some (Record r)
    → Law1 (take p log) (Record r)
law1_same log p i r h e (Record s) m k =
    let same : h.0 ≡ r = same_redo h.0 r (same_Some (Record h.0) (Record r) (sym h.2 ∙ e)) in
    ap Record (h.5 s m k.0 k.1 ∙ same)
law1_same log p i r h e (Cut c) m k = absurd k
law1_same log p i r h e (Advance a) m k = absurd k

in_taken : (log : List Fact) (p i : ℕ) (f : Fact) → i < p → slice_get log i ≡ Some f → Contains (take p log) f
in_taken [] p i f l e = absurd (none-some f e)
in_taken (x ∷ xs) zero i f l e = absurd (omega (arith, l))
in_taken (x ∷ xs) (suc p) zero f l e = subst (λ y. Contains (y ∷ take p xs) f) (sym (same_Some x f e)) (here f (take p xs))
in_taken (x ∷ xs) (suc p) (suc i) f l e = there x (take p xs) f (in_taken xs p i f (omega (arith, l)) e)

-- a record that differs from the one before it of its key
pub law1_not : (log : List Fact) (p i : ℕ) (r : RecordData) → IsSeenAt log p r.epoch r.number (Some i) → (slice_get log i ≡ Some (Record r) → ⊥)
    → Law1 (take p log) (Record r) → ⊥
law1_not log p i r h differ law = differ (h.2 ∙ ap Some (law (Record h.0) (in_taken log p i (Record h.0) h.1 h.2) (h.3, h.4)))

-- the map's entry of a key, one index on
pub seen_here : (log : List Fact) (p : ℕ) (r : RecordData) → slice_get log p ≡ Some (Record r) → Law1 (take p log) (Record r)
    → IsSeenAt log (p + 1) r.epoch r.number (Some p)
seen_here log p r at law = (
  r,
  omega arith,
  at,
  refl,
  refl,
  λ s m e n. ⊎_elim
      (λ (k : Contains (take p log) (Record s)). same_redo s r (law (Record s) k (e, n)))
      (λ (k : Record r ≡ Record s). sym (same_redo r s k))
      (taken_cases log p (Record r) (Record s) at m),
)

pub seen_other : (log : List Fact) (p : ℕ) (f : Fact) (e n : ℕ) (o : Option ℕ) → slice_get log p ≡ Some f
    → ((r : RecordData) → f ≡ Record r → r.epoch ≡ e → r.number ≡ n → ⊥) → IsSeenAt log p e n o → IsSeenAt log (p + 1) e n o
seen_other log p f e n None at apart h = λ s m q k. ⊎_elim
    (λ (i : Contains (take p log) (Record s)). h s i q k)
    (λ (i : f ≡ Record s). apart s i q k)
    (taken_cases log p f (Record s) at m)
seen_other log p f e n (Some i) at apart h = (
  h.0,
  (let l : i < p = h.1 in omega arith),
  h.2,
  h.3,
  h.4,
  λ s m q k. ⊎_elim
      (λ (j : Contains (take p log) (Record s)). h.5 s j q k)
      (λ (j : f ≡ Record s). absurd (apart s j q k))
      (taken_cases log p f (Record s) at m),
)

-- the map's entry of every key, after the record's index is stored under its own
pub seen_more : (log : List Fact) (p : ℕ) (r : RecordData) (e n : ℕ) (old new : Option ℕ) → slice_get log p ≡ Some (Record r) → Law1 (take p log) (Record r)
    → (is_same_key (key_of r) (key_in e n) ≡ true → new ≡ Some p) → (is_same_key (key_of r) (key_in e n) ≡ false → new ≡ old) → IsSeenAt log p e n old
    → IsSeenAt log (p + 1) e n new
seen_more log p r e n old new at law hit miss h =
    ⊎_elim
    (λ (t : is_same_key (key_of r) (key_in e n) ≡ true).
    let parts = and_parts (r.epoch == e) (r.number == n) t in
    let qe : r.epoch ≡ e = eqb-true r.epoch e parts.0 in
    let qn : r.number ≡ n = eqb-true r.number n parts.1 in
    subst (IsSeenAt log (p + 1) e n) (sym (hit t))
    (subst (λ k. IsSeenAt log (p + 1) e k (Some p)) qn (subst (λ k. IsSeenAt log (p + 1) k r.number (Some p)) qe (seen_here log p r at law))))
    (λ (t : is_same_key (key_of r) (key_in e n) ≡ false).
    subst (IsSeenAt log (p + 1) e n) (sym (miss t))
    (seen_other log p (Record r) e n old at
    (λ s q i j.
    let same : r ≡ s = same_redo r s q in
    let yes' : is_same_key (key_of r) (key_in e n) ≡ true = and_from (r.epoch == e) (r.number == n) (eq-eqb r.epoch e (ap (λ x. x.epoch) same ∙ i))
    (eq-eqb r.number n (ap (λ x. x.number) same ∙ j)) in
    let clash : true ≡ false = sym yes' ∙ t in cc) h))
    (cases_Bool (is_same_key (key_of r) (key_in e n)))

-- truncations that are the first of their epoch in the whole log
abbrev pub AreFirstTo : List Fact → ℕ → Type 0
AreFirstTo log p = (c : CutData) → Contains (take p log) (Cut c) → first_cut log c.epoch ≡ Some c

pub cut_eq : (c d : CutData) → Cut c ≡ Cut d → c ≡ d
cut_eq c d e = cc

pub first_more : (log : List Fact) (p : ℕ) (f : Fact) → slice_get log p ≡ Some f → ((c : CutData) → f ≡ Cut c → first_cut log c.epoch ≡ Some c)
    → AreFirstTo log p → AreFirstTo log (p + 1)
first_more log p f at here' h c m = ⊎_elim (h c) (here' c) (taken_cases log p f (Cut c) at m)

pub law1_first : (log : List Fact) (p : ℕ) (c : CutData) → AreFirstTo log p → first_cut log c.epoch ≡ Some c → Law1 (take p log) (Cut c)
law1_first log p c h e = search rules

first_here : (c : CutData) (rest : List Fact) → first_cut (Cut c ∷ rest) c.epoch ≡ Some c
unfolding cuts
first_here c rest = ap (λ b. cond b (Some c) (first_at c.epoch (cuts rest))) (eq-eqb c.epoch c.epoch refl)

pub law1_later : (log : List Fact) (p : ℕ) (c : CutData) → slice_get log p ≡ Some (Cut c) → (first_cut log c.epoch ≡ Some c → ⊥) → Law1 (take p log) (Cut c) → ⊥
law1_later log p c at differ law = go (first_cut (take p log) c.epoch) refl
  where
    inside : p < length log
    inside = slice_get_within log p (Cut c) at

    parts : log ≡ take p log ++ Cut c ∷ drop (suc p) log
    parts = sym (take-append-drop p log) ∙ ap (λ ys. take p log ++ ys)
        (drop-cons log p (Cut c) inside ∙ ap (λ g. g ∷ drop (suc p) log) (get_or_from_slice_get log p (Cut c) (Cut c) at))

    whole : first_cut log c.epoch ≡ or_first (first_cut (take p log) c.epoch) (Some c)
    whole = ap (λ xs. first_cut xs c.epoch) parts ∙ first_cut-append (take p log) (Cut c ∷ drop (suc p) log) c.epoch ∙ ap
        (or_first (first_cut (take p log) c.epoch)) (first_here c (drop (suc p) log))

    go : (o : Option CutData) → first_cut (take p log) c.epoch ≡ o → ⊥
    go None q = differ (whole ∙ ap (λ o. or_first o (Some c)) q)
    go (Some d) q =
        let e : d.epoch ≡ c.epoch = first_at_epoch c.epoch (cuts (take p log)) d q in
        let among = (cut_in (take p log) d).0 (first_among c.epoch (cuts (take p log)) d q) in
        let same : d ≡ c = cut_eq d c (law (Cut d) among e) in
        differ (whole ∙ ap (λ o. or_first o (Some c)) q ∙ ap Some same)

-- what the code reads and writes of a key
pub seen_at_key : (log : List Fact) (p : ℕ) (seen : Seen) (r : RecordData) (e n : ℕ) (o : Option ℕ) → e ≡ r.epoch → n ≡ r.number → o ≡ get is_same_key seen (key_in e n)
    → IsSeen log p seen → IsSeenAt log p r.epoch r.number o
seen_at_key log p seen r e n o qe qn q h = search rules

pub seen_after : (log : List Fact) (p : ℕ) (r : RecordData) (old new : Seen) (e' n' : ℕ) → e' ≡ r.epoch → n' ≡ r.number
    → ((q : Key) → get is_same_key new q ≡ cond (is_same_key (key_in e' n') q) (Some p) (get is_same_key old q)) → slice_get log p ≡ Some (Record r)
    → Law1 (take p log) (Record r) → IsSeen log p old → IsSeen log (p + 1) new
seen_after log p r old new e' n' qe qn up at law h e n = search (rules, seen_more)

pub match_not : (P Q : Type 0) (b : Bool) → (b ≡ true → Q) → (b ≡ false → P) → MatchBool (not b) P Q
match_not P Q b f g = search rules

pub seen_past : (log : List Fact) (p : ℕ) (f : Fact) (seen : Seen) → slice_get log p ≡ Some f → ((r : RecordData) → f ≡ Record r → ⊥) → IsSeen log p seen
    → IsSeen log (p + 1) seen
seen_past log p f seen at apart h e n = seen_other log p f e n (get is_same_key seen (key_in e n)) at (λ r q i j. apart r q) (h e n)

-- an index after those that keep law 1, whose fact breaks it
pub broken_at : (log : List Fact) (p : ℕ) (f : Fact) → slice_get log p ≡ Some f → KeepLaw1To log p → (Law1 (take p log) f → ⊥) → IsFirstKeyConflict log p
broken_at log p f at kept broken = record { before = kept; breaks = λ g e law. broken (subst (Law1 (take p log)) (same_Some g f (sym e ∙ at)) law) }

pub law1_advance : (earlier : List Fact) (a : AdvanceData) → Law1 earlier (Advance a)
law1_advance earlier a = search rules

pub none_further : (log : List Fact) (p : ℕ) → length log ≤ p → KeepLaw1To log p → IsFirstKeyConflict log (length log)
none_further log p l kept = search (rules, slice_get_within)

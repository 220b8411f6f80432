-- A log of the epochs up to k, then the truncation of epoch k + 1, and then what was written in that epoch.
use Rattle.std.proofs.Common.{◌≡◌, ℕ, suc, ◌<◌, ◌≤◌, ◌⊎◌, ⊎_elim, inl, inr, List, ◌∷◌, ◌++◌, sym, ◌∙◌, subst, ap, arith, None}
use Rattle.std.specs.List.{Contains}
use Rattle.std.proofs.lemmas.List.Elements.{Contains-append_left, Contains-append_right, Contains-append_cases}
use Rattle.redo_core.specs.Data.{CutData, AdvanceData}
use Rattle.redo_core.specs.Shape.{cut_fault}
use Rattle.redo_core.specs.Sets.{advances}
use Rattle.redo_core.specs.Past.{ArePast}
use Rattle.redo_core.specs.Sound.{IsSound, SameKey, HasShape}
use Rattle.redo_core.specs.declared.facts.Fact.{Fact}
use Rattle.redo_core.specs.declared.facts.Fact.TheVariants.{Record, Cut, Advance}
use Rattle.redo_core.proofs.Members.{here, there, which}
use Rattle.redo_core.proofs.FactParts.{record_in, cut_in, advance_in}
use Rattle.log_law.proofs.Repeats.{cut_eq}
use Rattle.volume_logs.proofs.SetLaws.{SetLaws, AdvanceLaws, OneOfKey, KeepsSetLaws, sound_from, sound_one, sound_keeps, IsAlike, record_alike}

-- the epoch of a fact
abbrev pub epoch_of : Fact → ℕ
epoch_of (Record r) = r.epoch
epoch_of (Cut c) = c.epoch
epoch_of (Advance a) = a.epoch

abbrev pub AllUpTo : List Fact → ℕ → Type 0
AllUpTo facts k = (f : Fact) → Contains facts f → epoch_of f ≤ k

-- no truncations, and all of one epoch
abbrev pub IsOfEpoch : ℕ → Fact → Type 0
IsOfEpoch k (Record r) = r.epoch ≡ k
IsOfEpoch k (Cut c) = ⊥
IsOfEpoch k (Advance a) = a.epoch ≡ k

abbrev pub AllOfEpoch : List Fact → ℕ → Type 0
AllOfEpoch facts k = (f : Fact) → Contains facts f → IsOfEpoch k f

abbrev pub layered : List Fact → CutData → List Fact → List Fact
layered log cut facts = log ++ Cut cut ∷ facts

-- ---- members
pub in_log : (log : List Fact) (cut : CutData) (facts : List Fact) (f : Fact) → Contains log f → Contains (layered log cut facts) f
in_log log cut facts f h = Contains-append_left log (Cut cut ∷ facts) f h

pub in_cut : (log : List Fact) (cut : CutData) (facts : List Fact) → Contains (layered log cut facts) (Cut cut)
in_cut log cut facts = Contains-append_right log (Cut cut ∷ facts) (Cut cut) (here (Cut cut) facts)

pub in_facts : (log : List Fact) (cut : CutData) (facts : List Fact) (f : Fact) → Contains facts f → Contains (layered log cut facts) f
in_facts log cut facts f h = Contains-append_right log (Cut cut ∷ facts) f (there (Cut cut) facts f h)

pub layer_of : (log : List Fact) (cut : CutData) (facts : List Fact) (f : Fact) → Contains (layered log cut facts) f
    → Contains log f ⊎ ((Cut cut ≡ f) ⊎ Contains facts f)
layer_of log cut facts f h = ⊎_elim inl (λ (k : Contains (Cut cut ∷ facts) f). inr (which (Cut cut) facts f k))
    (Contains-append_cases log (Cut cut ∷ facts) f h)

key_epoch : (f g : Fact) → SameKey f g → epoch_of f ≡ epoch_of g
key_epoch (Record r) (Record s) key = key.0
key_epoch (Record r) (Cut c) key = absurd key
key_epoch (Record r) (Advance a) key = absurd key
key_epoch (Cut c) (Record r) key = absurd key
key_epoch (Cut c) (Cut d) key = key
key_epoch (Cut c) (Advance a) key = absurd key
key_epoch (Advance a) (Record r) key = absurd key
key_epoch (Advance a) (Cut c) key = absurd key
key_epoch (Advance a) (Advance b) key = absurd key

-- a layer above a sound log of lower epochs
pub record IsLayer (readers : ℕ) (log : List Fact) (cut : CutData) (facts : List Fact) (k : ℕ) : Type 0 where
  pub sound : IsSound readers log
  pub upto : AllUpTo log k
  pub epoch : cut.epoch ≡ suc k
  pub shape : cut_fault cut ≡ None
  pub spares : (a : AdvanceData) → Contains log (Advance a) → a.point ≤ cut.lo
  pub of_epoch : AllOfEpoch facts (suc k)
  pub one : OneOfKey facts
  pub keeps : (f : Fact) → Contains facts f → HasShape f × SetLaws readers (layered log cut facts) f

pub facts_epoch : (k : ℕ) (f : Fact) → IsOfEpoch k f → epoch_of f ≡ k
facts_epoch k (Record r) is = is
facts_epoch k (Cut c) is = absurd is
facts_epoch k (Advance a) is = is

no_cut_in : (k : ℕ) (facts : List Fact) (c : CutData) → AllOfEpoch facts k → Contains facts (Cut c) → ⊥
no_cut_in k facts c all h = all (Cut c) h

cut_key : (c : CutData) (k : ℕ) (f : Fact) → IsOfEpoch k f → SameKey (Cut c) f → ⊥
cut_key c k (Record r) is key = key
cut_key c k (Cut d) is key = is
cut_key c k (Advance a) is key = key

key_cut : (c : CutData) (k : ℕ) (f : Fact) → IsOfEpoch k f → SameKey f (Cut c) → ⊥
key_cut c k (Record r) is key = key
key_cut c k (Cut d) is key = is
key_cut c k (Advance a) is key = key

module _ (readers : ℕ) (log : List Fact) (cut : CutData) (facts : List Fact) (k : ℕ) (layer : IsLayer readers log cut facts k) where
  abbrev Whole : List Fact
  Whole = layered log cut facts

  apart : (f g : Fact) → Contains log f → epoch_of g ≡ suc k → SameKey f g → ⊥
  apart f g inside at key =
      let low : epoch_of f ≤ k = layer.upto f inside in
      let same : epoch_of f ≡ epoch_of g = key_epoch f g key in
      omega arith

  apart_back : (f g : Fact) → epoch_of f ≡ suc k → Contains log g → SameKey f g → ⊥
  apart_back f g at inside key =
      let low : epoch_of g ≤ k = layer.upto g inside in
      let same : epoch_of f ≡ epoch_of g = key_epoch f g key in
      omega arith

  one_in_facts : (f g : Fact) → Contains facts f → Contains (Cut cut ∷ facts) g → SameKey f g → f ≡ g
  one_in_facts f g inside other key = ⊎_elim
      (λ (e : Cut cut ≡ g). absurd (key_cut cut (suc k) f (layer.of_epoch f inside) (subst (λ x. SameKey f x) (sym e) key)))
      (λ (h : Contains facts g). layer.one f g inside h key)
      (which (Cut cut) facts g other)

  one_above : (f g : Fact) → Contains (Cut cut ∷ facts) f → Contains (Cut cut ∷ facts) g → SameKey f g → f ≡ g
  one_above f g inside other key = ⊎_elim
      (λ (e : Cut cut ≡ f). ⊎_elim
      (λ (d : Cut cut ≡ g). sym e ∙ d)
      (λ (h : Contains facts g). absurd (cut_key cut (suc k) g (layer.of_epoch g h) (subst (λ x. SameKey x g) (sym e) key)))
      (which (Cut cut) facts g other))
      (λ (h : Contains facts f). one_in_facts f g h other key)
      (which (Cut cut) facts f inside)

  above_epoch : (f : Fact) → Contains (Cut cut ∷ facts) f → epoch_of f ≡ suc k
  above_epoch f inside = ⊎_elim
      (λ (e : Cut cut ≡ f). sym (ap epoch_of e) ∙ layer.epoch)
      (λ (h : Contains facts f). facts_epoch (suc k) f (layer.of_epoch f h))
      (which (Cut cut) facts f inside)

  one_of_key : OneOfKey Whole
  one_of_key f g inside other key = ⊎_elim
      (λ (low : Contains log f). ⊎_elim
      (λ (also : Contains log g). sound_one readers log layer.sound f g low also key)
      (λ (high : Contains (Cut cut ∷ facts) g). absurd (apart f g low (above_epoch g high) key))
      (Contains-append_cases log (Cut cut ∷ facts) g other))
      (λ (high : Contains (Cut cut ∷ facts) f). ⊎_elim
      (λ (low : Contains log g). absurd (apart_back f g (above_epoch f high) low key))
      (λ (also : Contains (Cut cut ∷ facts) g). one_above f g high also key)
      (Contains-append_cases log (Cut cut ∷ facts) g other))
      (Contains-append_cases log (Cut cut ∷ facts) f inside)

  -- what is of a lower epoch is of the log
  lower : (f : Fact) → Contains Whole f → epoch_of f ≤ k → Contains log f
  lower f inside low = ⊎_elim
      (λ (h : Contains log f). h)
      (λ (high : Contains (Cut cut ∷ facts) f). let at : epoch_of f ≡ suc k = above_epoch f high in absurd (omega arith))
      (Contains-append_cases log (Cut cut ∷ facts) f inside)

  alike_below : (view : ℕ) → view ≤ k → IsAlike log Whole view
  alike_below view upto = record {
    cuts_up = λ c h. (cut_in Whole c).1 (in_log log cut facts (Cut c) ((cut_in log c).0 h));
    cuts_down = λ c h low. (cut_in log c).1 (lower (Cut c) ((cut_in Whole c).0 h) (omega arith));
    records_up = λ r h. (record_in Whole r).1 (in_log log cut facts (Record r) ((record_in log r).0 h));
    records_down = λ r h alive. (record_in log r).1 (lower (Record r) ((record_in Whole r).0 h) (let known : r.epoch ≤ view = alive.known in omega arith));
  }

  past_below : (c : CutData) → c.epoch ≤ k → ArePast readers (advances Whole) c → ArePast readers (advances log) c
  past_below c low past reader is =
      let s = past reader is in
      let before : s.0.epoch < c.epoch = s.3 in
      (s.0, (advance_in log s.0).1 (lower (Advance s.0) ((advance_in Whole s.0).0 s.1) (omega arith)), s.2, s.3, s.4)

  advance_below : (a : AdvanceData) → Contains log (Advance a) → AdvanceLaws readers log a → AdvanceLaws readers Whole a
  advance_below a inside laws = record {
    reader = laws.reader;
    begun = λ e low upto. let c = laws.begun e low upto in (c.0, (alike_below k (omega arith)).cuts_up c.0 c.1, c.2);
    kept_by = λ c h later past. ⊎_elim
        (λ (low : c.epoch ≤ k). laws.kept_by c ((alike_below k (omega arith)).cuts_down c h low) later (past_below c low past))
        (λ (high : k < c.epoch). ⊎_elim
        (λ (old : Contains log (Cut c)). let upto : c.epoch ≤ k = layer.upto (Cut c) old in absurd (omega arith))
        (λ rest. ⊎_elim
        (λ (e : Cut cut ≡ Cut c). subst (λ (d : CutData). a.point ≤ d.lo) (cut_eq cut c e) (layer.spares a inside))
        (λ (h' : Contains facts (Cut c)). absurd (no_cut_in (suc k) facts c layer.of_epoch h'))
        rest)
        (layer_of log cut facts (Cut c) ((cut_in Whole c).0 h)))
        (let way : (c.epoch ≤ k) ⊎ (k < c.epoch) = grind arith in way);
  }

  below_keeps : (f : Fact) → Contains log f → HasShape f × SetLaws readers log f → HasShape f × SetLaws readers Whole f
  below_keeps (Record r) inside had = (
    had.0,
    record_alike log Whole r (alike_below r.epoch (layer.upto (Record r) inside)) had.1,
  )
  below_keeps (Cut c) inside had = (had.0, tt)
  below_keeps (Advance a) inside had = (had.0, advance_below a inside had.1)

  all_keep : KeepsSetLaws readers Whole
  all_keep f inside = ⊎_elim
      (λ (low : Contains log f). below_keeps f low (sound_keeps readers log layer.sound f low))
      (λ rest. ⊎_elim
      (λ (e : Cut cut ≡ f). subst (λ (x : Fact). HasShape x × SetLaws readers Whole x) e (layer.shape, tt))
      (λ (h : Contains facts f). layer.keeps f h)
      rest)
      (layer_of log cut facts f inside)

  pub layer_sound : IsSound readers Whole
  layer_sound = sound_from readers Whole layer.sound.readers one_of_key all_keep

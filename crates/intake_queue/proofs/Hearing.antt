-- Notes keep the rule of an intake, as they are written and as they are heard.
use Rattle.std.proofs.Common.{◌≡◌, ◌≢◌, ℕ, List, [], ◌∷◌, ◌++◌, length, set, max, true, false, ⊎_elim, refl, sym, ap, subst, ◌∙◌, arith, rules}
use Rattle.std.specs.List.{Contains}
use Rattle.std.proofs.lemmas.List.Elements.{Contains-append_cases}
use mathlib.Core.Option.{some}
use lib.ListN.{get_elem?}
use Rattle.redo_core.proofs.Members.{which, none_in}
use Rattle.crossbeam_queue.specs.Fifo.{Forks, Merges}
use Rattle.crossbeam_queue.proofs.Lists.{at_set, set_again}
use Rattle.intake_queue.specs.Parcel.{ParcelData}
use Rattle.intake_queue.specs.Known.{KnownData, taker, sender, note, nobody, IsTaker, IsSender}
use Rattle.intake_queue.specs.Rule.{FitsSender, FitsTaker, HeardTrue, Delivers}
use Rattle.intake_queue.proofs.Views.{kind_set, kind_more, not_of_kind, each_set, each_more, nothing_heard}

-- a note whose counts are true
writes : (port : ℕ) (v : KnownData) (accepted : List (ℕ × ℕ)) (taken : ℕ)
    → ((items : List ParcelData) (views : List KnownData) → (h : Delivers items views) → get_elem? views port ≡ some v
    → HeardTrue h.accepted h.taken (note accepted taken))
    → Forks Delivers port v v (note accepted taken)
writes port v accepted taken is_true items views h at =
    let new : KnownData = note accepted taken in
    subst (λ vs. Delivers items (vs ++ new ∷ [])) (sym (set_again views port v at)) (record {
      taker = h.taker;
      senders = h.senders;
      speaker = h.speaker;
      accepted = h.accepted;
      taken = h.taken;
      each = h.each;
      numbered = h.numbered;
      among = h.among;
      sending = kind_more (λ u. u.sends) (FitsSender h.senders h.speaker h.accepted) views new (not_of_kind false refl) h.sending;
      taking = kind_more (λ u. u.takes) (FitsTaker h.senders h.taker h.speaker h.accepted h.taken) views new (not_of_kind false refl) h.taking;
      heard = each_more (HeardTrue h.accepted h.taken) views new (is_true items views h at) h.heard;
    })

pub sender_writes : (port : ℕ) (v : KnownData) → IsSender v → Forks Delivers port v v (note ((v.number, length v.accepted) ∷ []) 0)
sender_writes port v is = writes port v ((v.number, length v.accepted) ∷ []) 0 (λ items views h at.
    let fits = h.sending port v at (ap (λ u. u.sends) is) in (
      λ p count c. ⊎_elim
          (λ (e : (v.number, length v.accepted) ≡ (p, count)).
          omega (arith, ap (λ y. y.1) e, ap length fits.knows, ap (λ (y : ℕ × ℕ). length (h.accepted y.0)) e))
          (λ (none : Contains [] (p, count)). absurd (none_in (p, count) none))
          (which (v.number, length v.accepted) [] (p, count) c),
      omega arith,
    ))

pub taker_writes : (port : ℕ) (v : KnownData) → IsTaker v → Forks Delivers port v v (note [] (length v.taken))
taker_writes port v is = search (rules, writes)

-- a pass that is as before but for what it heard
hears : (port : ℕ) (v : KnownData) (other : ℕ) (w both : KnownData) → both.sends ≡ v.sends → both.takes ≡ v.takes
    → ((senders : ℕ) (speaker : ℕ → ℕ) (accepted : ℕ → List ParcelData) → FitsSender senders speaker accepted port v → v.sends ≡ true
    → FitsSender senders speaker accepted port both)
    → ((senders first : ℕ) (speaker : ℕ → ℕ) (accepted : ℕ → List ParcelData) (taken : List ParcelData)
    → FitsTaker senders first speaker accepted taken port v → v.takes ≡ true
    → FitsTaker senders first speaker accepted taken port both)
    → ((accepted : ℕ → List ParcelData) (taken : List ParcelData) → HeardTrue accepted taken v → HeardTrue accepted taken w → HeardTrue accepted taken both)
    → Merges Delivers port v other w both nobody
hears port v other w both sends takes fits_sender fits_taker is_true items views h at apart at' =
    let vs : List KnownData = set views port both in
    let was : get_elem? views other ≡ some w = ⊎_elim
    (λ (s : (other ≡ port) × (both ≡ w)). absurd (apart s.0))
    (λ (o : (other ≢ port) × (get_elem? views other ≡ some w)). o.1)
    (at_set views port other both w at') in
    let sender_fits = FitsSender h.senders h.speaker h.accepted in
    let taker_fits = FitsTaker h.senders h.taker h.speaker h.accepted h.taken in
    let true_of = HeardTrue h.accepted h.taken in record {
      taker = h.taker;
      senders = h.senders;
      speaker = h.speaker;
      accepted = h.accepted;
      taken = h.taken;
      each = h.each;
      numbered = h.numbered;
      among = h.among;
      sending = kind_set (λ u. u.sends) sender_fits vs other nobody (not_of_kind false refl) (λ j u ne e s. kind_set (λ u. u.sends) sender_fits views port both
          (λ t. fits_sender h.senders h.speaker h.accepted (h.sending port v at (sym sends ∙ t)) (sym sends ∙ t))
          (λ i y apart e t. h.sending i y e t) j u e s);
      taking = kind_set (λ u. u.takes) taker_fits vs other nobody (not_of_kind false refl) (λ j u ne e s. kind_set (λ u. u.takes) taker_fits views port both
          (λ t. fits_taker h.senders h.taker h.speaker h.accepted h.taken (h.taking port v at (sym takes ∙ t)) (sym takes ∙ t))
          (λ i y apart e t. h.taking i y e t) j u e s);
      heard = each_set true_of vs other nobody (nothing_heard h.accepted h.taken nobody refl refl)
          (each_set true_of views port both (is_true h.accepted h.taken (h.heard port v at) (h.heard other w was)) h.heard);
    }

pub taker_hears : (port : ℕ) (v : KnownData) (other : ℕ) (w : KnownData) → IsTaker v
    → Merges Delivers port v other w (taker v.taken v.senders v.made v.ended (v.accepted_counts ++ w.accepted_counts)) nobody
taker_hears port v other w is = hears port v other w (taker v.taken v.senders v.made v.ended (v.accepted_counts ++ w.accepted_counts))
    (ap (λ u. u.sends) (sym is)) (ap (λ u. u.takes) (sym is))
    (λ senders speaker accepted fits sends. not_of_kind v.sends (ap (λ u. u.sends) is) sends)
    (λ senders first speaker accepted taken fits takes. record {
      own = fits.own;
      silent = refl;
      count = fits.count;
      knows = fits.knows;
      later = fits.later;
      over = fits.over;
    })
    (λ accepted taken mine theirs. (
      λ p count c. ⊎_elim (λ l. mine.0 p count l) (λ r. theirs.0 p count r) (Contains-append_cases v.accepted_counts w.accepted_counts (p, count) c),
      omega arith,
    ))

pub sender_hears : (port : ℕ) (v : KnownData) (other : ℕ) (w : KnownData) → IsSender v
    → Merges Delivers port v other w (sender v.number v.senders v.accepted (max v.taken_count w.taken_count)) nobody
sender_hears port v other w is = search (rules, hears)

-- A sender that is handed in keeps the rule of an intake, and what is known where nothing is left.
use Rattle.std.proofs.Common.{◌≡◌, ◌≢◌, false, ℕ, ◌≤◌, lt_of_not-le, List, [], ◌∷◌, ◌++◌, length, set, ⊎_elim, refl, sym, ap, subst, ◌∙◌, arith}
use Rattle.std.specs.List.{Contains}
use Rattle.std.proofs.lemmas.List.{append-nil}
use Rattle.std.proofs.lemmas.List.Elements.{Contains-push_cases}
use mathlib.Core.Option.{some}
use mathlib.Core.Logic.{dite}
use native.Mathlib.Decide.{dec_le}
use lib.ListN.{get_elem?}
use Rattle.crossbeam_queue.specs.Fifo.{Merges}
use Rattle.crossbeam_queue.proofs.Lists.{at_set}
use Rattle.intake_queue.specs.Parcel.{ParcelData, sent_by, AreInTurn}
use Rattle.intake_queue.specs.Known.{KnownData, taker, sender, nobody, IsTaker, IsSender}
use Rattle.intake_queue.specs.Rule.{FitsSender, FitsTaker, HeardTrue, Delivers, AreWhole, HoldsUntaken}
use Rattle.intake_queue.proofs.Views.{at_one, at_here, at_else, at_either, kind_set, not_of_kind, each_set, nothing_heard}

pub ends : (port : ℕ) (v : KnownData) (other : ℕ) (w : KnownData) → IsTaker v → IsSender w
    → Merges Delivers port v other w (taker v.taken v.senders v.made (v.ended ++ (w.number, w.accepted) ∷ []) v.accepted_counts) nobody
ends port v other w is was_sender items views h at apart at' =
    let both : KnownData = taker v.taken v.senders v.made (v.ended ++ (w.number, w.accepted) ∷ []) v.accepted_counts in
    let vs : List KnownData = set views port both in
    let fits = h.taking port v at (ap (λ u. u.takes) is) in
    let was : get_elem? views other ≡ some w = ⊎_elim
    (λ (s : (other ≡ port) × (both ≡ w)). absurd (apart s.0))
    (λ (o : (other ≢ port) × (get_elem? views other ≡ some w)). o.1)
    (at_set views port other both w at') in
    let theirs = h.sending other w was (ap (λ u. u.sends) was_sender) in
    let made : w.number ≤ v.made = dite (dec_le w.number v.made)
    (λ le. le)
    (λ gt. absurd (apart (sym theirs.speaks ∙ ((fits.later w.number (lt_of_not-le gt)).0 ∙ sym fits.own)))) in
    let speaker : ℕ → ℕ = at_one h.speaker w.number h.taker in
    let sends = FitsSender h.senders speaker h.accepted in
    let takes = FitsTaker h.senders h.taker speaker h.accepted h.taken in
    let true_of = HeardTrue h.accepted h.taken in record {
      taker = h.taker;
      senders = h.senders;
      speaker = speaker;
      accepted = h.accepted;
      taken = h.taken;
      each = h.each;
      numbered = h.numbered;
      among = h.among;
      sending = kind_set (λ u. u.sends) sends vs other nobody (not_of_kind false refl)
          (λ j u ne e s. kind_set (λ u. u.sends) (λ i y. i ≢ other → sends i y) views port both (not_of_kind false refl)
          (λ i y far e s still. let old = h.sending i y e s in record {
            among = old.among;
            count = old.count;
            speaks = at_else h.speaker w.number h.taker y.number (λ same. still (sym old.speaks ∙ (ap h.speaker same ∙ theirs.speaks))) ∙ old.speaks;
            knows = old.knows;
          }) j u e s ne);
      taking = kind_set (λ u. u.takes) takes vs other nobody (not_of_kind false refl) (λ j u ne e t. kind_set (λ u. u.takes) takes views port both
          (λ t. record {
            own = fits.own;
            silent = refl;
            count = fits.count;
            knows = fits.knows;
            later = λ p lt. let l = fits.later p lt in (at_either h.speaker w.number h.taker p l.0, l.1);
            over = λ p these c. ⊎_elim
                (λ (past : Contains v.ended (p, these)). let l = fits.over p these past in (l.0, at_either h.speaker w.number h.taker p l.1, l.2))
                (λ (last : (w.number, w.accepted) ≡ (p, these)). let pe : w.number ≡ p = ap (λ y. y.0) last in (
                  subst (λ k. k ≤ v.made) pe made,
                  at_here h.speaker w.number h.taker p (sym pe),
                  ap h.accepted (sym pe) ∙ (sym theirs.knows ∙ ap (λ y. y.1) last),
                ))
                (Contains-push_cases v.ended (w.number, w.accepted) (p, these) c);
          })
          (λ i y far e t. absurd (far ((h.taking i y e t).own ∙ sym fits.own))) j u e t);
      heard = each_set true_of vs other nobody (nothing_heard h.accepted h.taken nobody refl refl)
          (each_set true_of views port both ((h.heard port v at).0, omega arith) h.heard);
    }

-- a pass that is a taker's, whatever its parts are called
pub as_taker : (v : KnownData) (taken : List ParcelData) (senders made : ℕ) (ended : List (ℕ × List ParcelData)) (heard : List (ℕ × ℕ))
    → v ≡ taker taken senders made ended heard → IsTaker v
as_taker v taken senders made ended heard is = is ∙ sym (ap (λ u. taker u.taken u.senders u.made u.ended u.accepted_counts) is)

-- a pass that is a sender's, whatever its parts are called
pub as_sender : (v : KnownData) (number senders : ℕ) (accepted : List ParcelData) (heard : ℕ) → v ≡ sender number senders accepted heard → IsSender v
as_sender v number senders accepted heard is = is ∙ sym (ap (λ u. sender u.number u.senders u.accepted u.taken_count) is)

-- what is known where nothing is left in the queue
pub at_end : (v w : KnownData) (left items : List ParcelData) → w ≡ taker (v.taken ++ left) v.senders v.made v.ended v.accepted_counts → length items ≡ 0
    → HoldsUntaken w items → AreWhole v.ended v.taken left × AreInTurn v.senders (v.taken ++ left)
at_end v w left [] is none rest =
    let senders : w.senders ≡ v.senders = ap (λ u. u.senders) is in
    let all : w.taken ++ [] ≡ v.taken ++ left = append-nil w.taken ∙ ap (λ u. u.taken) is in (
      λ p these c. ap (sent_by p) (sym all) ∙ rest.whole p these (subst (λ (u : KnownData). Contains u.ended (p, these)) (sym is) c),
      subst (λ (y : List ParcelData × ℕ). AreInTurn y.1 y.0) (λ k. (all k, senders k)) rest.in_turn,
    )
at_end v w left (x ∷ items) is none rest = absurd (omega (arith, none))

-- The rule holds of a new intake, and as its senders are counted and made.
use Rattle.std.proofs.Common.{◌≡◌, false, ℕ, ◌+◌, ◌<◌, List, [], ◌∷◌, length, set, refl, sym, ap, subst, ◌∙◌, arith}
use Rattle.std.specs.List.{Contains}
use Rattle.redo_core.proofs.Members.{none_in}
use Rattle.crossbeam_queue.specs.Fifo.{Forks}
use Rattle.intake_queue.specs.Known.{KnownData, taker, sender, nobody, IsTaker}
use Rattle.intake_queue.specs.Rule.{FitsSender, FitsTaker, HeardTrue, Delivers}
use Rattle.intake_queue.proofs.Views.{at_one, at_here, at_else, alone, kind_set, kind_more, not_of_kind, each_set, each_more, nothing_heard}

pub begins : Delivers [] (taker [] 0 0 [] [] ∷ [])
begins =
    let first : KnownData = taker [] 0 0 [] [] in record {
      taker = 0;
      senders = 0;
      speaker = λ p. 0;
      accepted = λ p. [];
      taken = [];
      each = λ p. refl;
      numbered = λ p k x e. absurd cc;
      among = λ x c. absurd (none_in x c);
      sending = λ pass v at sends. not_of_kind v.sends (ap (λ u. u.sends) (sym (alone first v pass at).1)) sends;
      taking = λ pass v at takes. let h = alone first v pass at in record {
        own = h.0;
        silent = ap (λ u. u.sends) (sym h.1);
        count = ap (λ u. u.senders) (sym h.1);
        knows = ap (λ u. u.taken) (sym h.1);
        later = λ p lt. (refl, refl);
        over = λ p all c. absurd (none_in (p, all) (subst (λ (u : KnownData). Contains u.ended (p, all)) (sym h.1) c));
      };
      heard = λ pass v at. subst (HeardTrue (λ p. []) []) (alone first v pass at).1 (nothing_heard (λ p. []) [] first refl refl);
    }

-- while no sender is made, one more is counted
pub counts : (port : ℕ) (v : KnownData) → IsTaker v → v.made ≡ 0
    → Forks Delivers port v (taker v.taken (v.senders + 1) v.made v.ended v.accepted_counts) nobody
counts port v is none items views h at =
    let left : KnownData = taker v.taken (v.senders + 1) v.made v.ended v.accepted_counts in
    let more = h.senders + 1 in
    let vs : List KnownData = set views port left in
    let fits = h.taking port v at (ap (λ u. u.takes) is) in
    let sends = FitsSender more h.speaker h.accepted in
    let takes = FitsTaker more h.taker h.speaker h.accepted h.taken in
    let true_of = HeardTrue h.accepted h.taken in record {
      taker = h.taker;
      senders = more;
      speaker = h.speaker;
      accepted = h.accepted;
      taken = h.taken;
      each = h.each;
      numbered = h.numbered;
      among = λ x c. let a = h.among x c in (a.0, omega (arith, a.1));
      sending = kind_more (λ u. u.sends) sends vs nobody (not_of_kind false refl) (kind_set (λ u. u.sends) sends views port left (not_of_kind false refl)
          (λ j u ne e s. let old = h.sending j u e s in
          absurd (ne (sym old.speaks ∙ ((fits.later u.number (omega (arith, none, old.among.0))).0 ∙ sym fits.own)))));
      taking = kind_more (λ u. u.takes) takes vs nobody (not_of_kind false refl) (kind_set (λ u. u.takes) takes views port left
          (λ t. record { own = fits.own; silent = refl; count = ap (λ n. n + 1) fits.count; knows = fits.knows; later = fits.later; over = fits.over })
          (λ j u ne e t. absurd (ne ((h.taking j u e t).own ∙ sym fits.own))));
      heard = each_more true_of vs nobody (nothing_heard h.accepted h.taken nobody refl refl)
          (each_set true_of views port left ((h.heard port v at).0, omega arith) h.heard);
    }

-- the next sender is made
pub opens : (port : ℕ) (v : KnownData) → IsTaker v → v.made < v.senders
    → Forks Delivers port v (taker v.taken v.senders (v.made + 1) v.ended v.accepted_counts) (sender (v.made + 1) v.senders [] 0)
opens port v is room items views h at =
    let next = v.made + 1 in
    let left : KnownData = taker v.taken v.senders next v.ended v.accepted_counts in
    let right : KnownData = sender next v.senders [] 0 in
    let vs : List KnownData = set views port left in
    let new = length vs in
    let fits = h.taking port v at (ap (λ u. u.takes) is) in
    let fresh = fits.later next (omega arith) in
    let speaker : ℕ → ℕ = at_one h.speaker next new in
    let sends = FitsSender h.senders speaker h.accepted in
    let takes = FitsTaker h.senders h.taker speaker h.accepted h.taken in
    let true_of = HeardTrue h.accepted h.taken in record {
      taker = h.taker;
      senders = h.senders;
      speaker = speaker;
      accepted = h.accepted;
      taken = h.taken;
      each = h.each;
      numbered = h.numbered;
      among = h.among;
      sending = kind_more (λ u. u.sends) sends vs right
          (λ s. record {
            among = (omega arith, omega (arith, room, fits.count));
            count = fits.count;
            speaks = at_here h.speaker next new next refl;
            knows = sym fresh.1;
          })
          (kind_set (λ u. u.sends) sends views port left (not_of_kind false refl) (λ j u ne e s. let old = h.sending j u e s in record {
            among = old.among;
            count = old.count;
            speaks = at_else h.speaker next new u.number (λ same. ne (sym old.speaks ∙ (ap h.speaker same ∙ (fresh.0 ∙ sym fits.own)))) ∙ old.speaks;
            knows = old.knows;
          }));
      taking = kind_more (λ u. u.takes) takes vs right (not_of_kind false refl) (kind_set (λ u. u.takes) takes views port left
          (λ t. record {
            own = fits.own;
            silent = refl;
            count = fits.count;
            knows = fits.knows;
            later = λ p lt. let l = fits.later p (omega (arith, lt)) in (at_else h.speaker next new p (λ e. omega (arith, e, lt)) ∙ l.0, l.1);
            over = λ p these c. let l = fits.over p these c in (omega (arith, l.0), at_else h.speaker next new p (λ e. omega (arith, e, l.0)) ∙ l.1, l.2);
          })
          (λ j u ne e t. absurd (ne ((h.taking j u e t).own ∙ sym fits.own))));
      heard = each_more true_of vs right (nothing_heard h.accepted h.taken right refl refl)
          (each_set true_of views port left ((h.heard port v at).0, omega arith) h.heard);
    }

-- Each offer and each take keeps the rule of an intake, and what follows where they find it full or empty.
use Rattle.std.proofs.Common.{◌≡◌, ◌≢◌, false, ℕ, ◌+◌, ◌≤◌, List, [], ◌∷◌, ◌++◌, length, ⊎_elim, refl, sym, ap, subst, ◌∙◌, arith, append_assoc, length-append, Option}
use Rattle.std.proofs.lemmas.Grind.{common_steps}
use Rattle.std.specs.List.{Contains}
use Rattle.std.specs.Prelude.{MatchOption, IfNone}
use Rattle.std.proofs.lemmas.List.{append-nil}
use Rattle.std.proofs.lemmas.List.Elements.{Contains-push_cases, Contains-append_left}
use Rattle.redo_core.proofs.Members.{none_in}
use Rattle.crossbeam_queue.specs.Fifo.{Pushes, Pops, Learns, Held}
use Rattle.intake_queue.specs.Parcel.{ParcelData, sent_by, AreNumbered, IsSenderOf}
use Rattle.intake_queue.specs.Heard.{HasAllHeard}
use Rattle.intake_queue.specs.Known.{KnownData, taker, IsTaker, IsSender}
use Rattle.intake_queue.specs.Rule.{FitsSender, FitsTaker, HeardTrue, Delivers, after_offer, IsTake, HoldsOwn, HoldsUntaken}
use Rattle.intake_queue.proofs.Parcels.{one_of_mine, one_of_another, all_mine, numbered_more, numbered_first, numbered_before}
use Rattle.intake_queue.proofs.Views.{at_one, same_or_not, at_here, at_else, kind_set, not_of_kind, each_set, still_true}

pub takes : (port : ℕ) (v : KnownData) → IsTaker v → Pops Delivers port v (IsTake v)
takes port v is x items views h at =
    let w : KnownData = taker (v.taken ++ x ∷ []) v.senders v.made v.ended v.accepted_counts in
    let taken = h.taken ++ x ∷ [] in
    let fits = h.taking port v at (ap (λ u. u.takes) is) in
    let heard = h.heard port v at in
    let joined = append_assoc h.taken (x ∷ []) items in
    let each : (p : ℕ) → sent_by p ((v.taken ++ x ∷ []) ++ items) ≡ h.accepted p =
    λ p. ap (λ xs. sent_by p ((xs ++ x ∷ []) ++ items)) fits.knows ∙ (ap (sent_by p) joined ∙ h.each p) in
    let first : AreNumbered (sent_by x.sender (v.taken ++ x ∷ items)) =
    subst (λ xs. AreNumbered (sent_by x.sender xs)) (append_assoc v.taken (x ∷ []) items) (subst AreNumbered (sym (each x.sender)) (h.numbered x.sender)) in
    let longer : length h.taken ≤ length taken = omega (arith, length-append h.taken (x ∷ [])) in (
      w,
      record {
        taker = h.taker;
        senders = h.senders;
        speaker = h.speaker;
        accepted = h.accepted;
        taken = taken;
        each = λ p. ap (sent_by p) joined ∙ h.each p;
        numbered = h.numbered;
        among = λ y c. h.among y (subst (λ xs. Contains xs y) joined c);
        sending = kind_set (λ u. u.sends) (FitsSender h.senders h.speaker h.accepted) views port w (not_of_kind false refl)
            (λ j u ne e s. h.sending j u e s);
        taking = kind_set (λ u. u.takes) (FitsTaker h.senders h.taker h.speaker h.accepted taken) views port w
            (λ t. record {
              own = fits.own;
              silent = refl;
              count = fits.count;
              knows = ap (λ xs. xs ++ x ∷ []) fits.knows;
              later = fits.later;
              over = fits.over;
            })
            (λ j u ne e t. absurd (ne ((h.taking j u e t).own ∙ sym fits.own)));
        heard = each_set (HeardTrue h.accepted taken) views port w (heard.0, omega arith)
            (λ j u e. still_true h.accepted h.accepted h.taken taken (λ p. omega arith) longer u (h.heard j u e));
      },
      record {
        view = refl;
        next = numbered_first v.taken x items first;
        in_turn = record {
          among = λ y c. subst (λ n. IsSenderOf n y.sender) (sym fits.count)
              (h.among y (subst (λ xs. Contains xs y) (ap (λ xs. (xs ++ x ∷ []) ++ items) fits.knows ∙ joined)
              (Contains-append_left (v.taken ++ x ∷ []) items y c)));
          numbered = λ p. numbered_before p (v.taken ++ x ∷ []) items (subst AreNumbered (sym (each p)) (h.numbered p));
        };
      },
    )

pub offers : (n port : ℕ) (v : KnownData) (x : ParcelData) → IsSender v → x.sender ≡ v.number → x.number ≡ length v.accepted + 1
    → Pushes Delivers n port v x (λ w. w ≡ after_offer v x)
offers n port v x is from number items views room h at =
    let p = v.number in
    let all = v.accepted ++ x ∷ [] in
    let w : KnownData = after_offer v x in
    let fits = h.sending port v at (ap (λ u. u.sends) is) in
    let accepted : ℕ → List ParcelData = at_one h.accepted p all in
    let before : h.accepted p ≡ v.accepted = sym fits.knows in
    let longer : (q : ℕ) → length (h.accepted q) ≤ length (accepted q) = λ q. ⊎_elim
    (λ (s : q ≡ p). omega (arith, ap length (ap h.accepted s ∙ before), ap length (at_here h.accepted p all q s), length-append v.accepted (x ∷ [])))
    (λ (o : q ≢ p). omega (arith, ap length (at_else h.accepted p all q o)))
    (same_or_not q p) in (
      w,
      record {
        taker = h.taker;
        senders = h.senders;
        speaker = h.speaker;
        accepted = accepted;
        taken = h.taken;
        each = λ q. ap (sent_by q) (sym (append_assoc h.taken items (x ∷ []))) ∙ ⊎_elim
            (λ (s : q ≡ p). one_of_mine q (h.taken ++ items) x (from ∙ sym s)
            ∙ (ap (λ xs. xs ++ x ∷ []) (h.each q ∙ (ap h.accepted s ∙ before)) ∙ sym (at_here h.accepted p all q s)))
            (λ (o : q ≢ p). one_of_another q (h.taken ++ items) x (λ e. o (sym e ∙ from)) ∙ (h.each q ∙ sym (at_else h.accepted p all q o)))
            (same_or_not q p);
        numbered = λ q. ⊎_elim
            (λ (s : q ≡ p). subst AreNumbered (sym (at_here h.accepted p all q s))
            (numbered_more v.accepted x (subst AreNumbered before (h.numbered p)) number))
            (λ (o : q ≢ p). subst AreNumbered (sym (at_else h.accepted p all q o)) (h.numbered q))
            (same_or_not q p);
        among = λ y c. ⊎_elim
            (λ (old : Contains (h.taken ++ items) y). h.among y old)
            (λ (new : x ≡ y). subst (IsSenderOf h.senders) (sym from ∙ ap (λ z. z.sender) new) fits.among)
            (Contains-push_cases (h.taken ++ items) x y (subst (λ xs. Contains xs y) (sym (append_assoc h.taken items (x ∷ []))) c));
        sending = kind_set (λ u. u.sends) (FitsSender h.senders h.speaker accepted) views port w
            (λ s. record { among = fits.among; count = fits.count; speaks = fits.speaks; knows = sym (at_here h.accepted p all p refl) })
            (λ j u ne e s. let old = h.sending j u e s in record {
              among = old.among;
              count = old.count;
              speaks = old.speaks;
              knows = old.knows ∙ sym (at_else h.accepted p all u.number (λ same. ne (sym old.speaks ∙ (ap h.speaker same ∙ fits.speaks))));
            });
        taking = kind_set (λ u. u.takes) (FitsTaker h.senders h.taker h.speaker accepted h.taken) views port w (not_of_kind false refl)
            (λ j u ne e t. let old = h.taking j u e t in
            let apart : (q : ℕ) → h.speaker q ≡ h.taker → q ≢ p =
            λ q speaks same. ne (old.own ∙ (sym speaks ∙ (ap h.speaker same ∙ fits.speaks))) in record {
              own = old.own;
              silent = old.silent;
              count = old.count;
              knows = old.knows;
              later = λ q lt. let l = old.later q lt in (l.0, at_else h.accepted p all q (apart q l.0) ∙ l.1);
              over = λ q these c. let l = old.over q these c in (l.0, l.1, at_else h.accepted p all q (apart q l.1) ∙ l.2);
            });
        heard = each_set (HeardTrue accepted h.taken) views port w
            (still_true h.accepted accepted h.taken h.taken longer (omega arith) w ((λ q count c. absurd (none_in (q, count) c)), (h.heard port v at).1))
            (λ j u e. still_true h.accepted accepted h.taken h.taken longer (omega arith) u (h.heard j u e));
      },
      refl,
    )

-- what an only sender learns from a refused offer
pub holds_own : (port : ℕ) (v : KnownData) → IsSender v → Learns Delivers port v (HoldsOwn v)
holds_own port v is items views h at one =
    let fits = h.sending port v at (ap (λ u. u.sends) is) in
    let mine : (x : ParcelData) → Contains (h.taken ++ items) x → x.sender ≡ v.number = λ x c. let a = h.among x c in
    omega (arith, a.0, a.1, fits.among.0, fits.among.1, fits.count, one) in
    let all : v.accepted ≡ h.taken ++ items = fits.knows ∙ (sym (h.each v.number) ∙ all_mine v.number (h.taken ++ items) mine) in
    omega (arith, ap length all, length-append h.taken items, (h.heard port v at).1)

-- what the taker learns from a take that finds nothing
pub holds_rest : (port : ℕ) (v : KnownData) → IsTaker v → Learns Delivers port v (HoldsUntaken v)
holds_rest port v is items views h at =
    let fits = h.taking port v at (ap (λ u. u.takes) is) in
    let each : (p : ℕ) → sent_by p (v.taken ++ items) ≡ h.accepted p = λ p. ap (λ xs. sent_by p (xs ++ items)) fits.knows ∙ h.each p in record {
      whole = λ p all c. each p ∙ (fits.over p all c).2;
      heard = λ p count c. subst (λ xs. count ≤ length xs) (sym (each p)) ((h.heard port v at).0 p count c);
      in_turn = record {
        among = λ y c. subst (λ n. IsSenderOf n y.sender) (sym fits.count) (h.among y (subst (λ xs. Contains (xs ++ items) y) fits.knows c));
        numbered = λ p. subst AreNumbered (sym (each p)) (h.numbered p);
      };
    }

pub nothing_left : {T : Type 0} (P : Type 0) (Q : T → Type 0) (v : KnownData) (found : Option T) → MatchOption found (P × Held 0 (HoldsUntaken v)) Q
    → IfNone found (HasAllHeard v.accepted_counts v.taken)
nothing_left P Q v found h = grind (arith, common_steps)

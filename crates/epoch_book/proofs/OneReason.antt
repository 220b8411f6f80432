-- A book refuses a fact for one reason.
use Rattle.std.proofs.Common.{◌≡◌, ℕ, ◌<◌, ◌≤◌, ◌⊎◌, ⊎_elim, List, length, get_or, refl, sym, ap, ◌∙◌, arith, Option, None, rules}
use Rattle.std.specs.List.{Contains, HoldsAt}
use Rattle.std.specs.Option.{MatchOption, IfSome, IsSomeAnd}
use Rattle.redo_core.specs.Data.{CutData, AdvanceData, cut_of}
use Rattle.redo_core.specs.Order.{CutBefore, AdvanceBefore}
use Rattle.redo_core.specs.Roster.{least}
use Rattle.epoch_book.specs.Book.{BookData, IsBook}
use Rattle.epoch_book.specs.Refusing.{Contradict, CutsBelow, RefusesCut, RefusesAdvance}
use Rattle.epoch_book.specs.declared.refusals.Held.{Held}
use Rattle.epoch_book.specs.declared.refusals.Held.TheVariants.{Min, Advance, Cut}
use Rattle.epoch_book.specs.declared.refusals.BookRefusal.{BookRefusal}
use Rattle.epoch_book.specs.declared.refusals.BookRefusal.TheVariants.{OtherRoster, OtherCut, Contradiction, Memory}
use Rattle.redo_core.proofs.Rising.{rising_members}
use Rattle.redo_core.proofs.Pairs.{advance_apart}
use Rattle.epoch_book.proofs.Rising.{one_first}

-- one truncation an epoch
pub same_cut : (b : BookData) (c d : CutData) → IsBook b → Contains b.cuts c → Contains b.cuts d → c.epoch ≡ d.epoch → c ≡ d
same_cut b c d book hc hd e =
    ⊎_elim (λ (q : c ≡ d). q)
    (λ (s : CutBefore c d ⊎ CutBefore d c). absurd (⊎_elim (λ (l : CutBefore c d). omega arith) (λ (l : CutBefore d c). omega arith) s))
    (rising_members CutBefore b.cuts c d book.cuts_rise hc hd)

-- the truncation that was read at an index
pub held_at : (b : BookData) (cs : List CutData) (i e : ℕ) (d : CutData) → cs ≡ b.cuts → (i < length cs) × HoldsAt (λ c. c.epoch ≡ e) cs i
    → d ≡ get_or b.cuts i d → Contains b.cuts d × (d.epoch ≡ e)
held_at b cs i e d same at read = search rules

pub same_data : (c d : CutData) → c.epoch ≡ d.epoch → c.lo ≡ d.lo → c.hi ≡ d.hi → c ≡ d
same_data c d e l h = ap (λ n. cut_of n c.lo c.hi) e ∙ ap (λ n. cut_of d.epoch n c.hi) l ∙ ap (λ n. cut_of d.epoch d.lo n) h

pub one_cut_refusal : (b : BookData) (c : CutData) → IsBook b → (e f : BookRefusal) → RefusesCut b c e → RefusesCut b c f → e ≡ f
one_cut_refusal b c book (OtherCut d) (OtherRoster own shown) h k = absurd k
one_cut_refusal b c book (OtherCut d) (OtherCut x) h k = ap OtherCut (same_cut b d x book h.0 k.0 (h.1 ∙ sym k.1))
one_cut_refusal b c book (OtherCut d) (Contradiction (Min m)) h k = absurd (k.0 d h.0 h.1)
one_cut_refusal b c book (OtherCut d) (Contradiction (Advance a)) h k = absurd (k.0 d h.0 h.1)
one_cut_refusal b c book (OtherCut d) (Contradiction (Cut x)) h k = absurd k
one_cut_refusal b c book (OtherCut d) Memory h k = absurd k
one_cut_refusal b c book (Contradiction (Min m)) (OtherRoster own shown) h k = absurd k
one_cut_refusal b c book (Contradiction (Min m)) (OtherCut d) h k = absurd (h.0 d k.0 k.1)
one_cut_refusal b c book (Contradiction (Min m)) (Contradiction (Min n)) h k = ap (λ x. Contradiction (Min x)) (h.1 ∙ sym k.1)
one_cut_refusal b c book (Contradiction (Min m)) (Contradiction (Advance a)) h k = absurd
    (let p : m ≡ least b.points = h.1 in let q : c.lo < m = h.2 in let r : least b.points ≤ c.lo = k.1 in omega arith)
one_cut_refusal b c book (Contradiction (Min m)) (Contradiction (Cut x)) h k = absurd k
one_cut_refusal b c book (Contradiction (Min m)) Memory h k = absurd k
one_cut_refusal b c book (Contradiction (Advance a)) (OtherRoster own shown) h k = absurd k
one_cut_refusal b c book (Contradiction (Advance a)) (OtherCut d) h k = absurd (h.0 d k.0 k.1)
one_cut_refusal b c book (Contradiction (Advance a)) (Contradiction (Min m)) h k = absurd
    (let p : m ≡ least b.points = k.1 in let q : c.lo < m = k.2 in let r : least b.points ≤ c.lo = h.1 in omega arith)
one_cut_refusal b c book (Contradiction (Advance a)) (Contradiction (Advance x)) h k = ap (λ w. Contradiction (Advance w))
    (one_first AdvanceBefore (λ w. Contains b.waits w × Contradict c w) a x advance_apart h.3 k.3)
one_cut_refusal b c book (Contradiction (Advance a)) (Contradiction (Cut x)) h k = absurd k
one_cut_refusal b c book (Contradiction (Advance a)) Memory h k = absurd k
one_cut_refusal b c book (OtherRoster own shown) f h k = absurd h
one_cut_refusal b c book (Contradiction (Cut x)) f h k = absurd h
one_cut_refusal b c book Memory f h k = absurd h

-- what is stored is not refused
pub held_unrefused : (b : BookData) (c : CutData) → IsBook b → Contains b.cuts c → (e : BookRefusal) → RefusesCut b c e → ⊥
held_unrefused b c book held (OtherRoster own shown) h = h
held_unrefused b c book held (OtherCut d) h = h.2 (same_cut b d c book h.0 held h.1)
held_unrefused b c book held (Contradiction (Min m)) h = h.0 c held refl
held_unrefused b c book held (Contradiction (Advance a)) h = h.0 c held refl
held_unrefused b c book held (Contradiction (Cut x)) h = h
held_unrefused b c book held Memory h = h

cuts_apart : (c d : CutData) → CutBefore c d → CutBefore d c → ⊥
cuts_apart c d h k = omega arith

pub one_advance_refusal : (b : BookData) (a : AdvanceData) (e f : BookRefusal) → RefusesAdvance b a e → RefusesAdvance b a f → e ≡ f
one_advance_refusal b a (OtherRoster own shown) (OtherRoster o s) h k = ap (λ x. OtherRoster x shown) (h.0 ∙ sym k.0) ∙ ap (λ x. OtherRoster o x)
    (h.1 ∙ sym k.1)
one_advance_refusal b a (OtherRoster own shown) (OtherCut x) h k = absurd k
one_advance_refusal b a (OtherRoster own shown) (Contradiction (Min m)) h k = absurd k
one_advance_refusal b a (OtherRoster own shown) (Contradiction (Advance x)) h k = absurd k
one_advance_refusal b a (OtherRoster own shown) (Contradiction (Cut x)) h k = absurd (h.2 k.0)
one_advance_refusal b a (OtherRoster own shown) Memory h k = absurd k
one_advance_refusal b a (OtherCut d) f h k = absurd h
one_advance_refusal b a (Contradiction (Min m)) f h k = absurd h
one_advance_refusal b a (Contradiction (Advance w)) f h k = absurd h
one_advance_refusal b a (Contradiction (Cut d)) (OtherRoster own shown) h k = absurd (k.2 h.0)
one_advance_refusal b a (Contradiction (Cut d)) (OtherCut x) h k = absurd k
one_advance_refusal b a (Contradiction (Cut d)) (Contradiction (Min m)) h k = absurd k
one_advance_refusal b a (Contradiction (Cut d)) (Contradiction (Advance x)) h k = absurd k
one_advance_refusal b a (Contradiction (Cut d)) (Contradiction (Cut x)) h k = ap (λ w. Contradiction (Cut w))
    (one_first CutBefore (λ w. Contains b.cuts w × CutsBelow b.complete b.points b.waits w a) d x cuts_apart h.1 k.1)
one_advance_refusal b a (Contradiction (Cut d)) Memory h k = absurd k
one_advance_refusal b a Memory f h k = absurd h

-- a property of an advance is one of it as what a truncation contradicts
pub mapped_to_held : (s : Option AdvanceData) (r : Option Held) (P : AdvanceData → Type 0) (Q : Held → Type 0)
    → MatchOption s (r ≡ None) (λ x. IsSomeAnd r (λ h. h ≡ Advance x)) → IfSome s P → ((x : AdvanceData) → P x → Q (Advance x)) → IfSome r Q
mapped_to_held s r P Q e h q = search rules

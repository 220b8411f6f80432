-- The pages' tops, as a record goes onto the stack and off it.
use Rattle.std.proofs.Common.{◌≡◌, ℕ, ◌<◌, List, [], ◌∷◌, ◌++◌, length, length-set, get_or, get_or-set_same, get_or-set_other, set, reverse, refl, sym, ap, ◌∙◌, subst, arith, Some, Bool, true, false, cond}
use Rattle.std.specs.Prelude.{◌==◌}
use Rattle.std.specs.List.{All}
use Rattle.std.proofs.lemmas.Bool.{eqb-true, eq-eqb}
use Rattle.std.proofs.lemmas.List.{reverse-append}
use Rattle.std.proofs.lemmas.List.Elements.{All-push, All-pop, All-weaker}
use Rattle.log_law.specs.Alive.{stack_of, page_top, KnowsBeneath, IsStack}
use Rattle.log_law.specs.declared.alive.Entry.{Entry}
use Rattle.log_law.specs.declared.alive.AliveRecords.{AliveRecords}

pub on_top : (xs ys : List Entry) (x : Entry) → ys ≡ xs ++ x ∷ [] → reverse ys ≡ x ∷ reverse xs
on_top xs ys x e = ap reverse e ∙ reverse-append xs (x ∷ [])

set_elsewhere : (tops : List ℕ) (p n g : ℕ) → (p == g) ≡ false → get_or (set tops p n) g 0 ≡ get_or tops g 0
set_elsewhere tops p n g other = get_or-set_other tops p g n 0 (λ e. let clash : true ≡ false = sym (eq-eqb p g (sym e)) ∙ other in cc)

set_here : (tops : List ℕ) (p n g : ℕ) → p < length tops → (p == g) ≡ true → get_or (set tops p n) g 0 ≡ n
set_here tops p n g l same = subst (λ i. get_or (set tops p n) i 0 ≡ n) (eqb-true p g same) (get_or-set_same tops p n 0 l)

top_pushed : (tops : List ℕ) (x : Entry) (xs : List Entry) (g : ℕ) (b : Bool) → (x.page == g) ≡ b → x.page < length tops → get_or tops g 0 ≡ page_top g xs
    → get_or (set tops x.page x.number) g 0 ≡ cond b x.number (page_top g xs)
top_pushed tops x xs g true t l was = set_here tops x.page x.number g l t
top_pushed tops x xs g false t l was = set_elsewhere tops x.page x.number g t ∙ was

top_popped : (tops : List ℕ) (x : Entry) (xs : List Entry) (g : ℕ) (b : Bool) → (x.page == g) ≡ b → x.page < length tops → x.beneath ≡ page_top x.page xs
    → get_or tops g 0 ≡ cond b x.number (page_top g xs) → get_or (set tops x.page x.beneath) g 0 ≡ page_top g xs
top_popped tops x xs g true t l beneath was = set_here tops x.page x.beneath g l t ∙ beneath ∙ ap (λ i. page_top i xs) (eqb-true x.page g t)
top_popped tops x xs g false t l beneath was = set_elsewhere tops x.page x.beneath g t ∙ was

pub stack_pushed : (s new : AliveRecords) (x : Entry) → IsStack s → x.page < length s.page_tops.items → x.beneath ≡ page_top x.page (stack_of s)
    → new.entries.items ≡ s.entries.items ++ x ∷ [] → new.page_tops.items ≡ set s.page_tops.items x.page x.number → IsStack new
stack_pushed s new x k within beneath entries tops =
    let wide : length new.page_tops.items ≡ length s.page_tops.items = ap length tops ∙ length-set s.page_tops.items x.page x.number in
    let top = on_top s.entries.items new.entries.items x entries in
    record {
      inside = subst (All (λ y. y.page < length new.page_tops.items)) (sym entries) (All-push (λ y. y.page < length new.page_tops.items) s.entries.items x
          (All-weaker (λ y. y.page < length s.page_tops.items) (λ y. y.page < length new.page_tops.items) (λ y l. omega arith) s.entries.items k.inside)
          (omega arith));
      tops = λ g. ap (λ ts. get_or ts g 0) tops ∙ top_pushed s.page_tops.items x (stack_of s) g (x.page == g) refl within (k.tops g)
          ∙ sym (ap (page_top g) top);
      beneath = subst KnowsBeneath (sym top) (beneath, k.beneath);
    }

pub stack_popped : (s new : AliveRecords) (x : Entry) → IsStack s → s.entries.items ≡ new.entries.items ++ x ∷ []
    → new.page_tops.items ≡ set s.page_tops.items x.page x.beneath → IsStack new
stack_popped s new x k entries tops =
    let wide : length new.page_tops.items ≡ length s.page_tops.items = ap length tops ∙ length-set s.page_tops.items x.page x.beneath in
    let top = on_top new.entries.items s.entries.items x entries in
    let within = All-pop (λ y. y.page < length s.page_tops.items) s.entries.items new.entries.items (Some x) entries k.inside in
    let knows : KnowsBeneath (x ∷ stack_of new) = subst KnowsBeneath top k.beneath in
    record {
      inside = All-weaker (λ y. y.page < length s.page_tops.items) (λ y. y.page < length new.page_tops.items) (λ y l. omega arith) new.entries.items within.0;
      tops = λ g. ap (λ ts. get_or ts g 0) tops ∙ top_popped s.page_tops.items x (stack_of new) g (x.page == g) refl within.1 knows.0
          (k.tops g ∙ ap (page_top g) top);
      beneath = knows.1;
    }

-- What is alive below a record is what is on the stack, so that its tops are the backlinks of laws 3 and 4.
use Rattle.std.proofs.Common.{◌≡◌, ℕ, ◌<◌, ◌≤◌, ◌⊎◌, inl, inr, ⊎_elim, List, [], ◌∷◌, length, get_or, refl, sym, ap, ◌∙◌, subst, arith, Some, None, Bool, true, false, cond}
use Rattle.std.proofs.lemmas.Grind.{common_steps}
use Rattle.std.specs.Prelude.{slice_get, ◌==◌}
use Rattle.std.specs.List.{Contains}
use Rattle.std.proofs.lemmas.Bool.{cases_lt, eqb-true, eqb-false}
use Rattle.std.proofs.lemmas.Option.{slice_get_within, get_or_from_slice_get}
use Rattle.std.specs.Cmp.{IsTotalOrder}
use Rattle.std.specs.Ordering.{nat_cmp, ordering_then, is_lt}
use Rattle.std.specs.List.Sorted.{IsSortedByKey}
use Rattle.std.proofs.lemmas.Cmp.{nat_cmp_total, on_total, then_total}
use Rattle.std.proofs.lemmas.List.Sorted.{sorted_far, ranks_by}
use Rattle.std.proofs.lemmas.Bool.Decides.{nat_tests}
use Rattle.redo_core.specs.Data.{RecordData, CutData}
use Rattle.redo_core.specs.Sets.{cuts}
use Rattle.redo_core.specs.Order.{IsRising, IsGreatest}
use Rattle.redo_core.specs.Standing.{IsAlive}
use Rattle.redo_core.specs.Sound.{counted, Law2, IsAliveBelow}
use Rattle.redo_core.specs.declared.facts.Fact.{Fact}
use Rattle.redo_core.specs.declared.facts.Fact.TheVariants.{Record}
use Rattle.redo_core.specs.declared.laws.Law.TheVariants.{SegmentBacklink, BlockBacklink}
use Rattle.redo_core.proofs.Members.{none_in, here, there, which, each}
use Rattle.redo_core.proofs.Numbers.{greatest_unique}
use Rattle.redo_core.proofs.FactParts.{record_in}
use Rattle.redo_core.proofs.SoundFacts.{place_of}
use Rattle.log_law.specs.Alive.{stack_of, top_number, page_top, NotBelow, HoldsAlive, CanPush}
use Rattle.log_law.specs.Links.{IsItem, AreItems, KeyBelow, IsInKeyOrder, law_broken, Judges, JudgesItem}
use Rattle.log_law.specs.declared.alive.Entry.{Entry}
use Rattle.log_law.specs.declared.alive.AliveRecords.{AliveRecords}
use Rattle.log_law.specs.declared.links.Item.{Item}
use Rattle.log_law.proofs.FirstCuts.{counted_among}
use Rattle.log_law.proofs.Least.{one_redo}

-- the top of a falling stack is the greatest
pub top_greatest : (P : ℕ → Type 0) (xs : List Entry) → IsRising NotBelow xs → ((x : Entry) → Contains xs x → P x.number)
    → ((m : ℕ) → P m → (x : Entry) × Contains xs x × (x.number ≡ m)) → IsGreatest P (top_number xs)
top_greatest P xs r has all = grind (arith, common_steps)

page_at : (P : ℕ → Type 0) (g : ℕ) (x : Entry) (xs : List Entry) (b : Bool) → (x.page == g) ≡ b → IsRising NotBelow (x ∷ xs)
    → ((y : Entry) → Contains (x ∷ xs) y → y.page ≡ g → P y.number) → ((m : ℕ) → P m → (y : Entry) × Contains (x ∷ xs) y × (y.page ≡ g) × (y.number ≡ m))
    → (((m : ℕ) → P m → (y : Entry) × Contains xs y × (y.page ≡ g) × (y.number ≡ m)) → IsGreatest P (page_top g xs))
    → IsGreatest P (cond b x.number (page_top g xs))
page_at P g x xs true t r has all ih = (
  inr (has x (here x xs) (eqb-true x.page g t)),
  λ m p. let w = all m p in let e : w.0.number ≡ m = w.3 in ⊎_elim
      (λ (q : x ≡ w.0). let s : x.number ≡ w.0.number = ap (λ y. y.number) q in omega arith)
      (λ (q : Contains xs w.0). let l : w.0.number ≤ x.number = each (NotBelow x) xs w.0 r.0 q in omega arith)
      (which x xs w.0 w.1),
)
page_at P g x xs false t r has all ih = ih (λ m p. let w = all m p in ⊎_elim
    (λ (q : x ≡ w.0). absurd (eqb-false x.page g t (ap (λ y. y.page) q ∙ w.2)))
    (λ (q : Contains xs w.0). (w.0, q, w.2, w.3))
    (which x xs w.0 w.1))

pub page_greatest : (P : ℕ → Type 0) (g : ℕ) (xs : List Entry) → IsRising NotBelow xs → ((x : Entry) → Contains xs x → x.page ≡ g → P x.number)
    → ((m : ℕ) → P m → (x : Entry) × Contains xs x × (x.page ≡ g) × (x.number ≡ m)) → IsGreatest P (page_top g xs)
page_greatest P g [] r has all = (inl refl, λ m p. absurd (let w = all m p in none_in w.0 w.1))
page_greatest P g (x ∷ xs) r has all =
    page_at P g x xs (x.page == g) refl r has all (page_greatest P g xs r.1 (λ y h. has y (there x xs y h)))

-- a group of one key among the items, whose lower ones were visited before
pub record IsGroup (log : List Fact) (items past group : List Item) (s : AliveRecords) : Type 0 where
  pub ordered : (c : CutData) → Contains (cuts log) c → c.lo ≤ c.hi
  pub are : AreItems log items
  pub holds : HoldsAlive log past s
  pub inside : (t : Item) → Contains group t → Contains items t
  pub before : (u : Item) → Contains past u → Contains items u
  pub split : (t u : Item) → Contains group t → Contains items u → KeyBelow u t → Contains past u
  pub apart : (t u : Item) → Contains group t → Contains past u → KeyBelow u t
  pub view : (t : Item) → Contains group t → t.epoch ≡ s.view
  pub same : (t u : Item) → Contains group t → Contains group u → t.number ≡ u.number

-- from the laws to the stack
below_stack : (log : List Fact) (items past group : List Item) (s : AliveRecords) → IsGroup log items past group s → (t : Item) → Contains group t
    → (it : IsItem log t) → (Q : ℕ → Type 0) (m : ℕ) → IsAliveBelow log it.redo (λ o. Q o.page) m → (x : Entry) × Contains (stack_of s) x × Q x.page
    × (x.number ≡ m)
below_stack log items past group s g t ht it Q m b =
    let o = b.other in
    let h = (record_in log o).0 b.among in
    let at : slice_get log h.0 ≡ Some (Record o) = place_of log (Record o) h.0 h.1 h.2 in
    let known : o.epoch ≤ it.redo.epoch = b.alive.known in
    let law : Law2 log (Record o) = (λ e l k. it.begun.0 e l (omega arith), b.alive.begun) in
    let w = g.are.all h.0 o h.1 at law in
    let iu = g.are.each w.0 w.1 in
    let same : iu.redo ≡ o = one_redo log h.0 iu.redo o (subst (λ i. slice_get log i ≡ Some (Record iu.redo)) w.2 iu.at) at in
    let eu : w.0.epoch ≡ o.epoch = iu.epoch ∙ ap (λ r. r.epoch) same in
    let nu : w.0.number ≡ o.number = iu.number ∙ ap (λ r. r.number) same in
    let pu : w.0.page ≡ o.page = iu.page ∙ ap (λ r. r.page) same in
    let et : t.epoch ≡ it.redo.epoch = it.epoch in
    let nt : t.number ≡ it.redo.number = it.number in
    let no : o.number ≡ m = b.number in
    let lo' : m < it.redo.number = b.below in
    let key : KeyBelow w.0 t = ⊎_elim (λ (l : w.0.epoch < t.epoch). inl l) (λ (l : t.epoch ≤ w.0.epoch). inr (omega arith, omega arith))
    (cases_lt w.0.epoch t.epoch) in
    let view : it.redo.epoch ≡ s.view = sym et ∙ g.view t ht in
    let alive : IsAlive (counted log) s.view w.0.epoch w.0.number = subst (λ n. IsAlive (counted log) s.view w.0.epoch n) (sym nu)
    (subst (λ e. IsAlive (counted log) s.view e o.number) (sym eu) (subst (λ v. IsAlive (counted log) v o.epoch o.number) view b.alive)) in
    let x = g.holds.all w.0 (g.split t w.0 ht w.1 key) alive in
    (x.0, x.1, subst Q (sym (x.3 ∙ pu)) b.only, x.2 ∙ nu ∙ no)

-- from the stack to the laws
stack_below : (log : List Fact) (items past group : List Item) (s : AliveRecords) → IsGroup log items past group s → (t : Item) → Contains group t
    → (it : IsItem log t) → (Q : ℕ → Type 0) (x : Entry) → Contains (stack_of s) x → Q x.page → IsAliveBelow log it.redo (λ o. Q o.page) x.number
stack_below log items past group s g t ht it Q x hx q =
    let w = g.holds.each x hx in
    let u = w.0 in
    let iu = g.are.each u (g.before u w.1) in
    let o = iu.redo in
    let l : iu.redo.epoch ≡ u.epoch = sym iu.epoch in
    let inside : u.place < length log = slice_get_within log u.place (Record o) iu.at in
    let among : Contains log (Record o) = (u.place, inside, get_or_from_slice_get log u.place (Record o) (Record o) iu.at) in
    let et : t.epoch ≡ it.redo.epoch = it.epoch in
    let nt : t.number ≡ it.redo.number = it.number in
    let nu : u.number ≡ x.number = w.3 in
    let ou : u.number ≡ o.number = iu.number in
    let view : s.view ≡ it.redo.epoch = sym (g.view t ht) ∙ et in
    let alive : IsAlive (counted log) it.redo.epoch o.epoch o.number = subst (λ n. IsAlive (counted log) it.redo.epoch o.epoch n) iu.number
    (subst (λ e. IsAlive (counted log) it.redo.epoch e u.number) iu.epoch (subst (λ v. IsAlive (counted log) v u.epoch u.number) view w.2)) in
    record {
      other = o;
      among = (record_in log o).1 among;
      alive = alive;
      only = subst Q (sym w.4 ∙ iu.page) q;
      number = sym ou ∙ nu;
      below = ⊎_elim
          (λ (e : u.epoch < t.epoch).
          let c = it.begun.0 it.redo.epoch (omega arith) (omega arith) in
          let ce : c.0.epoch ≡ it.redo.epoch = c.2 in
          let a : o.number ≤ c.0.lo = alive.spared c.0 c.1 (omega arith) (omega arith) in
          let b : c.0.lo ≤ c.0.hi = g.ordered c.0 (counted_among log c.0 c.1) in
          let d : c.0.hi < it.redo.number = it.begun.1 c.0 c.1 ce in
          omega arith)
          (λ (e : (u.epoch ≡ t.epoch) × (u.number < t.number)). let d : u.number < t.number = e.1 in omega arith)
          (g.apart t u ht w.1);
    }

-- the greatest LSNs that laws 3 and 4 speak of are the tops
pub law3_top : (log : List Fact) (items past group : List Item) (s : AliveRecords) → IsGroup log items past group s → (t : Item) → Contains group t
    → (it : IsItem log t) → IsGreatest (IsAliveBelow log it.redo (λ o. Unit {0})) (top_number (stack_of s))
law3_top log items past group s g t ht it =
    let Q : ℕ → Type 0 = λ p. Unit {0} in
    top_greatest (IsAliveBelow log it.redo (λ o. Unit {0})) (stack_of s) g.holds.falls
    (λ x h. stack_below log items past group s g t ht it Q x h tt)
    (λ m b. let w = below_stack log items past group s g t ht it Q m b in (w.0, w.1, w.3))

pub law4_top : (log : List Fact) (items past group : List Item) (s : AliveRecords) → IsGroup log items past group s → (t : Item) → Contains group t
    → (it : IsItem log t) → IsGreatest (IsAliveBelow log it.redo (λ o. o.page ≡ it.redo.page)) (page_top it.redo.page (stack_of s))
law4_top log items past group s g t ht it =
    let Q : ℕ → Type 0 = λ p. p ≡ it.redo.page in
    page_greatest (IsAliveBelow log it.redo (λ o. o.page ≡ it.redo.page)) it.redo.page (stack_of s) g.holds.falls
    (λ x h q. stack_below log items past group s g t ht it Q x h q)
    (λ m b. below_stack log items past group s g t ht it Q m b)

greatest_is : (P : ℕ → Type 0) (n m : ℕ) → IsGreatest P n → IsGreatest P m → n ≡ m
greatest_is P n m a b = greatest_unique P P (λ i. (λ h. h, λ h. h)) n m a b

judged_at : (log : List Fact) (r : RecordData) (t : Item) (xs : List Entry) (b d : Bool) → (t.back == top_number xs) ≡ b
    → (t.block_back == page_top t.page xs) ≡ d → t.back ≡ r.back → t.block_back ≡ r.block_back → t.page ≡ r.page
    → IsGreatest (IsAliveBelow log r (λ o. Unit {0})) (top_number xs) → IsGreatest (IsAliveBelow log r (λ o. o.page ≡ r.page)) (page_top r.page xs)
    → Judges log r (cond b (cond d None (Some BlockBacklink)) (Some SegmentBacklink))
judged_at log r t xs true true p q eb ec eg three four = (
  subst (IsGreatest (IsAliveBelow log r (λ o. Unit {0}))) (sym (eqb-true t.back (top_number xs) p) ∙ eb) three,
  subst (IsGreatest (IsAliveBelow log r (λ o. o.page ≡ r.page))) (ap (λ g. page_top g xs) (sym eg) ∙ sym (eqb-true t.block_back (page_top t.page xs) q) ∙ ec)
      four,
)
judged_at log r t xs true false p q eb ec eg three four = (
  subst (IsGreatest (IsAliveBelow log r (λ o. Unit {0}))) (sym (eqb-true t.back (top_number xs) p) ∙ eb) three,
  λ law. eqb-false t.block_back (page_top t.page xs) q (ec ∙ greatest_is (IsAliveBelow log r (λ o. o.page ≡ r.page)) r.block_back (page_top r.page xs) law four
      ∙ ap (λ g. page_top g xs) (sym eg)),
)
judged_at log r t xs false d p q eb ec eg three four = λ law. eqb-false t.back (top_number xs) p
    (eb ∙ greatest_is (IsAliveBelow log r (λ o. Unit {0})) r.back (top_number xs) law three)

pub judged : (log : List Fact) (items past group : List Item) (s : AliveRecords) → IsGroup log items past group s → (t : Item) → Contains group t
    → JudgesItem log t (law_broken t (stack_of s))
judged log items past group s g t ht r at =
    let it = g.are.each t (g.inside t ht) in
    subst (λ x. Judges log x (law_broken t (stack_of s))) (one_redo log t.place it.redo r it.at at)
    (judged_at log it.redo t (stack_of s) (t.back == top_number (stack_of s))
    (t.block_back == page_top t.page (stack_of s)) refl refl it.back it.block_back it.page
    (law3_top log items past group s g t ht it) (law4_top log items past group s g t ht it))

-- the group can go on the stack
pub can_push : (log : List Fact) (items past group : List Item) (s : AliveRecords) → IsGroup log items past group s → CanPush log group s
can_push log items past group s g = record {
  alive = λ t ht.
      let it = g.are.each t (g.inside t ht) in
      let et : t.epoch ≡ s.view = g.view t ht in
      record {
        known = omega arith;
        begun = λ c h e. let l : c.hi < it.redo.number = it.begun.1 c h (e ∙ it.epoch) in let n : t.number ≡ it.redo.number = it.number in omega arith;
        spared = λ c h l k. absurd (omega arith);
      };
  above = λ t x ht hx.
      let it = g.are.each t (g.inside t ht) in
      let b : x.number < it.redo.number = (stack_below log items past group s g t ht it (λ p. Unit {0}) x hx tt).below in
      let n : t.number ≡ it.redo.number = it.number in omega arith;
  same = g.same;
}

-- a sort by key puts the items in key order
key_at_most : (a b x y : ℕ) → is_lt (ordering_then (nat_cmp a x) (nat_cmp b y)) ≡ false → (x < a) ⊎ ((x ≡ a) × (y ≤ b))
key_at_most a b x y h = grind (arith, nat_tests)

pub key_order : (items : List Item) → IsSortedByKey {K = ℕ × ℕ} (λ t. (t.epoch, t.number)) (λ x y. ordering_then (nat_cmp x.0 y.0) (nat_cmp x.1 y.1)) items
    → IsInKeyOrder items
key_order items s i j d l m =
    let t = get_or items i d in let u = get_or items j d in
    key_at_most u.epoch u.number t.epoch t.number
    (sorted_far (λ x y. is_lt (ordering_then (nat_cmp x.epoch y.epoch) (nat_cmp x.number y.number)))
    (ranks_by pair_total (λ (v : Item). (v.epoch, v.number))) items s i j d l m)
  where
    pair_total : IsTotalOrder (λ (x : ℕ × ℕ) (y : ℕ × ℕ). ordering_then (nat_cmp x.0 y.0) (nat_cmp x.1 y.1))
    pair_total = then_total (on_total (λ (p : ℕ × ℕ). p.0) nat_cmp_total) (on_total (λ (p : ℕ × ℕ). p.1) nat_cmp_total)

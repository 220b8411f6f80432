-- Which pages are pending as the parts of a segment change.
use Rattle.std.proofs.Common.{◌≡◌, ℕ, ◌<◌, ◌≤◌, ◌⊎◌, inl, ⊎_elim, List, [], refl, sym, ap, subst, arith, ◌+◌, take, length, get_or, true, false, Option, Some, None, Result, Ok, Err, OnOk, OnErr, IfOk, rules}
use Rattle.std.specs.List.{Contains, All}
use Rattle.std.proofs.lemmas.Bool.{cases_lt}
use Rattle.std.proofs.lemmas.List.{take_more}
use Rattle.std.proofs.lemmas.List.Elements.{All-push}
use Rattle.redo_core.specs.Data.{RecordData, AdvanceData, CutData}
use Rattle.redo_core.specs.Standing.{IsAlive}
use Rattle.redo_core.specs.declared.refusal.Refused.{Refused}
use Rattle.log_theorems.proofs.Deciding.{settled_eq}
use Rattle.log_theorems.proofs.Storing.{stored_images}
use Rattle.epoch_book.specs.Book.{BookData, IsBook}
use Rattle.epoch_book.specs.Scanning.{IsLeastLo}
use Rattle.epoch_book.specs.Learning.{LearnsAdvance}
use Rattle.epoch_book.specs.declared.refusals.Learnt.{Learnt}
use Rattle.epoch_book.specs.declared.refusals.BookRefusal.{BookRefusal}
use Rattle.hot_log.specs.Removing.{Removes}
use Rattle.hot_log.specs.Putting.{Puts}
use Rattle.hot_log.specs.declared.log.Put.{Put}
use Rattle.hot_log.specs.declared.log.Put.TheVariants as put
use Rattle.hot_log.specs.declared.log.PutFault.{PutFault}
use Rattle.hot_log.proofs.Views.{view_of}
use Rattle.page_base.specs.Stored.{IsStored, store_of}
use Rattle.page_base.specs.Raising.{Raises, SetsImage}
use Rattle.segment_theorems.specs.State.{Store, StoredImage, version_of}
use Rattle.segment_core.specs.Points.{IsLaterBook}
use Rattle.segment_core.specs.PendingPages.{PendingData, HasPending, IsMoreDue, LooksAt, RemovesInPages, all_due}
use Rattle.segment_core.proofs.Opening.{alive_before}

-- ---- more is pending than has to be
pub more_due : (b : BookData) (held : List RecordData) (store : Store) (d e : PendingData) → HasPending b held store d → IsMoreDue d e → HasPending b held store e
more_due b held store d e has more = record {
  listed = λ r h low. more.keeps r.page (has.listed r h low);
  top = λ page. let v : version_of store page ≤ d.top = has.top page in let up : d.top ≤ e.top = more.top in omega arith;
}

-- ---- the stored records change
pub fewer_held : (b : BookData) (old new : List RecordData) (store : Store) (d : PendingData) → ((r : RecordData) → Contains new r → Contains old r)
    → HasPending b old store d → HasPending b new store d
fewer_held b old new store d within has = search rules

put_adds : (old new : List RecordData) (redo : RecordData) (answer : Result Put (Refused RecordData PutFault)) → IfOk answer (Puts old redo new)
    → OnErr answer (new ≡ old) → (r : RecordData) → Contains new r → Contains old r ⊎ (r ≡ redo)
put_adds old new redo (Ok put.New) puts same r h = (puts.1 r).0 h
put_adds old new redo (Ok put.Known) puts same r h = inl (subst (λ (hs : List RecordData). Contains hs r) puts.1 h)
put_adds old new redo (Err e) puts same r h = inl (subst (λ (hs : List RecordData). Contains hs r) same h)

-- one record more, whose page is pending unless it is above every version
pub put_due : (b : BookData) (old new : List RecordData) (store : Store) (d e : PendingData) (redo : RecordData) (answer : Result Put (Refused RecordData PutFault))
    → HasPending b old store d → IsMoreDue d e → (redo.number ≤ d.top → LooksAt e redo.page) → IfOk answer (Puts old redo new) → OnErr answer (new ≡ old)
    → HasPending b new store e
put_due b old new store d e redo answer has more looks puts same = record {
  listed = λ r h low. ⊎_elim
      (λ (u : Contains old r). more.keeps r.page (has.listed r (u, h.1) low))
      (λ (u : r ≡ redo).
      let v : version_of store r.page ≤ d.top = has.top r.page in
      let n : r.number ≡ redo.number = ap (λ (x : RecordData). x.number) u in
      subst (λ (x : RecordData). LooksAt e x.page) (sym u) (looks (omega arith)))
      (put_adds old new redo answer puts same r h.0);
  top = (more_due b old store d e has more).top;
}

-- ---- an image is raised
sets_due : (b : BookData) (held : List RecordData) (old new : Store) (page version : ℕ) (image : List ℕ) (d e : PendingData) → HasPending b held old d → IsMoreDue d e
    → LooksAt e page → version ≤ e.top → SetsImage old page version image new → HasPending b held new e
sets_due b held old new page version image d e has more looks high sets = record {
  listed = λ r h low. ⊎_elim
      (λ (u : r.page ≡ page). subst (LooksAt e) (sym u) looks)
      (λ (u : r.page ≡ page → ⊥).
      let same : version_of new r.page ≡ version_of old r.page = (sets.others r.page u).0 in
      more.keeps r.page (has.listed r h (omega arith)))
      (settled_eq r.page page);
  top = λ g. ⊎_elim
      (λ (u : g ≡ page). let v : version_of new page ≡ version = sets.version_is in subst (λ p. version_of new p ≤ e.top) (sym u) (omega arith))
      (λ (u : g ≡ page → ⊥).
      let same : version_of new g ≡ version_of old g = (sets.others g u).0 in
      let was : version_of old g ≤ d.top = has.top g in
      let up : d.top ≤ e.top = more.top in
      let t : version_of new g ≤ e.top = omega arith in t)
      (settled_eq g page);
}

pub raise_due : (b : BookData) (held : List RecordData) (old new : Store) (page version : ℕ) (image : List ℕ) (d e : PendingData) {X E : Type 0} (answer : Result X E)
    → HasPending b held old d → IsMoreDue d e → LooksAt e page → version ≤ e.top
    → OnOk answer (Raises old page version image new) → OnErr answer (new ≡ old) → HasPending b held new e
raise_due b held old new page version image d e (Ok x) has more looks high raises same = ⊎_elim
    (λ (low : version ≤ version_of old page). subst (λ (s : Store). HasPending b held s e) (sym (raises.lower low)) (more_due b held old d e has more))
    (λ (up : version_of old page < version). sets_due b held old new page version image d e has more looks high (raises.higher up))
    (let t : (version ≤ version_of old page) ⊎ (version_of old page < version) = grind arith in t)
raise_due b held old new page version image d e (Err x) has more looks high raises same =
    subst (λ (s : Store). HasPending b held s e) (sym same) (more_due b held old d e has more)

-- ---- the book changes
-- an LSN is at most the least of some truncations, if there are any
abbrev pub IsTop : Option ℕ → ℕ → Type 0
IsTop None top = Unit {0}
IsTop (Some lo) top = top ≤ lo

pub advance_due : (b c : BookData) (held : List RecordData) (store : Store) (d : PendingData) (a : AdvanceData) (answer : Result Learnt BookRefusal)
    → OnOk answer (LearnsAdvance b a c) → OnErr answer (c ≡ b) → HasPending b held store d → HasPending c held store d
advance_due b c held store d a answer learns same has = search rules

-- in a later book those of the epochs above are alive besides
pub later_due : (b c : BookData) (held : List RecordData) (store : Store) (d : PendingData) → IsLaterBook b c
    → ((r : RecordData) → IsAlive c.cuts c.complete r.epoch r.number → b.complete < r.epoch → r.number ≤ d.top → LooksAt d r.page) → HasPending b held store d
    → HasPending c held store d
later_due b c held store d later opened has = record {
  listed = λ r h low. ⊎_elim
      (λ (u : b.complete < r.epoch). opened r h.1 u (let v : version_of store r.page ≤ d.top = has.top r.page in omega arith))
      (λ (u : r.epoch ≤ b.complete). has.listed r (alive_before b c held r later u h) low)
      (cases_lt b.complete r.epoch);
  top = has.top;
}

-- there are none where no epoch has opened
pub none_opened : (b c : BookData) (d : PendingData) → c.complete ≡ b.complete → (r : RecordData) → IsAlive c.cuts c.complete r.epoch r.number
    → b.complete < r.epoch → r.number ≤ d.top → LooksAt d r.page
none_opened b c d same r alive u low = let known : r.epoch ≤ c.complete = alive.known in absurd (omega arith)

-- what has opened, where the pages are kept that were pending before
pub opened_due : (b c : BookData) (held : List RecordData) (store : Store) (d e : PendingData) (epoch : ℕ) → IsLaterBook b c → epoch ≡ b.complete → IsMoreDue d e
    → ((r : RecordData) → IsAlive c.cuts c.complete r.epoch r.number → epoch < r.epoch → r.number ≤ d.top → LooksAt e r.page) → HasPending b held store d
    → HasPending c held store e
opened_due b c held store d e epoch later at more looks has = record {
  listed = λ r h low. ⊎_elim
      (λ (u : b.complete < r.epoch).
      let v : version_of store r.page ≤ d.top = has.top r.page in
      looks r h.1 (omega arith) (omega arith))
      (λ (u : r.epoch ≤ b.complete). more.keeps r.page (has.listed r (alive_before b c held r later u h) low))
      (cases_lt b.complete r.epoch);
  top = (more_due b held store d e has more).top;
}

-- a record of an epoch that has opened is above the least of the truncations
pub above_least : (b : BookData) (epoch top : ℕ) (least : Option ℕ) → IsBook b → IsLeastLo b.cuts epoch b.complete least → IsTop least top → (r : RecordData)
    → IsAlive b.cuts b.complete r.epoch r.number → epoch < r.epoch → top < r.number
above_least b epoch top least is finds low r alive lt =
    let view = view_of b is in
    let c = view.begun r.epoch (omega arith) alive.known in
    let same : c.0.epoch ≡ r.epoch = c.2 in
    let known : r.epoch ≤ b.complete = alive.known in
    let order : c.0.lo ≤ c.0.hi = view.ordered c.0 c.1 in
    let above : c.0.hi < r.number = alive.begun c.0 c.1 same in
    at least finds low c.0 c.1 (omega arith) (omega arith) (omega arith)
  where
    at : (least : Option ℕ) → IsLeastLo b.cuts epoch b.complete least → IsTop least top → (c : CutData) → Contains b.cuts c → epoch < c.epoch
        → c.epoch ≤ b.complete → c.lo < r.number → top < r.number
    at None finds low c has lt le up = absurd (finds c has lt le)
    at (Some lo) finds low c has lt le up = let least : lo ≤ c.lo = finds.1 c has lt le in let t : top < r.number = omega arith in t

-- ---- a discard
-- what the images of the pending pages have is all that the images have
pub of_pages : (b : BookData) (store : Store) (d : PendingData) (point : ℕ) (old new : List RecordData) → HasPending b old store d → d.all ≡ false
    → RemovesInPages b store point d.pages old new
    → Removes (λ r. IsAlive b.cuts b.complete r.epoch r.number × (r.number ≤ point) × (r.number ≤ version_of store r.page)) old new
of_pages b store d point old new has some gone r = (
  λ h. let left = (gone r).0 h in (
    left.0,
    λ folded. ⊎_elim
        (λ (all : d.all ≡ true). absurd (cc))
        (λ (listed : Contains d.pages r.page). left.1 r.page listed (folded.0, refl, folded.2, folded.1))
        (has.listed r (left.0, folded.0) folded.2),
  ),
  λ h. (gone r).1 (h.0, λ page listed folded. h.1 (folded.0, folded.3, subst (λ g. r.number ≤ version_of store g) (sym folded.1) folded.2)),
)

-- ---- the images at once

-- an LSN that neither the default version is above nor the version of an image
pub top_is : (store : Store) (top : ℕ) → IsStored store → store.floor ≤ top → All (λ (i : StoredImage). i.version ≤ top) store.images → (page : ℕ)
    → version_of store page ≤ top
top_is store top stored low each page = search (rules, stored_images)

pub under_more : (images : List StoredImage) (n : ℕ) (none : StoredImage) (low high : ℕ) → n < length images → low ≤ high
    → (get_or images n none).version ≤ high → All (λ (i : StoredImage). i.version ≤ low) (take n images)
    → All (λ (i : StoredImage). i.version ≤ high) (take (n + 1) images)
under_more images n none low high lt up here each =
    subst (All (λ (i : StoredImage). i.version ≤ high)) (sym (take_more images n none lt))
    (All-push (λ (i : StoredImage). i.version ≤ high) (take n images) (get_or images n none)
    (λ k d l. let v : (get_or (take n images) k d).version ≤ low = each k d l in let t : (get_or (take n images) k d).version ≤ high = omega arith in t)
    here)

-- the top may rise besides
pub raised_top : (old new : PendingData) (top : ℕ) → IsMoreDue old new → new.top ≤ top → IsMoreDue old (record { pages = new.pages; all = new.all; top = top })
raised_top old new top more up = record { keeps = more.keeps; top = (let t : old.top ≤ new.top = more.top in omega arith) }

-- no page has an image
bare_version : (page : ℕ) → version_of (store_of [] 0) page ≡ 0
unfolding version_of
bare_version page = refl

pub none_due : (b : BookData) (held : List RecordData) (store : Store) (d : PendingData) → store ≡ store_of [] 0 → d ≡ all_due 0 → HasPending b held store d
none_due b held store d bare each = search (rules, bare_version)

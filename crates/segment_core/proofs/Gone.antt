-- Records removed by a list of things, one thing after another.
use Rattle.std.proofs.Common.{◌≡◌, ℕ, ◌+◌, ◌<◌, ◌≤◌, ◌↔◌, ⊎_elim, List, [], ◌∷◌, length, take, get_or, refl, sym, ap, ◌∙◌, subst, arith}
use Rattle.std.specs.List.{Contains}
use Rattle.std.proofs.lemmas.List.{take_more, take_all}
use Rattle.std.proofs.lemmas.List.Elements.{Contains-append_left, Contains-append_right, Contains-append_cases}
use Rattle.redo_core.specs.Data.{RecordData}
use Rattle.redo_core.specs.Keys.{key_in, key_of}
use Rattle.redo_core.specs.declared.keys.Key.{Key}
use Rattle.redo_core.specs.Standing.{IsAlive}
use Rattle.redo_core.proofs.Members.{here, which, none_in}
use Rattle.log_theorems.proofs.Deciding.{settled_eq, some_or_none}
use Rattle.log_theorems.proofs.Storing.{stored_images}
use Rattle.epoch_book.specs.Book.{BookData}
use Rattle.hot_log.specs.Held.{IsHeld, HasKey}
use Rattle.hot_log.specs.Removing.{IsFolded, Removes}
use Rattle.hot_log.proofs.Climb.{positive}
use Rattle.page_base.specs.Stored.{IsStored}
use Rattle.segment_theorems.specs.State.{Store, StoredImage, version_of}

-- of the records just those that one of the things hits are gone
abbrev pub GoneBy : {X : Type 0} → (X → RecordData → Type 0) → List X → List RecordData → List RecordData → Type 0
GoneBy {X} Hits xs old new = (r : RecordData) → Contains new r ↔ (Contains old r × ((x : X) → Contains xs x → Hits x r → ⊥))

pub gone_by_none : {X : Type 0} (Hits : X → RecordData → Type 0) (held : List RecordData) → GoneBy Hits [] held held
gone_by_none Hits held r = (λ h. (h, λ x has hit. none_in x has), λ h. h.0)

pub gone_by_more : {X : Type 0} (Hits : X → RecordData → Type 0) (xs : List X) (i : ℕ) (none : X) (old mid new : List RecordData) → i < length xs
    → GoneBy Hits (take i xs) old mid → Removes (Hits (get_or xs i none)) mid new → GoneBy Hits (take (i + 1) xs) old new
gone_by_more {X} Hits xs i none old mid new lt seen removes = λ r.
    subst (λ ys. Contains new r ↔ (Contains old r × ((x : X) → Contains ys x → Hits x r → ⊥))) (sym (take_more xs i none lt)) (
      λ h. let was = (removes r).0 h in let before = (seen r).0 was.0 in (
        before.0,
        λ x has hit. ⊎_elim
            (λ (y : Contains (take i xs) x). before.1 x y hit)
            (λ (y : Contains (get_or xs i none ∷ []) x). ⊎_elim
            (λ (e : get_or xs i none ≡ x). was.1 (subst (λ z. Hits z r) (sym e) hit))
            (λ (e : Contains [] x). none_in x e)
            (which (get_or xs i none) [] x y))
            (Contains-append_cases (take i xs) (get_or xs i none ∷ []) x has),
      ),
      λ h. (removes r).1 (
        (seen r).1 (h.0, λ x has hit. h.1 x (Contains-append_left (take i xs) (get_or xs i none ∷ []) x has) hit),
        λ hit. h.1 (get_or xs i none) (Contains-append_right (take i xs) (get_or xs i none ∷ []) (get_or xs i none) (here (get_or xs i none) [])) hit,
      ),
    )

pub gone_by_all : {X : Type 0} (Hits : X → RecordData → Type 0) (xs : List X) (i : ℕ) (old new : List RecordData) → length xs ≤ i
    → GoneBy Hits (take i xs) old new → GoneBy Hits xs old new
gone_by_all Hits xs i old new end seen = subst (λ ys. GoneBy Hits ys old new) (take_all i xs end) seen

-- ---- by keys
pub of_keys : (keys : List Key) (old new : List RecordData) → GoneBy (λ (key : Key) r. HasKey key r) keys old new
    → (r : RecordData) → Contains new r ↔ (Contains old r × (Contains keys (key_of r) → ⊥))
of_keys keys old new gone r = (
  λ h. let left = (gone r).0 h in (left.0, λ has. left.1 (key_of r) has (refl, refl)),
  λ h. (gone r).1 (h.0, λ key has same. h.1 (subst (Contains keys) (sym (key_is key same)) has)),
)
  where
    key_is : (key : Key) → HasKey key r → key_of r ≡ key
    key_is key same = ap (λ e. key_in e r.number) same.0 ∙ ap (λ n. key_in key.epoch n) same.1

-- ---- by images, where a page that has none is at version 0
pub of_images : (book : BookData) (store : Store) (point : ℕ) (old new : List RecordData) → IsStored store → store.floor ≡ 0 → IsHeld old
    → GoneBy (λ (i : StoredImage) r. IsFolded book i.page i.version point r) store.images old new
    → Removes (λ r. IsAlive book.cuts book.complete r.epoch r.number × (r.number ≤ point) × (r.number ≤ version_of store r.page)) old new
of_images book store point old new stored floor held gone r = (
  λ h. let left = (gone r).0 h in (left.0, λ folded. spared left.0 left.1 folded),
  λ h. (gone r).1 (
    h.0,
    λ i has folded. h.1 (
      folded.0,
      folded.3,
      (let e : version_of store i.page ≡ i.version = ((stored_images store stored.rising).0 i has).0 in
          subst (λ page. r.number ≤ version_of store page) (sym folded.1) (omega (arith, e, folded.2))),
    ),
  ),
)
  where
    spared : Contains old r → ((i : StoredImage) → Contains store.images i → IsFolded book i.page i.version point r → ⊥)
        → IsAlive book.cuts book.complete r.epoch r.number × (r.number ≤ point) × (r.number ≤ version_of store r.page) → ⊥
    spared has none folded =
        ⊎_elim
        (λ (s : (i : StoredImage) × Contains store.images i × (i.page ≡ r.page)).
        let e : version_of store s.0.page ≡ s.0.version = ((stored_images store stored.rising).0 s.0 s.1).0 in
        let low : r.number ≤ version_of store s.0.page = subst (λ page. r.number ≤ version_of store page) (sym s.2) folded.2 in
        none s.0 s.1 (folded.0, sym s.2, omega (arith, e, low), folded.1))
        (λ (without : (i : StoredImage) → Contains store.images i → i.page ≡ r.page → ⊥).
        let e : version_of store r.page ≡ store.floor = ((stored_images store stored.rising).1 r.page without).0 in
        let up : 0 < r.number = positive r (held.shaped r has) in
        absurd (omega (arith, e, floor, up, folded.2)))
        (some_or_none (λ (i : StoredImage). i.page ≡ r.page) (λ i. settled_eq i.page r.page) store.images)

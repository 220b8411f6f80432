-- What a segment stores determines one meaning.
use Rattle.std.proofs.Common.{◌≡◌, ◌≢◌, ℕ, ◌<◌, ◌≤◌, ◌⊎◌, inl, inr, ⊎_elim, List, ◌++◌, map, refl, sym, ◌∙◌, subst, arith, rules}
use Rattle.std.specs.List.{Contains}
use Rattle.std.proofs.lemmas.List.Elements.{Contains-append_left, Contains-append_right}
use Rattle.redo_core.specs.Data.{RecordData}
use Rattle.redo_core.specs.Order.{IsRising, Lists, CutBefore, AdvanceBefore, RecordBefore}
use Rattle.redo_core.specs.Standing.{IsAlive, IsWaiting}
use Rattle.redo_core.specs.Writing.{zeros}
use Rattle.redo_core.specs.Meaning.{Meaning, ImageData, ImageBefore}
use Rattle.redo_core.proofs.Members.{lists_unique}
use Rattle.redo_core.proofs.Pairs.{pair_apart, pair_trans, pair_order, advance_apart}
use Rattle.log_theorems.proofs.Deciding.{settled_le, settled_lt, settled_and, settled_or, in_order}
use Rattle.log_theorems.proofs.Fronts.{settled_alive, settled_linked}
use Rattle.log_theorems.proofs.Meanings.{lists_as, nat_order, same_image, list_eq, in_map, from_map, record_of_meaning}
use Rattle.redo_core.proofs.Numbers.{greatest_below}
use Rattle.segment_theorems.specs.State.{State, StoredImage, min_of}
use Rattle.segment_theorems.specs.Shows.{Shows}
use Rattle.segment_theorems.specs.HasMeaning.{IsLinkedIn, HasAnchor, IsKeptBy, HasMeaning}
use Rattle.segment_core.specs.Form.{IsSegment}
use Rattle.segment_core.proofs.Keys.{one_of_key}
use Rattle.segment_core.proofs.BarePages.{IsBare, shows_some, bare_is_zeros, bare_or_not}
use Rattle.gossip_core.specs.Laws.{EverySegmentHasOneMeaning}
use Rattle.segment_core.proofs.OneView.{one_anchor}
use Rattle.segment_core.proofs.SamePages.{shows_one}
use Rattle.hot_log.proofs.Chain.{back_below}

-- a rising list lists its members
itself : {X : Type 0} (Before : X → X → Type 0) (xs : List X) → IsRising Before xs → Lists Before (Contains xs) xs
itself Before xs rising = record { rising = rising; members = λ x. (λ h. h, λ h. h) }

-- there is an anchor
anchor_exists : (s : State) → IsSegment s → (anchor : ℕ) × HasAnchor s anchor
anchor_exists s form =
    greatest_below (λ n. IsLinkedIn s n × (n ≤ min_of s))
    (λ n. settled_and _ _
    (settled_linked s.book.cuts s.held s.book.complete s.base (λ r h. back_below r (form.held.shaped r h)) n)
    (λ _. settled_le n (min_of s)))
    (min_of s) (λ n h. h.1)

-- the pages that have an image, and those that stored records write
stored_pages : State → List ℕ
stored_pages s = map (λ (i : StoredImage). i.page) s.store.images ++ map (λ (r : RecordData). r.page) s.held

shown_stored : (s : State) (point page : ℕ) (bytes : List ℕ) → IsSegment s → Shows s page point bytes → bytes ≢ zeros → Contains (stored_pages s) page
unfolding stored_pages
shown_stored s point page bytes form shows wet =
    let images = map (λ (i : StoredImage). i.page) s.store.images in
    let written = map (λ (r : RecordData). r.page) s.held in
    ⊎_elim
    (λ (bare : IsBare s page). absurd (wet (bare_is_zeros s page point bytes form bare shows)))
    (λ (t : ((i : StoredImage) × Contains s.store.images i × (i.page ≡ page)) ⊎ ((r : RecordData) × Contains s.held r × (r.page ≡ page))). ⊎_elim
    (λ (image : (i : StoredImage) × Contains s.store.images i × (i.page ≡ page)).
    Contains-append_left images written page (subst (Contains images) image.2 (in_map (λ (i : StoredImage). i.page) s.store.images image.0 image.1)))
    (λ (redo : (r : RecordData) × Contains s.held r × (r.page ≡ page)).
    Contains-append_right images written page (subst (Contains written) redo.2 (in_map (λ (r : RecordData). r.page) s.held redo.0 redo.1)))
    t)
    (bare_or_not s page)

-- there are the nonzero pages at a point
images_exist : (s : State) (point : ℕ) → IsSegment s → (is : List ImageData) × Lists ImageBefore (λ i. Shows s i.page point i.bytes × (i.bytes ≢ zeros)) is
images_exist s point form =
    let image : ℕ → ImageData = λ page. record { page = page; bytes = (shows_some s page point form).0 } in
    let IsShown : ImageData → Type 0 = λ i. Shows s i.page point i.bytes in
    let shown : (i : ImageData) → Contains (map image (stored_pages s)) i → IsShown i =
    λ i h. let t = from_map image (stored_pages s) i h in subst IsShown t.2 (shows_some s t.0 point form).1 in
    let one : (i j : ImageData) → IsShown i → IsShown j → i.page ≡ j.page → i ≡ j =
    λ i j a b e. same_image i j e (shows_one s i.page point i.bytes j.bytes a (subst (λ g. Shows s g point j.bytes) (sym e) b)) in
    let all = in_order ImageBefore IsShown (λ x y z a b. omega (arith, a, b))
    (λ x y a b. ⊎_elim
    (λ (lt : x.page < y.page). inl lt)
    (λ (t : (x.page ≡ y.page) ⊎ (y.page < x.page)). ⊎_elim
    (λ (e : x.page ≡ y.page). inr (inl (one x y a b e)))
    (λ (gt : y.page < x.page). inr (inr gt))
    t)
    (nat_order x.page y.page))
    (λ i. i.bytes ≢ zeros)
    (λ i. ⊎_elim (λ (e : i.bytes ≡ zeros). inr (λ no. no e)) (λ (no : i.bytes ≡ zeros → ⊥). inl no) (list_eq i.bytes zeros))
    (map image (stored_pages s)) (λ i h wet. shown i h) in (
      all.0,
      lists_as ImageBefore (λ i. Contains (map image (stored_pages s)) i × (i.bytes ≢ zeros)) (λ i. Shows s i.page point i.bytes × (i.bytes ≢ zeros))
          (λ i. (
            λ h. (shown i h.0, h.1),
            λ h. (
              subst (Contains (map image (stored_pages s))) (one (image i.page) i (shows_some s i.page point form).1 h.0 refl)
                  (in_map image (stored_pages s) i.page (shown_stored s point i.page i.bytes form h.0 h.1)),
              h.1,
            ),
          ))
          all.0 all.1,
    )

-- there are the kept records
kept_exists : (s : State) (anchor : ℕ) → IsSegment s → (rs : List RecordData) × Lists RecordBefore (IsKeptBy s anchor) rs
kept_exists s anchor form =
    in_order RecordBefore (Contains s.held) (λ x y z a b. pair_trans x.epoch x.number y.epoch y.number z.epoch z.number a b)
    (λ x y a b. ⊎_elim
    (λ (lt : RecordBefore x y). inl lt)
    (λ (t : ((x.epoch ≡ y.epoch) × (x.number ≡ y.number)) ⊎ RecordBefore y x). ⊎_elim
    (λ (e : (x.epoch ≡ y.epoch) × (x.number ≡ y.number)). inr (inl (one_of_key s.held x y form.held.rising a b e.0 e.1)))
    (λ (gt : RecordBefore y x). inr (inr gt))
    t)
    (pair_order x.epoch x.number y.epoch y.number))
    (λ r. IsWaiting s.book.complete r.epoch ⊎ (IsAlive s.book.cuts s.book.complete r.epoch r.number × (anchor < r.number)))
    (λ r. settled_or _ _ (settled_lt s.book.complete r.epoch)
    (settled_and _ _ (settled_alive s.book.cuts s.book.complete r.epoch r.number) (λ _. settled_lt anchor r.number)))
    s.held (λ r h kept. h)

meaning_exists : (s : State) → IsSegment s → (m : Meaning) × HasMeaning s m
meaning_exists s form =
    let anchor = anchor_exists s form in
    let pages = images_exist s anchor.0 form in
    let kept = kept_exists s anchor.0 form in (
      record { cuts = s.book.cuts; points = s.book.points; waits = s.book.waits; anchor = anchor.0; pages = pages.0; kept = kept.0 },
      record {
        epoch = form.book.complete;
        same_cuts = itself CutBefore s.book.cuts form.book.cuts_rise;
        same_points = refl;
        same_waits = itself AdvanceBefore s.book.waits form.book.waits_rise;
        anchor = anchor.1;
        pages = pages.1;
        kept = kept.1;
      },
    )

one_list : {X : Type 0} (Before : X → X → Type 0) → ((x y : X) → Before x y → Before y x → ⊥) → (P : X → Type 0) (xs ys : List X)
    → Lists Before P xs → Lists Before P ys → xs ≡ ys
one_list Before apart P xs ys a b = lists_unique Before apart P P (λ x. (λ h. h, λ h. h)) xs ys a b

only_one : (s : State) (m n : Meaning) → IsSegment s → HasMeaning s m → HasMeaning s n → m ≡ n
only_one s m n form a b =
    let anchor : n.anchor ≡ m.anchor = one_anchor s n.anchor m.anchor b.anchor a.anchor in
    record_of_meaning m n
    (one_list CutBefore (λ c d u v. omega (arith, u, v)) (Contains s.book.cuts) m.cuts n.cuts a.same_cuts b.same_cuts)
    (a.same_points ∙ sym b.same_points)
    (one_list AdvanceBefore advance_apart (Contains s.book.waits) m.waits n.waits a.same_waits b.same_waits)
    (sym anchor)
    (one_list ImageBefore (λ i j u v. omega (arith, u, v)) (λ i. Shows s i.page m.anchor i.bytes × (i.bytes ≢ zeros)) m.pages n.pages a.pages
    (subst (λ k. Lists ImageBefore (λ i. Shows s i.page k i.bytes × (i.bytes ≢ zeros)) n.pages) anchor b.pages))
    (one_list RecordBefore (λ r q u v. pair_apart r.epoch r.number q.epoch q.number u v) (IsKeptBy s m.anchor) m.kept n.kept a.kept
    (subst (λ k. Lists RecordBefore (IsKeptBy s k) n.kept) anchor b.kept))

pub every_segment_has_one_meaning : EverySegmentHasOneMeaning
every_segment_has_one_meaning s form = search (rules, meaning_exists, only_one)

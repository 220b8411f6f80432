-- The images that stay current where a segment changes.
use Rattle.std.proofs.Common.{◌≡◌, ℕ, ◌<◌, ◌≤◌, ◌⊎◌, ◌↔◌, inl, ⊎_elim, Bool, true, false, true≢false, IsTrue, List, [], Result, Ok, IfOk, OnErr, max, sym, ap, ◌∙◌, arith, rules}
use Rattle.std.specs.List.{Contains}
use Rattle.lru.specs.LruCache.{lru_cache}
use Rattle.redo_core.specs.Data.{RecordData}
use Rattle.redo_core.specs.declared.facts.Fact.{Fact}
use Rattle.redo_core.specs.declared.facts.Fact.TheVariants.{Record, Cut, Advance}
use Rattle.redo_core.specs.declared.refusal.Refused.{Refused}
use Rattle.segment_theorems.specs.State.{State, version_of, image_of}
use Rattle.segment_theorems.specs.HasMeaning.{IsLinkedIn, HasComplete}
use Rattle.segment_theorems.specs.Learning.{PutsRecord}
use Rattle.segment_core.specs.Taking.{Stores}
use Rattle.segment_core.specs.Folding.{Commits}
use Rattle.segment_core.specs.Forgetting.{DiscardsJust}
use Rattle.segment_core.specs.declared.answers.Taken.{Taken}
use Rattle.segment_core.specs.declared.answers.Taken.TheVariants.{Changed, Unchanged}
use Rattle.segment_core.specs.declared.answers.Refusal.{Refusal}
use Rattle.segment_core.specs.declared.fold_plan.Folded.{Folded}
use Rattle.read_cache.specs.declared.kept.KeptImage.{KeptImage}
use Rattle.read_cache.specs.Images.{Images, IsAmong, Forgets, CachesOnly, kept_at}
use Rattle.read_cache.specs.UpToDate.{IsUpToDate, Touches}
use Rattle.read_cache.specs.Cached.{IsShown}
use Rattle.read_cache.proofs.Bounds.{at_most_bound}
use Rattle.read_cache.proofs.Stable.{SameView, shows_as, linked_in}

none_kept : (s : State) → IsUpToDate s 0 []
none_kept s = search rules

pub is_shown : (s : State) (top : ℕ) (images : List (ℕ × KeptImage)) → IsUpToDate s top images → (page : ℕ) (kept : KeptImage) → Contains images (page, kept)
    → IsShown s page kept
is_shown s top images u page kept at = record {
  shown = u.shown (page, kept) at;
  covered = λ complete has.
      let low : kept.point ≤ top = u.below (page, kept) at in
      let high : top ≤ complete = u.linked complete has.1 in
      omega arith;
}

-- images are dropped where they may be stale
pub unless_stale : (s : State) (stale : Bool) (old new : Images) (top low : ℕ)
    → (stale ≡ true → (new ≡ lru_cache [] old.cap) × (low ≡ 0)) → (stale ≡ false → (new ≡ old) × (low ≡ top))
    → (stale ≡ false → IsUpToDate s top old.entries) → IsUpToDate s low new.entries
unless_stale s stale old new top low cleared same current = search (rules, none_kept)

-- a record above each kept point
after_record : (old new : State) (r : RecordData) (top : ℕ) (images : List (ℕ × KeptImage)) → PutsRecord old r new → top < r.number → IsUpToDate old top images
    → IsUpToDate new top images
after_record old new r top images put high u =
    let view : SameView old new = record { cuts = ap (λ b. b.cuts) put.book; complete = ap (λ b. b.complete) put.book } in
    record {
      shown = λ e at.
          let low : e.1.point ≤ top = u.below e at in
          shows_as old new e.0 e.1.point e.1.image view
          (record { version = ap (λ st. version_of st e.0) put.rest.store; image = ap (λ st. image_of st e.0) put.rest.store })
          (λ x alive page above most. (
            λ h. (put.held x).1 (inl h),
            λ h. ⊎_elim (λ (was : Contains old.held x). was) (λ (new : x ≡ r). absurd (let n : x.number ≡ r.number = ap (λ y. y.number) new in omega arith))
                ((put.held x).0 h),
          ))
          (u.shown e at);
      below = u.below;
      linked = λ bound most. u.linked bound (λ n l. most n (linked_in old new n view put.rest.base (λ x h. (put.held x).1 (inl h)) l));
    }

after_advance : (old new : State) (top : ℕ) (images : List (ℕ × KeptImage)) → SameView old new → new.held ≡ old.held → new.base ≡ old.base
    → new.store ≡ old.store → IsUpToDate old top images → IsUpToDate new top images
after_advance old new top images view held base store u = record {
  shown = λ e at.
      shows_as old new e.0 e.1.point e.1.image view
      (record { version = ap (λ st. version_of st e.0) store; image = ap (λ st. image_of st e.0) store })
      (λ x alive page above most. rw held (λ h. h, λ h. h))
      (u.shown e at);
  below = u.below;
  linked = λ bound most. u.linked bound (λ n l. most n (linked_in old new n view base (λ x h. rw held h) l));
}

stored : (old new : State) (fact : Fact) (top : ℕ) (images : List (ℕ × KeptImage)) (touched : Bool) → Touches fact top touched → touched ≡ false
    → Stores old fact new → IsUpToDate old top images → IsUpToDate new top images
stored old new (Record r) top images touched t off s u =
    after_record old new r top images s
    (⊎_elim (λ (h : top < r.number). h) (λ (h : r.number ≤ top). absurd (true≢false (sym (t.1 h) ∙ off))) (let o : (top < r.number) ⊎ (r.number ≤ top) = grind arith in o)) u
stored old new (Cut c) top images touched t off s u = absurd (true≢false (sym t ∙ off))
stored old new (Advance a) top images touched t off s u =
    after_advance old new top images (record { cuts = s.book.cuts; complete = s.book.complete }) s.held s.rest.base s.rest.store u

-- what is not touched by a fact, or not by one that changes nothing
pub after_take : (old new : State) (fact : Fact) (top : ℕ) (images : List (ℕ × KeptImage)) (touched stale : Bool) (result : Result Taken (Refused Fact Refusal))
    → Touches fact top touched → IsTrue stale ↔ (IsTrue touched × (result ≡ Ok Changed))
    → IfOk result (λ taken. taken ≡ Changed → Stores old fact new) → IfOk result (λ taken. taken ≡ Unchanged → new ≡ old) → OnErr result (new ≡ old)
    → stale ≡ false → IsUpToDate old top images → IsUpToDate new top images
after_take old new fact top images touched stale result t is stores idle unchanged fresh u = search (rules, stored)

-- a page that takes an image, and whose cached image is dropped
pub after_commit : (old new : State) (folded : Folded) (top : ℕ) (before after : Images) → Commits old folded new → Forgets before folded.page after
    → IsUpToDate old top before.entries → IsUpToDate new top after.entries
after_commit old new folded top before after c f u =
    ⊎_elim
    (λ (older : folded.version ≤ version_of old.store folded.page). rw (c.older older) (record {
      shown = λ e at. u.shown e (f e at).0;
      below = λ e at. u.below e (f e at).0;
      linked = u.linked;
    }))
    (λ (newer : version_of old.store folded.page < folded.version). let n = c.newer newer in
    let view : SameView old new = record { cuts = ap (λ b. b.cuts) n.book; complete = ap (λ b. b.complete) n.book } in record {
      shown = λ e at.
          let was = f e at in
          let image = n.others e.0 was.1 in
          shows_as old new e.0 e.1.point e.1.image view (record { version = image.0; image = image.1 })
          (λ x alive page above most. rw n.held (λ h. h, λ h. h)) (u.shown e was.0);
      below = λ e at. u.below e (f e at).0;
      linked = λ bound most. u.linked bound (λ m l. most m (linked_in old new m view n.base (λ x h. rw n.held h) l));
    })
    (let o : (folded.version ≤ version_of old.store folded.page) ⊎ (version_of old.store folded.page < folded.version) = grind arith in o)

-- records that images have are dropped, and the complete point is not below the points kept
pub after_discard : (old new : State) (top complete : ℕ) (images : List (ℕ × KeptImage)) → DiscardsJust old new → HasComplete new complete → top ≤ complete
    → IsUpToDate old top images → IsUpToDate new top images
after_discard old new top complete images d has high u =
    let view : SameView old new = record { cuts = ap (λ b. b.cuts) d.book; complete = ap (λ b. b.complete) d.book } in record {
      shown = λ e at.
          shows_as old new e.0 e.1.point e.1.image view
          (record { version = ap (λ st. version_of st e.0) d.store; image = ap (λ st. image_of st e.0) d.store })
          (λ x alive page above most. (
            λ h. (d.held x).1 (
              h,
              λ folded. let low : x.number ≤ version_of old.store x.page = folded.2 in
                  let same : version_of old.store x.page ≡ version_of old.store e.0 = ap (version_of old.store) page in omega arith,
            ),
            λ h. ((d.held x).0 h).0,
          ))
          (u.shown e at);
      below = u.below;
      linked = λ bound most. ⊎_elim (λ (zero : complete ≡ 0). omega arith) (λ (l : IsLinkedIn new complete). let m : complete ≤ bound = most complete l in omega arith)
          has.0;
    }

-- an image that a read has shown
pub after_keep : (s : State) (top point page high : ℕ) (image : List ℕ) (before after : Images) → IsShown s page (kept_at point image)
    → CachesOnly before page (kept_at point image) after → high ≡ max top point → IsUpToDate s top before.entries → IsUpToDate s high after.entries
after_keep s top point page high image before after shown keeps is u = record {
  shown = λ e at. ⊎_elim
      (λ (was : Contains before.entries e). u.shown e was)
      (λ (new : e ≡ (page, kept_at point image)). rw new shown.shown)
      (keeps e at);
  below = λ e at. ⊎_elim
      (λ (was : Contains before.entries e). let low : e.1.point ≤ top = u.below e was in omega (arith, is))
      (λ (new : e ≡ (page, kept_at point image)). rw new (omega (arith, is)))
      (keeps e at);
  linked = λ bound most.
      let low : top ≤ bound = u.linked bound most in
      let reached : point ≤ bound = at_most_bound (IsLinkedIn s) point bound most (λ complete has below. let c : point ≤ complete = shown.covered complete has in omega arith) in
      omega (arith, is);
}

-- images that were among those that are
pub after_find : (s : State) (top : ℕ) (before after : Images) → IsAmong after before → IsUpToDate s top before.entries → IsUpToDate s top after.entries
after_find s top before after among u = record {
  shown = λ e at. u.shown e (among e at);
  below = λ e at. u.below e (among e at);
  linked = u.linked;
}

use Rattle.std.proofs.Common.{◌≡◌, ◌≤◌, List, [], map, subst, IfOk}
use Rattle.redo_core.specs.Order.{Lists, RecordBefore}
use Rattle.redo_core.specs.Keys.{key_of}
use Rattle.std.specs.List.{Contains}
use Rattle.redo_core.specs.declared.keys.Key.{Key}
use Rattle.redo_core.proofs.Members.{none_in}
use Rattle.redo_core.proofs.Listing.{lists_as}
use Rattle.redo_core.proofs.Numbers.{greatest_unique}
use Rattle.segment_theorems.specs.State.{min_of}
use Rattle.segment_theorems.specs.HasMeaning.{IsLinkedIn, IsKeptBy}
use Rattle.hot_log.proofs.Pages.{if_ok}
use Rattle.segment_core.proofs.kept.kept_of.Goals as goal

pub returns : goal.returns
returns c = λ anchor has.
    let s = c.args.segment.now in
    let own : c.anchor-anchor.result ≡ anchor = greatest_unique (λ n. IsLinkedIn s n × (n ≤ min_of s)) (λ n. IsLinkedIn s n × (n ≤ min_of s)) (λ n. (λ u. u, λ u. u)) c.anchor-anchor.result anchor c.anchor-anchor.ensures.own has in
    let none : List Key = [] in
    subst (λ n. IfOk c.kept_unlisted.result (λ v. Lists RecordBefore (IsKeptBy s n) (map (λ r. r.now) v.items))) own
    (if_ok c.kept_unlisted.result _ _
    (λ v lists. lists_as RecordBefore (λ r. IsKeptBy s c.anchor-anchor.result r × (Contains none (key_of r) → ⊥)) (IsKeptBy s c.anchor-anchor.result) _ (λ r. (λ h. h.0, λ h. (h, λ u. none_in (key_of r) u))) lists)
    c.kept_unlisted.ensures)

-- A store that takes nothing in stays as it is.
use Rattle.std.proofs.Common.{ℕ, ◌≤◌, inl, refl, arith, []}
use Rattle.redo_core.specs.Store.{Store}
use Rattle.redo_core.proofs.Members.{none_in}
use Rattle.page_base.specs.Merging.{Merges}
use Rattle.page_base.specs.Stored.{IsStored}
use Rattle.page_base.proofs.Shown.{above_floor}

pub nothing_merged : (store : Store) (floor : ℕ) → IsStored store → floor ≤ store.floor → Merges store floor [] store
nothing_merged store floor base low = record {
  page = λ page. inl (refl, refl);
  not_older = λ page. omega arith;
  not_below = λ i h. absurd (none_in i h);
  floored = λ page. let high = above_floor store.images store.floor page base in omega (arith, high, low);
  floor_is = grind (arith, low);
  listed = λ i h. inl h;
}

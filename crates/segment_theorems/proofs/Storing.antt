-- An image that is put among the stored ones.
use Rattle.std.proofs.Common.{◌≡◌, ◌≤◌, inl, refl}
use Rattle.redo_core.specs.Order.{IsRising}
use Rattle.redo_core.specs.Store.{StoredImage, version_of, PageBefore, PutsImage}
use Rattle.log_theorems.proofs.Storing.{stored_images, unmoved}
use Rattle.segment_theorems.specs.State.{State}
use Rattle.segment_theorems.specs.Shedding.{CommitsImage}

pub put_commits : (old new : State) (image : StoredImage)
    → IsRising PageBefore old.store.images → PutsImage old.store.images image new.store.images → new.store.floor ≡ old.store.floor
    → new.book ≡ old.book → new.held ≡ old.held → new.base ≡ old.base → version_of old.store image.page ≤ image.version
    → CommitsImage old image.page image.version image.bytes new
put_commits old new image r put floor book held base newer =
    let own = (stored_images new.store put.rising).0 image ((put.members image).1 (inl refl)) in
    record {
      book = book;
      held = held;
      base = base;
      newer = newer;
      version_is = own.0;
      image_is = own.1;
      others = λ other no. unmoved old.store new.store image other r put floor no;
    }

use Rattle.std.proofs.Common.{List, subst}
use Rattle.std.specs.Option.{option_copied}
use Rattle.redo_core.specs.Store.{Store, StoredImage}
use Rattle.page_base.specs.Stored.{store_of, IsStoredImage}
use Rattle.page_base.proofs.store.BaseStore.stored_image.Goals as goal

pub returns : goal.returns
returns c =
    subst (λ (s : Store). IsStoredImage s c.args.page (option_copied c.stored_in.result)) c.self.view_is
    (subst (λ (images : List StoredImage). IsStoredImage (store_of images c.self.inside.floor) c.args.page (option_copied c.stored_in.result))
    c.deref.ensures.value (c.stored_in.ensures c.self.inside.floor))

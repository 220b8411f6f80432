use Rattle.log_theorems.proofs.Storing.{stored_images}
use Rattle.log_theorems.proofs.stored_images.Goals as goal

pub returns : goal.returns
returns c = stored_images

-- What a read through the cache returns.
use Rattle.std.specs.Prelude.{◌≡◌, ℕ, ◌≤◌, List, Result, Err, IfOk, IfErr}
use Rattle.std.specs.List.{Contains}
use Rattle.segment_theorems.specs.State.{min_of}
use Rattle.segment_core.specs.BlockChain.{BreaksAt, IsReadable, ReportsBreak}
use Rattle.segment_core.specs.declared.answers.ReadFault.{ReadFault}
use Rattle.segment_core.specs.declared.answers.ReadFault.TheVariants.{BrokenBlockChain, Memory}
use Rattle.read_cache.specs.declared.kept.KeptImage.{KeptImage}
use Rattle.read_cache.specs.Cached.{Cached, IsShown, KeepsNone}

-- a broken block chain is reported only at a readable point that has one, and always where no image of the page is kept that was read there
pub record ReportsUnkeptBreak (c : Cached) (page q : ℕ) (result : Result (List ℕ) ReadFault) : Type 0 where
  pub only : (g n : ℕ) → result ≡ Err (BrokenBlockChain g n) → (g ≡ page) × IsReadable c.segment q × BreaksAt c.segment page q n
  pub unkept : KeepsNone c page q → ReportsBreak c.segment page q result

-- a read at a point from the minimum on returns an image that was kept of it, unless memory runs out
pub record IsHit (c : Cached) (page q : ℕ) (result : Result (List ℕ) ReadFault) : Type 0 where
  pub reached : min_of c.segment ≤ q
  pub kept : KeptImage
  pub among : Contains c.images (page, kept)
  pub at : kept.point ≡ q
  pub shown : IsShown c.segment page kept
  pub image : IfOk result (λ image. image ≡ kept.image)
  pub memory : IfErr result (λ fault. fault ≡ Memory)

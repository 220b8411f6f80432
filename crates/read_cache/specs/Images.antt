-- What a cache of images contains, and how it changes.
use Rattle.std.specs.Prelude.{◌≡◌, ◌≢◌, ℕ, ◌⊎◌, List, [], Option, None, Some}
use Rattle.std.specs.List.{Contains}
use Rattle.lru.specs.LruCache.{LruCache, lru_cache}
use Rattle.read_cache.specs.declared.kept.KeptImage.{KeptImage}

-- the images kept by page, the one last read first, and how many are kept at most
abbrev pub Images : Type 0
Images = LruCache ℕ KeptImage

-- with no cache none is kept
abbrev pub images_in : Option Images → Images
images_in None = lru_cache [] 0
images_in (Some cache) = cache

abbrev pub kept_at : ℕ → List ℕ → KeptImage
kept_at point image = record { point = point; image = image }

-- no image is kept that was not
abbrev pub IsAmong : Images → Images → Type 0
IsAmong new old = (e : ℕ × KeptImage) → Contains new.entries e → Contains old.entries e

-- nor any of the page
abbrev pub Forgets : Images → ℕ → Images → Type 0
Forgets old page new = (e : ℕ × KeptImage) → Contains new.entries e → Contains old.entries e × (e.0 ≢ page)

-- no image is kept but the one of the page and those that were
abbrev pub CachesOnly : Images → ℕ → KeptImage → Images → Type 0
CachesOnly old page kept new = (e : ℕ × KeptImage) → Contains new.entries e → Contains old.entries e ⊎ (e ≡ (page, kept))

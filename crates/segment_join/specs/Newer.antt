-- Which images of a store are newer than another store's.
use Rattle.std.specs.Prelude.{◌<◌, ◌↔◌, List}
use Rattle.std.specs.List.{Contains}
use Rattle.segment_theorems.specs.State.{Store, StoredImage, version_of}

-- the images are those of the other store whose version is above the page's version in this one
abbrev pub AreNewer : Store → Store → List StoredImage → Type 0
AreNewer own other images = (i : StoredImage) → Contains images i ↔ (Contains other.images i × (version_of own i.page < i.version))

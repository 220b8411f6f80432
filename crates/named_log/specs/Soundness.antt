-- No definition: the proof that the log of a drill is sound, which the law of its name cites. A law's proof must be in specs/.
pub mod ByPlace
pub mod Remainders
pub mod Shapes
pub mod FirstCuts
pub mod Contents
pub mod Laws
pub mod Sound

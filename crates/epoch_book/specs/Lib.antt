pub mod Book
pub mod Knowing
pub mod Learning
pub mod Refusing
pub mod Lows
pub mod Scanning
pub mod SoundFacts
pub mod Contradicted

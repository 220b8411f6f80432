pub mod Scanned
pub mod Scans
pub mod LinkedScans
pub mod CountedCuts
pub mod CountedScans
pub mod Keys
pub mod Laws
pub mod PageScans
pub mod PageSteps
mod ReadersPoints
mod Coverings

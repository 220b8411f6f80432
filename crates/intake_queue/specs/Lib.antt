pub mod Parcel
pub mod Ends
pub mod Heard
pub mod Left
pub mod Known
pub mod Rule

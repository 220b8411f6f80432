pub mod Number
pub mod Parts
pub mod Fields
pub mod HexDigits
pub mod Wording
pub mod Laws

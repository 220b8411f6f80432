pub mod Lists
mod Parts
mod Receipts

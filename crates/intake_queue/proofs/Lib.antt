pub mod Parcels
mod Views
mod Beginning
mod Moving
mod Hearing
mod Closing

pub mod Guards

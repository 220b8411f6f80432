pub mod BookMins

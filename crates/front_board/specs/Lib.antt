pub mod FrontWord
pub mod Rule
pub mod Seat
pub mod NthGreatest
pub mod Survey
pub mod Quorum

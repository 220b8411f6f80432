pub mod Calls
pub mod Encoded
pub mod Numbers
pub mod Replies
pub mod Requests

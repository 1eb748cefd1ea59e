pub mod Sealing
pub mod Letters
pub mod Replies

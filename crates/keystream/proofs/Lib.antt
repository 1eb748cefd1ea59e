mod Numbers
mod Bytes
pub mod Sealing
mod Laying
pub mod Streams
mod Holding
pub mod Applying

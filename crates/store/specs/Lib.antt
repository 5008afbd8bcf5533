pub mod Bits
pub mod Holding
pub mod Listed
pub mod Marked
pub mod Records

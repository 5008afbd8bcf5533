pub mod Cuts
pub mod Digits
pub mod Pages
pub mod Spaces
pub mod Spelling
pub mod Tells
pub mod Readings

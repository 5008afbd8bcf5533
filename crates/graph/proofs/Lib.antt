pub mod Reaching
pub mod Shifted
pub mod Stars

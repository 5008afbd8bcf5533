pub mod Universal

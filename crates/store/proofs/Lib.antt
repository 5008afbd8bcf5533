pub mod Admitted
pub mod BitsHeld
pub mod BitsPlaced
pub mod BitsSet
pub mod ListedAny

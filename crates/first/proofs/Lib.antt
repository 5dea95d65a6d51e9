pub mod OfKind
pub mod Nodes
pub mod Links
pub mod Order
pub mod Heads
pub mod Led
pub mod Unique

pub mod Local
pub mod Demand
pub mod Invariants
pub mod Examples

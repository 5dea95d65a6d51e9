pub mod Leads
pub mod Least
pub mod Places

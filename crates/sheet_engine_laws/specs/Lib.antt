pub mod Blocked
pub mod Chains
pub mod Found
pub mod Local

pub mod Depot
pub mod Plans

pub mod Table
pub mod Demand2
pub mod Runs

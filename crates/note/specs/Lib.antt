pub mod Note
pub mod Tree
pub mod Worked
pub mod Inner

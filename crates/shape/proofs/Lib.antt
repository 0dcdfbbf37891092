pub mod Fronts
pub mod Matrices
pub mod Plans

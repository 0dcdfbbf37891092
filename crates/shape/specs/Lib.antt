pub mod Shapes
pub mod Front

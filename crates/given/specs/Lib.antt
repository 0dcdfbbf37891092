pub mod Given
pub mod Facts
pub mod Inner

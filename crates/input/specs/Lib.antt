pub mod Input
pub mod Inner

pub mod Blocks
pub mod Combining
pub mod Filling
pub mod Effects

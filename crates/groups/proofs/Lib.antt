pub mod Picks
pub mod Totals

pub mod Table
pub mod Xor
pub mod Product
pub mod Rules
pub mod Laws
pub mod Upto
pub mod Scaled
pub mod Worked

pub mod Certificates
pub mod Rows
pub mod Visits
pub mod Plans
pub mod Price
pub mod Answers

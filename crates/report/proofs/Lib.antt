pub mod Reports
pub mod OneText
pub mod Worked

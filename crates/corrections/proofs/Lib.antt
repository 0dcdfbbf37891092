pub mod Laying
pub mod Effects

pub mod Corrects

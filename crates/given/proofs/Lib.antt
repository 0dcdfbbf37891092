pub mod Headers
pub mod RoundTrip
pub mod Places
pub mod Facts
pub mod Put
pub mod Equal

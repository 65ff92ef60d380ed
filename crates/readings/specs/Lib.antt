pub mod Readings
pub mod SincePowerUp

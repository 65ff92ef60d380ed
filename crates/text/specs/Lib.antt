pub mod Ascii
pub mod Decimal
pub mod Items
pub mod Joined
pub mod Put
pub mod Puts

pub mod Blank
pub mod Usables
pub mod Adding
pub mod Bodies
pub mod Parts
pub mod Wholes

pub mod Tables
pub mod Tabling

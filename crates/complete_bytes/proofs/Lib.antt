pub mod Fitting
pub mod Tables

pub mod Laying
pub mod Measuring

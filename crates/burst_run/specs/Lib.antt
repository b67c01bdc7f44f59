pub mod Bursts
pub mod Laying
pub mod Stations
pub mod Visiting

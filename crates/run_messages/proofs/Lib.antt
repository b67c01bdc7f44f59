pub mod Behind
pub mod Played

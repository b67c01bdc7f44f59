pub mod Index
pub mod TreeLists
pub mod Names
pub mod Bases
pub mod Telling
pub mod Steps

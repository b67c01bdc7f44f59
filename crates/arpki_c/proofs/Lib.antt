pub mod Carried
pub mod Firsts
pub mod Kept
pub mod Runs
pub mod Shows

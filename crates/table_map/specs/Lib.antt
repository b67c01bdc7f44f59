pub mod Tables
pub mod Digests
pub mod Maps
pub mod Judging
pub mod Recalling
pub mod Shown

pub mod Certificates
pub mod Policies

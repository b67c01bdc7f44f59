pub mod FirstParties

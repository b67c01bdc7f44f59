pub mod CarriesLemmas
pub mod DealingLemmas
pub mod Interleaves
pub mod Subsequences

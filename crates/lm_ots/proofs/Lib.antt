pub mod ChainLemmas
pub mod DigitLemmas
pub mod EndLemmas
pub mod FourLemmas
pub mod PieceLemmas
pub mod SigningLemmas
pub mod WayLemmas

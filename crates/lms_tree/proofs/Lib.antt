pub mod KeyLemmas
pub mod NodeLemmas
pub mod SignatureLemmas
pub mod SigningLemmas
pub mod VerdictLemmas

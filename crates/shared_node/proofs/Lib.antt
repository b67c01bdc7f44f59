pub mod HistoryLemmas
pub mod Keeping
pub mod StepsKeep
pub mod LawsKeep
pub mod Shorter

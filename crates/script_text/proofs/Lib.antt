pub mod Parts
pub mod NumberLists
pub mod Table
pub mod LinesWritten
pub mod WordsWritten

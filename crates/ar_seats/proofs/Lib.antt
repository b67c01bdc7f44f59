pub mod TotalsLemmas
pub mod NumbersLemmas
pub mod RisingLemmas
pub mod PrefixLemmas

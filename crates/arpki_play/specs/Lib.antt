pub mod Made
pub mod Program
pub mod Words

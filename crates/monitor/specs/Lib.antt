pub mod Items
pub mod Rules
pub mod Reports
pub mod Standing

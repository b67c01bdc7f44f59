pub mod Rooms
pub mod FieldLaws
pub mod FieldsByKind
pub mod Statements
pub mod OneText

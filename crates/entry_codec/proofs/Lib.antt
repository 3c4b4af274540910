pub mod Spans
pub mod FieldLaws
pub mod SpecLaws
pub mod ChangeLaws
pub mod Written
pub mod Lengths
pub mod BodyLaws

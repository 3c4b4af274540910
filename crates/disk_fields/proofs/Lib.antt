pub mod FieldLaws
pub mod Codecs
pub mod Written

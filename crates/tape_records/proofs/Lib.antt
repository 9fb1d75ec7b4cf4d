pub mod DigitLaws
pub mod RecordLaws

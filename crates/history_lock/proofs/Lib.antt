pub mod Counting
pub mod Growing
pub mod RuleKept
pub mod Finishing
pub mod LawsHold

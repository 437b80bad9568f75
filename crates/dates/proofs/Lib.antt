pub mod Limits
pub mod Months
pub mod Calendar
pub mod IfDate

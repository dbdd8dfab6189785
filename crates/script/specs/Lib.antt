pub mod Words
pub mod WordLaws
pub mod Commands
pub mod CommandLaws

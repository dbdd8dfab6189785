pub mod Rows
pub mod RoundTrip
pub mod Named
pub mod Lengths
pub mod Answers
pub mod Alike
pub mod CaseG
pub mod HexLaws

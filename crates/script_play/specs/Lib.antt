pub mod Played

mod Bridge
mod Verdict

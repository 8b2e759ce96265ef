pub mod Records
pub mod Refusal
pub mod Batch
pub mod Recorder

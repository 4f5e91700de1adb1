pub mod Scripts
pub mod Places
pub mod Texts
pub mod Readers
pub mod ScriptLaws

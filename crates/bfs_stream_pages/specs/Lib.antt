pub mod Held
pub mod Moves
pub mod Causes
pub mod Goes
pub mod Steps
pub mod BytesLaws
pub mod MovesLaws
pub mod GoesLaws

pub mod Unsized
pub mod Headed
pub mod Rowing
pub mod Placed
pub mod Clashing
pub mod Placing
pub mod Owning
pub mod Standing

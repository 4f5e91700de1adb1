pub mod Sizes
pub mod Homes
pub mod Closing
pub mod Walking
pub mod Further
pub mod Going
pub mod Recovering
pub mod Loading

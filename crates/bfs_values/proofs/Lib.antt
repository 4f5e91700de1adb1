pub mod Beside
pub mod Chains
pub mod Ending
pub mod Lasting
mod Orders
pub mod Stacked
pub mod Rows
pub mod Chaining
pub mod Opened
pub mod Reaching
pub mod RowLists
pub mod ValuedRows
pub mod Valued
pub mod ValuedPage

pub mod AllRows
mod Begun
mod Headers
pub mod Linked
mod Made
mod Numbers
pub mod Order
pub mod PageLayout
pub mod Parts
mod RowsRead
mod RowsWritten
pub mod Valued

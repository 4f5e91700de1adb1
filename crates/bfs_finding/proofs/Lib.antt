pub mod OneNodes
pub mod OneTrees
pub mod Upright
pub mod Rows
pub mod Pieces
pub mod Nodes
pub mod Streams
pub mod Walking
pub mod Trees
pub mod Passes
mod Worked

pub mod Grammar
pub mod Shapes
pub mod Spelled
pub mod Left
pub mod SpelledLaws
pub mod Forms

pub mod DrawnColumns
pub mod DrawsInOrder
pub mod DrillLines
pub mod KindsInOrder
pub mod LinesInOrder
pub mod ReplyLines
mod Samples
pub mod SchemaText

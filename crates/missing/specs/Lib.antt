-- What is looked for among the missing points.
pub mod Missing

pub mod Chunk
pub mod Exchange
pub mod Stretch
pub mod Chunking
pub mod StubPlan
pub mod Window

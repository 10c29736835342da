pub mod Shelf
pub mod Sink
pub mod Source
pub mod Keeping
pub mod MemoryShelf
pub mod MemorySink
pub mod MemorySource
pub mod StreamSink

pub mod ChunksStored

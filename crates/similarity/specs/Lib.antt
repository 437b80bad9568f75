pub mod Similarity

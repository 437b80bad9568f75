pub mod Lossless

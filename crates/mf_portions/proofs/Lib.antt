pub mod TieLemmas
pub mod WholeLemmas

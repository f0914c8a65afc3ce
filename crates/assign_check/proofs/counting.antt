pub mod Counts
pub mod Even
pub mod Sums
pub mod Among
pub mod Tallied
pub mod Handed
pub mod Placed

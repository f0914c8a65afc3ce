pub mod Arranged
pub mod Pairs
pub mod Parted
pub mod Filled
pub mod Held
pub mod Numbers

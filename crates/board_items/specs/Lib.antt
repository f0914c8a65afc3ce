pub mod Ended
pub mod Learnt
pub mod Progress
pub mod Room
pub mod Settled
pub mod View

pub mod Picked
pub mod Tallies
pub mod Idle
pub mod Turned
pub mod Alike
pub mod Ordered
pub mod Told
pub mod Printed

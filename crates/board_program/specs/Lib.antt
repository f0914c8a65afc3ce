pub mod Places
pub mod Program
pub mod Spots
pub mod Tables

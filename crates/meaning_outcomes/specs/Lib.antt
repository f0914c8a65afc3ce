pub mod Stuck
pub mod Known
pub mod Lists
pub mod Read

pub mod Flows
mod Lines

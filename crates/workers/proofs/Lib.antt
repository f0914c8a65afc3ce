mod Added
mod Crosses
mod Listing
mod Tallied
mod SharedFacts
mod Adding
mod Prefixes

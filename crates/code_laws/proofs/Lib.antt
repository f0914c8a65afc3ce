pub mod Parts
pub mod Blocks
pub mod Codes
pub mod Trees
pub mod Runs
pub mod Counts
pub mod Adding
pub mod Layouts
pub mod Few
pub mod Marks
pub mod Small
pub mod Rows
pub mod Numbering
pub mod Nodes
pub mod Made
pub mod Moves
pub mod Tables
pub mod Placed
pub mod Origins
pub mod Fits
pub mod Whole
pub mod IndexParts
pub mod Accepted
pub mod CodeOf
pub mod Told
pub mod Bodies
pub mod Worked
pub mod Filled
mod Holders
mod Sourced
pub mod Left
mod TestedSources
pub mod Sizes
pub mod Room
pub mod Levels
pub mod Counting
pub mod Named
pub mod Reading
pub mod Handed
pub mod Found
pub mod Ordered
pub mod Walked
pub mod Ascending
pub mod Following
pub mod SourcesFound
pub mod Needs
pub mod Roles
pub mod Shapes
pub mod WholeOpenings
mod Standings
pub mod Scoping
pub mod Coming
mod Stating
pub mod Settling
pub mod Lookup
pub mod MadeWhole
pub mod Arguments
pub mod Led
pub mod Bases
mod Fields
pub mod AcceptedWhole
pub mod Offsets
pub mod Owners
pub mod Kept
pub mod Aims
pub mod Singles
mod WholeCode

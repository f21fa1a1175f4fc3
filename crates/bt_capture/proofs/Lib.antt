pub mod Buffers
pub mod Going
pub mod Walking
pub mod Viewing
pub mod Pairing
pub mod InOrder
pub mod FlowLines
pub mod Titles
pub mod Taking
pub mod Entries
pub mod Parts
pub mod Bounds
pub mod Numbers
pub mod Wants
pub mod Streaming
pub mod Shares
pub mod SoFar
pub mod Reported
pub mod Outcomes
pub mod Shown
pub mod Sending
pub mod Skipping
pub mod Tallying
mod Each
mod Rowing
mod Seeing
mod Parting
mod Arriving
mod Linked
mod Steps
mod Order
mod Silent
mod Turns
mod Timing

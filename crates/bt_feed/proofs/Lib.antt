pub mod Closed
pub mod Windows
pub mod Hands
pub mod Goals
pub mod Filled
pub mod Found
pub mod Coming
pub mod Reading
pub mod FeedLaws
pub mod Places
pub mod Moving
pub mod Stepping
mod Lent
mod Passed
mod Reasons
mod Committed
mod JudgedItems
mod Shares

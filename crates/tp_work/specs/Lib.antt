pub mod Feeds
pub mod RunQueues
pub mod Lives
pub mod Places
pub mod Reports
pub mod Outcomes
pub mod Series

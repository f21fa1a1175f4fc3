pub mod Udp
pub mod Urls
pub mod Questions
pub mod HttpAnswers

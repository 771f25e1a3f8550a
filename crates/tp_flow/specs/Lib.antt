pub mod Description
pub mod State
pub mod Laws
pub mod Countdown
pub mod CountdownLaws

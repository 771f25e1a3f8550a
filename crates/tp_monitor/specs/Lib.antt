pub mod Monitors

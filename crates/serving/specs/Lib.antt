pub mod Causes
pub mod Frames
pub mod Services
pub mod Slots
pub mod Flights
pub mod Listing
pub mod Stands
pub mod Trials

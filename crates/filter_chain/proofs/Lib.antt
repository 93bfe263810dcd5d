pub mod Courses
pub mod Suspensions
pub mod Turning
pub mod Concluding
pub mod Fronts
pub mod Seeing

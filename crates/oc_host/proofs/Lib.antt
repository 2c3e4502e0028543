mod Giving
pub mod ImageLaws
pub mod Moments
pub mod Saying

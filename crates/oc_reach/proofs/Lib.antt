pub mod Finishing
pub mod GraphLaws
pub mod Raising
pub mod Tables
pub mod Turning

pub mod AtZone
pub mod Carries
pub mod IntoThree
pub mod Sign
pub mod Signs

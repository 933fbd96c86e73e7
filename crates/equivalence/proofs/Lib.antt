pub mod Alike
pub mod Places
pub mod Rests
pub mod Stepping
pub mod StepsOn

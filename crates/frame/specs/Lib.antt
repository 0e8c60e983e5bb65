pub mod Frames
pub mod Paced
pub mod States
pub mod Pacing
pub mod Windows
pub mod FramesLemmas

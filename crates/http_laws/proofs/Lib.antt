pub mod Ended
pub mod Unedited
pub mod StatedEnds
pub mod Same
pub mod Streams

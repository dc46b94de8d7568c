pub mod Gallery
pub mod Numbers

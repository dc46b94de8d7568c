pub mod Exclaim

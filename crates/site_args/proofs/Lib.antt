pub mod SiteApp
pub mod GivenValues
pub mod WorkedArgs
pub mod Suiting

mod Ends
mod Entities

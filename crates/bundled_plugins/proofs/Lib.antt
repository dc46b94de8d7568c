mod Walks
mod Tables
mod FirstNumbers

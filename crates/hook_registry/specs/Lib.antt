-- The definitions, in the order in which to read them.

-- the meaning: registrations and groups, the order in which they run, and values under names
pub mod Table
pub mod Order
pub mod Named
-- for the law that the table is one list of registrations
pub mod OneList
-- for private functions: a group's entries, and the groups of one hook
pub mod Entries
pub mod Groups
-- worked cases
pub mod Worked

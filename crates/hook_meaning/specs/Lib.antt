-- The definitions, in the order in which to read them.

-- the meaning: what a request has, what a piece of work goes through, and what passes, invocations, asks and
-- shortcodes mean
pub mod World
pub mod Trace
pub mod Meaning
-- for the laws: what holds throughout, filters as folds, bundles that agree, tables as what changes leave
pub mod Throughout
pub mod Folding
pub mod Agreement
pub mod Tables
-- worked cases
pub mod Worked
pub mod TwoBundles

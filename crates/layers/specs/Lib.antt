-- In reading order: tables of sets, the set of a beat as stripes, steps of a set, the free table in a table.
pub mod Table
pub mod Stripes
pub mod Step
pub mod FreeTable

-- The laws that belong to no one function.
pub mod Ways
pub mod Agree
pub mod Firsts
pub mod Sets
pub mod From

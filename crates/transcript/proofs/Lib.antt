pub mod Grammar
pub mod NumberLemmas
pub mod Options
pub mod Printed

pub mod Literal
pub mod Made
pub mod Found
pub mod Maybe
pub mod Lit

pub mod Decimals
pub mod KeyLaws
mod Idents

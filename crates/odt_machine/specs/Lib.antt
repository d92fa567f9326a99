pub mod Style
pub mod Character
pub mod Key
pub mod Machine
pub mod Answer
pub mod KeyTable
pub mod Laws
pub mod Described

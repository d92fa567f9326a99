pub mod Access
pub mod Console
pub mod Events
pub mod Examples
pub mod Execution
pub mod Instruction
pub mod Machine
pub mod Operand

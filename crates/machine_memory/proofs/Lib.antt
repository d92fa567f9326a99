mod Believed
mod BusFacts
mod BusLeads
mod Deposits
mod Faults
mod Leads
mod OneLine
mod Readings
pub mod Reports
mod Rows
mod Zips

pub mod AddressOrder
mod Inserting
mod Unions
mod Joining
mod Waiting
mod Tables
mod Judging
mod Resetting

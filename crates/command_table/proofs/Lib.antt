mod Placing
mod Choosing
mod Rows
mod Splitting
mod PartCommands

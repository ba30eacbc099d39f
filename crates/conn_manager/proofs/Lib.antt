mod Entries
mod SubscriptionCalls
mod Said
mod Sends
mod Standing
mod Resubscribing
mod Links
mod Walk
mod Runs
mod Once
mod Handed
mod Numbers
mod Last
mod Turns
mod Spent
mod Passed
mod Waits
pub mod Threads

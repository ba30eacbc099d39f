mod Actions
mod Children
mod Framed
mod Written

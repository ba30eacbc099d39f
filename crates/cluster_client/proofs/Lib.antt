mod Agreeing
mod Gathering
mod Keeping
mod Refusing
mod Telling

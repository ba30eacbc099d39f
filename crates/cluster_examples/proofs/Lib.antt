mod ClientWords
mod Computed
mod Redirected
mod Turning

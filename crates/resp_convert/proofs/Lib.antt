mod ByTwos
mod Each
mod Fit
mod Fronts
mod Numbers

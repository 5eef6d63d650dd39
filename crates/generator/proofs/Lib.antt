mod Spelled
mod Fitting

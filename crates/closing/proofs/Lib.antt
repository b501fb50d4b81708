mod Fitting
mod Layering

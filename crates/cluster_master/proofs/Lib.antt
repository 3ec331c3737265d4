-- The files stand alone, but for Calls, which uses Weights.
mod Calls
mod Clears
mod Weights

-- `Puts`: what the parts of a poll put adds up to what the poll puts.
mod Puts

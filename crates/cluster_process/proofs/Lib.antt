-- The files stand alone: read them in any order.
mod Gathering
mod Needs
mod Numbers
mod Sending

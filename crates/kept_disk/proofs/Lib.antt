mod Calls
mod Changed
mod Events

mod Crispness
mod Runs
mod Spread
mod ByteWise
mod Unique

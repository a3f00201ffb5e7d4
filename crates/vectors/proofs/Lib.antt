mod Checksums
mod Colours
mod Digits
mod Fronts
mod Newlines
mod Seeded
mod Unique

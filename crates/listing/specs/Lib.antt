-- What the contracts of listing say: document 01, "The listing".
pub mod Listing

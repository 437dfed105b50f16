pub mod Lists
pub mod Pieces
pub mod Settings
pub mod KnownNames
pub mod KnownPlaces

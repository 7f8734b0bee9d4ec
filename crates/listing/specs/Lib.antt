pub mod Decimal
pub mod Listing
pub mod Page
pub mod Words

pub mod FreeParts
pub mod Orders

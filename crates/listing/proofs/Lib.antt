pub mod PutLaws
pub mod DecimalLaws
pub mod LineLaws
pub mod GatherLaws
pub mod RoomLaws
pub mod ListingLaws
pub mod Examples

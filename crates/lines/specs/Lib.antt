pub mod Pacing
pub mod PacedViews
pub mod Rings
pub mod RingViews
pub mod RingParts
pub mod Straights
pub mod StraightViews
pub mod Counting

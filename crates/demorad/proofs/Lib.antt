pub mod RuleLaws
pub mod WordLaws
pub mod HeaderLaws
pub mod ReadingLaws
pub mod WritingLaws
pub mod RoundTrips
pub mod RefusedFirst

-- The laws of the reader, from lines to a log as a whole.
pub mod LineLaws
pub mod CountLaws
pub mod StepLaws
pub mod DueLaws
pub mod PlaceLaws
pub mod FieldsHeld
pub mod RecordsHeld
pub mod FirstLaws
pub mod RecordLaws
pub mod ParseLaws
pub mod LineHeld
pub mod ReadLaws
pub mod WholeLaws
pub mod HeadLaws
pub mod NotedLaws

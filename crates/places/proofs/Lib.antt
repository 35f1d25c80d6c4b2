-- The laws of places: lines, keywords, what is declared, and views.
pub mod LineStarts
pub mod LinesHeld
pub mod HeaderHeld
pub mod ToldBounds
pub mod ViewLaws

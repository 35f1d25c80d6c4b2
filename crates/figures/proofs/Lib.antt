-- Laws, from those of numbers to those that callers go by.
pub mod NumberLaws
pub mod ExactLaws
pub mod TimeLaws
pub mod Turns
pub mod CalendarLaws
pub mod DateLaws
pub mod Picked
pub mod BoundLaws
pub mod LimitLaws

-- Laws, from those of a field at a place to those that callers go by.
pub mod FieldLaws
pub mod PartLaws
pub mod RunLaws
pub mod ShapeLaws
pub mod Picked

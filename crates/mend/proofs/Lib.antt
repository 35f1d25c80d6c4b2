-- What the mending program may rely on.
pub mod MendedLaws

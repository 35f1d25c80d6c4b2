-- What the C face answers, and what its caller may rely on.
pub mod FaceLaws
pub mod CallerLaws

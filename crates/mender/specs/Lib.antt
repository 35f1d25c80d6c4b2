-- What the mender's functions promise: the lines of a chewed text by their places, what reading the mended lines tells, and the answer.
pub mod Lines
pub mod Checking
pub mod Answer

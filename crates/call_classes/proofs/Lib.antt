-- What the calls lean on: the size of an answer, and the second engine's numbers beside the first's.
pub mod Sizes
pub mod Alike

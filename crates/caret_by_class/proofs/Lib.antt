-- What the call on carets leans on: its refusals in order, and the two engines' motions as one. And the two calls side by side.
pub mod Refusing
pub mod Equal
pub mod Alike

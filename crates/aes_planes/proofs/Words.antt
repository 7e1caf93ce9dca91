-- Words: their constants, and packing at every width.
pub mod ByteLanes
pub mod Constants
pub mod LaneBits
pub mod Moved
pub mod Packing
pub mod PlaneLanes
pub mod Spread
pub mod Swizzles
pub mod Transpose
pub mod Wide

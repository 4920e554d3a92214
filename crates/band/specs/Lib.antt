pub mod Band
pub mod Window
pub mod Walk
pub mod Find

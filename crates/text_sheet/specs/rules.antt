-- What a reader must believe of the sheet that `starlist` prints (section 7). Definitions only.
pub mod Sheet
pub mod Render

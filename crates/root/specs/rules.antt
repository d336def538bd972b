-- What a reader must believe of the root (section 2), in reading order. Definitions only. The paper's statement is `IsRoot` in Nearest: the
-- double nearest to the root, over whole numbers. `root_pattern` in Root is the way there, and `root_is_nearest` says that it leads there.
pub mod Nearest
pub mod Whole
pub mod Root

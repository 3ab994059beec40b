pub mod SortedViews
pub mod Heaps
pub mod Index
pub mod Shelves
pub mod Standing

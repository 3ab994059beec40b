-- Rows of what a watcher keeps, worked out by hand.
mod KeptRows
mod ChangeRows
mod TimeRows

mod PageLemmas
mod Pieces
mod examples

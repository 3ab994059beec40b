mod DifferenceLaws
mod examples
mod Differing

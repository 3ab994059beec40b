mod EndpointLemmas
mod OptionLemmas
mod ReplayCommandLemmas
mod StatusLemmas

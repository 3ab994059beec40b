-- What a walk over the parts of a datagram gives.
pub mod Placed
pub mod Senders
pub mod Cursors
pub mod Walks

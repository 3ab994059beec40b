pub mod Senders
pub mod UdpLinks

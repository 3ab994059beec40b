-- Where a datagram came from.
use Rattle.std.specs.Prelude.{ℕ}
use Rattle.std.specs.Net.Socket.{v6_port}
use Rattle.std.specs.declared.net.socket_addr.SocketAddr.{SocketAddr}
use Rattle.std.specs.declared.net.socket_addr.SocketAddr.TheVariants.{V4, V6}
use Rattle.rtcp_serve.specs.Links.{endpoint_number}

-- A number for where a datagram came from, which no two endpoints share. A socket that is bound to an IPv4 address
-- has no sender of IPv6.
abbrev pub sender_number : SocketAddr → ℕ
sender_number (V4 address) = endpoint_number address
sender_number (V6 address) = v6_port address

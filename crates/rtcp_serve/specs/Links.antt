-- What is asked of a link, and what it answers. Lists of calls are newest first.
use Rattle.std.specs.Prelude.{◌≡◌, ◌≤◌, ◌+◌, ◌*◌, ℕ, List, ◌++◌, length, filter, take, Option, Some, None, Bool, true, false}
use Rattle.std.specs.Net.Addr.{ipv4_bits}
use Rattle.std.specs.Net.Socket.{v4_ip, v4_port}
use Rattle.std.specs.declared.net.socket_addr.SocketAddrV4.{SocketAddrV4}
use Rattle.rtcp_serve.specs.declared.link.Port.{Port}
use Rattle.rtcp_serve.specs.declared.link.Received.{Received}
use Rattle.rtcp_serve.specs.declared.link.Received.TheVariants.{Got, Nothing, Failed}

-- ---- Calls

-- what came while a port was listened to
pub data Heard : Type 0 where
  -- It came from the peer of this number.
  datagram : (peer : ℕ) (octets : List ℕ) → Heard
  silence : Heard
  failure : Heard

pub data Call : Type 0 where
  -- The clock was read: the moment, in microseconds.
  clock_read : (moment : ℕ) → Call
  -- A port was listened to, for so many microseconds at most.
  port_heard : (port : Port) (wait : ℕ) (heard : Heard) → Call
  -- A compound was handed over to be sent, which failed or not.
  compound_sent : (octets : List ℕ) (failed : Bool) → Call

-- what a call of `recv` brought, with the octets of its buffer
abbrev pub heard_in : (buffer : List ℕ) → Received → Heard
heard_in buffer (Got count peer) = datagram peer (take count buffer)
heard_in buffer Nothing = silence
heard_in buffer Failed = failure

abbrev pub is_failure : Heard → Bool
is_failure failure = true
is_failure what = false

abbrev pub is_datagram : Call → Bool
is_datagram (port_heard port wait (datagram peer octets)) = true
is_datagram call = false

abbrev pub is_sent : Call → Bool
is_sent (compound_sent octets failed) = true
is_sent call = false

abbrev pub is_failed_receive : Call → Bool
is_failed_receive (port_heard port wait what) = is_failure what
is_failed_receive call = false

abbrev pub is_failed_send : Call → Bool
is_failed_send (compound_sent octets failed) = failed
is_failed_send call = false

-- ---- Links

-- what a clause knows of a link
pub record LinkValue : Type 0 where
  -- the calls so far, of a link that tells them
  pub log : Option (List Call)
  -- how many receives and how many sends failed
  pub failed_receives : ℕ
  pub failed_sends : ℕ

-- A link that tells its log after some calls told it before them, and it grew by these.
abbrev pub GrowsBy : List Call → Option (List Call) → Option (List Call) → Type 0
GrowsBy more before None = Unit {0}
GrowsBy more before (Some after) = (earlier : List Call) × (before ≡ Some earlier) × (after ≡ more ++ earlier)

-- how many calls pass a test
abbrev pub how_many : (Call → Bool) → List Call → ℕ
how_many test calls = length (filter test calls)

-- Calls were made of a link.
pub record WereCalled (calls : List Call) (before after : LinkValue) : Type 0 where
  pub log : GrowsBy calls before.log after.log
  pub failed_receives : after.failed_receives ≡ before.failed_receives + how_many is_failed_receive calls
  pub failed_sends : after.failed_sends ≡ before.failed_sends + how_many is_failed_send calls

-- ---- Buffers

-- A datagram that came has no more octets than the buffer.
abbrev pub IsWithin : Received → (buffer : List ℕ) → Type 0
IsWithin (Got count peer) buffer = count ≤ length buffer
IsWithin received buffer = Unit {0}

-- ---- Peers

-- the number of an address and a port
abbrev pub endpoint_number : SocketAddrV4 → ℕ
endpoint_number endpoint = ipv4_bits (v4_ip endpoint) * 65536 + v4_port endpoint

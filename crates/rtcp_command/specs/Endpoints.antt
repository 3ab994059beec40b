-- An IPv4 address and a port, as options of a command line write them.
use Rattle.std.specs.Prelude.{◌≡◌, ℕ, ◌^◌, ◌<◌, nat_lt, ◌==◌, ◌&&◌, Bool, List, [], ◌∷◌, ◌++◌, length, slice_index, if◌then◌else◌, Option, None, option_map, codes, decimal}
use Rattle.std.specs.List.{after_first}
use Rattle.std.specs.Net.Addr.{ipv4_octets}
use Rattle.std.specs.Net.Reader.{read_socket_v4, whole_value}
use Rattle.std.specs.Net.Socket.{v4_ip, v4_port}
use Rattle.std.specs.Net.Text.{dotted_text}
use Rattle.std.specs.declared.net.socket_addr.SocketAddrV4.{SocketAddrV4}

pub record Endpoint : Type 0 where
  pub octets : List ℕ
  pub port : ℕ

abbrev pub endpoint_of : SocketAddrV4 → Endpoint
endpoint_of address = record { octets = ipv4_octets (v4_ip address); port = v4_port address }

-- more than one digit, and the first of them a zero (48)
abbrev pub leads_with_zero : (digits : List ℕ) → Bool
leads_with_zero digits = nat_lt 1 (length digits) && slice_index digits 0 == 48

-- What follows the first colon (58) is the port.
abbrev pub has_leading_zero : (text : List ℕ) → Bool
has_leading_zero text = leads_with_zero (after_first (λ c. c == 58) text)

-- `a.b.c.d:port`, as std's parser reads it. The parser lets a port have leading zeros; here it has none.
abbrev pub endpoint_in : (text : List ℕ) → Option Endpoint
endpoint_in text =
    if has_leading_zero text then None
    else option_map (λ read. record { octets = read.0; port = read.1 }) (whole_value (read_socket_v4 text))

-- ---- What the texts of endpoints are

-- the text is what `Display` writes of the endpoint
pub record IsEndpointText (text : List ℕ) (endpoint : Endpoint) : Type 0 where
  pub a : ℕ
  pub b : ℕ
  pub c : ℕ
  pub d : ℕ
  pub octets : endpoint.octets ≡ a ∷ b ∷ c ∷ d ∷ []
  pub octets_fit : (a < 2 ^ 8) × (b < 2 ^ 8) × (c < 2 ^ 8) × (d < 2 ^ 8)
  pub port_fits : endpoint.port < 2 ^ 16
  pub spelled : text ≡ dotted_text a b c d ++ codes ":" ++ decimal endpoint.port

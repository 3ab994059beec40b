-- What a clause reads of a link over UDP.
use Rattle.std.specs.Prelude.{None}
use Rattle.rtcp_serve.specs.Links.{LinkValue}
use Rattle.rtcp_udp.specs.declared.udp_link.UdpLink.{UdpLink}

-- It does not tell its calls.
abbrev pub value_of : {R : Type 0} → UdpLink R → LinkValue
value_of link = record {
  log = None;
  failed_receives = link.failed_receives;
  failed_sends = link.failed_sends;
}

-- What a call by index tells, from what is given there.
use Rattle.std.proofs.Common.{◌≡◌, List, Option, Some, None, Result, Ok, Err, ℕ, flat_map, refl, sym, subst, ◌∙◌}
use Rattle.rtcp_wire.specs.declared.fault.WireFault.{WireFault}
use Rattle.rtcp_wire.specs.Values.{RtcpPacket}
use Rattle.rtcp_parts.specs.Walks.{GivesAt}
use Rattle.jalwedd_host.specs.Parts.{Locates}
use Rattle.jalwedd_host.proofs.Walking.{given_same}

module _ {Part Given Place : Type 0} {parts_of : RtcpPacket → List Part} {Gave : Part → Given → Type 0}
    {Shows : Place → Part → Type 0} {datagram : List ℕ} {index : ℕ} {result : Result (Option Given) WireFault}
    (gives : GivesAt parts_of Gave datagram index result) where
  -- A part that was given is told.
  pub located : (given : Given) (before place : Place) → result ≡ Ok (Some given)
      → ((part : Part) → Gave part given → Shows place part)
      → Locates (λ packets. flat_map parts_of packets) Shows datagram index 0 before place
  located given before place is shows = record {
    found = λ packets part accepted at.
        let one = gives.found packets part accepted at in
        (refl, shows part (subst (Gave part) (given_same one.0 given (sym one.1 ∙ is)) one.2));
    none = λ packets accepted at. absurd (cc (gives.none packets accepted at, is));
    refused = λ fault first. absurd (cc (gives.refused fault first, is));
  }

  -- Where none was given, none is told.
  pub missing : (place : Place) → result ≡ Ok None
      → Locates (λ packets. flat_map parts_of packets) Shows datagram index 8 place place
  missing place is = record {
    found = λ packets part accepted at. absurd (cc ((gives.found packets part accepted at).1, is));
    none = λ packets accepted at. (refl, refl);
    refused = λ fault first. absurd (cc (gives.refused fault first, is));
  }

  -- A datagram was refused.
  pub no_compound : (fault : WireFault) (place : Place) → result ≡ Err fault
      → Locates (λ packets. flat_map parts_of packets) Shows datagram index 5 place place
  no_compound fault place is = record {
    found = λ packets part accepted at. absurd (cc ((gives.found packets part accepted at).1, is));
    none = λ packets accepted at. absurd (cc (gives.none packets accepted at, is));
    refused = λ first at_first. (refl, refl);
  }

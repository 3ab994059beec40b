-- What a call of a walk tells, from what it gives.
use Rattle.std.proofs.Common.{◌≡◌, List, Option, Some, None, Result, Ok, Err, ℕ, refl, sym, subst}
use Rattle.rtcp_wire.specs.declared.fault.WireFault.{WireFault}
use Rattle.rtcp_wire.specs.Values.{RtcpPacket}
use Rattle.rtcp_parts.specs.declared.cursor.Cursor.{Cursor}
use Rattle.rtcp_parts.specs.Walks.{Gives}
use Rattle.jalwedd_host.specs.Parts.{Locates}
use Rattle.jalwedd_host.specs.Walks.{Carries, Continues, ShowsGiven}

pub given_same : {Given : Type 0} (a b : Given)
    → ◌≡◌ {A = Result (Option Given) WireFault} (Ok (Some a)) (Ok (Some b)) → a ≡ b
given_same a b is = cc is

module _ {Part Given Place : Type 0} {parts_of : RtcpPacket → List Part}
    {IsLeft : List ℕ → Cursor → List Part → Type 0} {Gave : Part → Given → Type 0} {Shows : Place → Part → Type 0}
    {datagram : List ℕ} {was now : Cursor} {result : Result (Option Given) WireFault} where
  -- A part that was given is told.
  pub told : (given : Given) (before place : Place) → ((part : Part) → Gave part given → Shows place part)
      → result ≡ Ok (Some given) → Gives parts_of IsLeft Gave datagram was now result
      → Continues parts_of IsLeft Shows datagram was now 0 before place
  told given before place shows result_is gave =
      let h = subst (Gives parts_of IsLeft Gave datagram was now) result_is gave in record {
        found = λ packets index part accepted passed is.
            let found = h.found packets index part accepted passed is in
            (refl, shows part (subst (Gave part) (sym (given_same given found.0 found.1)) found.2), found.3);
        none = λ packets index accepted passed is. absurd (cc (h.none packets index accepted passed is).0);
        refused = λ fault first begins. absurd (cc (h.refused fault first begins).0);
        later = λ begun is. absurd (cc is);
        untold = λ none. absurd (none refl);
        further = λ taken. h.further;
      }

  -- Where none was given, none is told.
  pub untold : (place : Place) → result ≡ Ok None → Gives parts_of IsLeft Gave datagram was now result
      → Continues parts_of IsLeft Shows datagram was now 8 place place
  untold place result_is gave =
      let h = subst (Gives parts_of IsLeft Gave datagram was now) result_is gave in record {
        found = λ packets index part accepted passed is.
            absurd (cc (h.found packets index part accepted passed is).1);
        none = λ packets index accepted passed is. (refl, (h.none packets index accepted passed is).1);
        refused = λ fault first begins. absurd (cc (h.refused fault first begins).0);
        later = λ begun is. absurd (cc is);
        untold = λ none. refl;
        further = λ taken. absurd (cc taken);
      }

  -- A datagram was refused.
  pub refused : (fault : WireFault) (place : Place) → result ≡ Err fault
      → Gives parts_of IsLeft Gave datagram was now result
      → Continues parts_of IsLeft Shows datagram was now 5 place place
  refused fault place result_is gave =
      let h = subst (Gives parts_of IsLeft Gave datagram was now) result_is gave in record {
        found = λ packets index part accepted passed is.
            absurd (cc (h.found packets index part accepted passed is).1);
        none = λ packets index accepted passed is. absurd (cc (h.none packets index accepted passed is).0);
        refused = λ first is begins. (refl, (h.refused first is begins).1);
        later = λ begun is. absurd (cc (h.later begun));
        untold = λ none. refl;
        further = λ taken. absurd (cc taken);
      }

-- What is told of what was given shows the part.
pub shown_next : {Part Given Place : Type 0} {parts_of : RtcpPacket → List Part}
    {IsLeft : List ℕ → Cursor → List Part → Type 0} (Gave : List ℕ → Part → Given → Type 0)
    (Shows : List ℕ → Place → Part → Type 0) (datagram : List ℕ) {was now : Cursor} {result : ℕ} {before place : Place}
    → Continues parts_of IsLeft (ShowsGiven (Gave datagram) (Carries Gave Shows)) datagram was now result before place
    → Continues parts_of IsLeft (Shows datagram) datagram was now result before place
shown_next Gave Shows datagram h = record {
  found = λ packets index part accepted passed is.
      let found = h.found packets index part accepted passed is in
      (found.0, found.1.2 datagram part found.1.1, found.2);
  none = h.none;
  refused = h.refused;
  later = h.later;
  untold = h.untold;
  further = h.further;
}

pub shown_at : {Part Given Place : Type 0} {parts : List RtcpPacket → List Part}
    (Gave : List ℕ → Part → Given → Type 0) (Shows : List ℕ → Place → Part → Type 0) (datagram : List ℕ)
    {index result : ℕ} {was place : Place}
    → Locates parts (ShowsGiven (Gave datagram) (Carries Gave Shows)) datagram index result was place
    → Locates parts (Shows datagram) datagram index result was place
shown_at Gave Shows datagram h = record {
  found = λ packets part accepted at.
      let found = h.found packets part accepted at in
      (found.0, found.1.2 datagram part found.1.1);
  none = h.none;
  refused = h.refused;
}

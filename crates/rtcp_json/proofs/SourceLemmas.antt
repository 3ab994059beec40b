-- The values of who is there are fit for a line where their numbers are in the ranges of Rust's types.
use Rattle.std.proofs.Common.{ℕ, ℤ, pos, negsuc, ◌^◌, ◌<◌, ◌≤◌, ◌≤ℤ◌, Option, Some, None, IfSome, refl, arith}
use Rattle.std.proofs.lemmas.Int.{ints}
use lib.Signed.{mag}
use Rattle.json.specs.Tree.{members_depth}
use Rattle.rtcp_source.specs.Receptions.{ReceptionValue}
use Rattle.rtcp_members.specs.Listings.{StateValue}
use Rattle.rtcp_json.specs.JsonValues.{fields_of}
use Rattle.rtcp_json.specs.SourceValues.{Listing, dated_json, reception_fields, source_json}
use Rattle.rtcp_json.specs.Validity.{IsListingInRange, IsReceptionInRange, IsSourceInRange}
use Rattle.rtcp_json.proofs.AnswerLemmas.{next_fit}
use Rattle.rtcp_json.proofs.FitLemmas.{AreFieldsFit, IsFitTo, arrays, decimal_fit, signed_fit}
use Rattle.rtcp_json.proofs.TextLemmas.{hex_utf8}

lost_small : (z : ℤ) → negsuc 2147483647 ≤ℤ z → z ≤ℤ pos 2147483647 → mag z < 2 ^ 63
lost_small (pos n) least greatest = omega (arith, ints)
lost_small (negsuc n) least greatest = omega (arith, ints)

reception_shallow : (reception : Option ReceptionValue) → members_depth (fields_of (reception_fields reception)) ≤ 0
reception_shallow None = omega arith
reception_shallow (Some reception) = omega arith

reception_fit : (reception : Option ReceptionValue) → IfSome reception IsReceptionInRange →
    AreFieldsFit (fields_of (reception_fields reception))
reception_fit None small = (refl, tt, (refl, tt, (refl, tt, (refl, tt, tt))))
reception_fit (Some reception) small =
    let jitter = small.jitter in
    let rate = small.rate in (
      refl,
      decimal_fit reception.received small.received,
      (
        refl,
        signed_fit reception.lost (lost_small reception.lost small.least small.greatest),
        (
          refl,
          decimal_fit reception.jitter (omega arith),
          (refl, decimal_fit reception.rate (omega arith), tt),
        ),
      ),
    )

source_fit : (state : StateValue) → IsSourceInRange state → IsFitTo 1 (source_json state)
source_fit state small =
    let left = next_fit state.left small.left in
    let shallow = left.shallow in
    let shallow_reception = reception_shallow state.reception in
    record {
      shallow = omega arith;
      fit = (
        refl,
        hex_utf8 _,
        (refl, tt, (refl, tt, (refl, left.fit, reception_fit state.reception small.reception))),
      );
    }

pub dated_fit : (moment : ℕ) (listing : Listing) → moment < 2 ^ 64 → IsListingInRange listing →
    IsFitTo 3 (dated_json moment listing)
dated_fit moment listing small ranges =
    let inner = arrays source_json 1 IsSourceInRange source_fit listing.sources ranges.sources in
    let shallow = inner.shallow in
    let members = ranges.members in
    let senders = ranges.senders in
    record {
      shallow = omega arith;
      fit = (
        refl,
        decimal_fit moment small,
        (
          refl,
          decimal_fit listing.members (omega arith),
          (refl, decimal_fit listing.senders (omega arith), (refl, inner.fit, tt)),
        ),
      );
    }

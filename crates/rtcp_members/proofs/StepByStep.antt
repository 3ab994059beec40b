-- What a stay says of its source after one step more, by that step: for definitions that say it of the whole stay.
use Rattle.std.proofs.Common.{◌≡◌, ℕ, ◌+◌, [], Bool, true, false, if◌then◌else◌, ◌&&◌, ◌||◌, ◌==◌, List, ◌∷◌, Some, None, is_some, slice_get, refl, ap, ◌∙◌}
use Rattle.std.specs.List.{list_any}
use Rattle.std.specs.Option.{option_or}
use Rattle.std.proofs.lemmas.Bool.{cond_both}
use Rattle.rtcp_wire.specs.declared.fact.Fact.{Fact}
use Rattle.rtcp_wire.specs.declared.fact.Fact.TheVariants.{Told, Named, Media}
use Rattle.rtcp_wire.specs.Facts.{subject, is_gone}
use Rattle.rtcp_clock.specs.Moments.{media_units}
use Rattle.rtcp_source.specs.Packets.{Given, CountedPacket, PacketRun, packet_came, report_came, block_made, follows, greatest_ordinal, is_counted_in, is_near_run, ordinal_near, run_with, run_of}
use Rattle.rtcp_source.specs.Takings.{transit_of}
use Rattle.rtcp_members.specs.Traces.{TraceStep, fact_came, block_made_of}
use Rattle.rtcp_members.specs.Stays.{mark_at, mark_of}
use Rattle.rtcp_members.specs.Entries.{given_of, is_counted_fact, is_counted_by, gives_name, is_valid, sending_of}

-- ---- Marks

pub mark_after : (ssrc : ℕ) (step : TraceStep) (earlier : List TraceStep) →
    mark_of ssrc (step ∷ earlier) ≡ mark_at ssrc step (mark_of ssrc earlier)
mark_after ssrc (fact_came fact moment) earlier = elim (mark_of ssrc earlier) as (λ mark.
    option_or mark (if is_gone fact && subject fact == ssrc then Some moment else None)
    ≡ mark_at ssrc (fact_came fact moment) mark) [ None ↦ refl | Some mark ↦ refl ]
mark_after ssrc step earlier = elim (mark_of ssrc earlier) as (λ mark. mark ≡ mark_at ssrc step mark) [
  | None ↦ refl
  | Some mark ↦ refl
]

-- ---- Valid sources

pub either_way : (a b c : Bool) → (a || (b || c)) ≡ (b || (a || c))
either_way true true c = refl
either_way a b c = refl

-- whether some packet is counted in the last run of what was given
abbrev has_counted : List Given → Bool
has_counted given = is_some (slice_get (run_of given).counted 0)

one_more : (seq transit octets rate : ℕ) (run : PacketRun) →
    is_some (slice_get (run_with seq transit octets rate run).counted 0)
    ≡ (is_counted_in run seq || is_some (slice_get run.counted 0))
one_more seq transit octets rate run = by (is_near_run run.counted seq) (follows run.stray seq)
  where
    first : CountedPacket
    first = record { ordinal = seq + 65536; transit = transit; octets = octets; rate = rate }

    by : (near following : Bool) → is_some (slice_get (if near
        then record run {
          counted = record first { ordinal = ordinal_near (greatest_ordinal run.counted) seq }
              ∷ run.counted;
        }
        else if following then record { counted = first ∷ []; stray = None; reported = [] }
        else record run { stray = Some seq }).counted 0)
        ≡ (near || following || is_some (slice_get run.counted 0))
    by true following = refl
    by false true = refl
    by false false = refl

module _ (ssrc : ℕ) (earlier : List TraceStep) where
  abbrev given : List Given
  given = given_of ssrc earlier

  abbrev is_named : Bool
  is_named = list_any (gives_name ssrc) earlier

  -- A packet of the source makes it valid where it is counted.
  pub valid_by_packet : (seq timestamp arrival octets rate : ℕ) →
      (is_named || has_counted (packet_came seq timestamp arrival octets rate ∷ given))
      ≡ (is_counted_in (run_of given) seq || is_valid ssrc earlier)
  valid_by_packet seq timestamp arrival octets rate =
      ap (λ b. is_named || b) (one_more seq (transit_of timestamp arrival) octets rate (run_of given))
      ∙ either_way is_named (is_counted_in (run_of given) seq) (has_counted given)

  pub valid_after : (step : TraceStep) → is_valid ssrc (step ∷ earlier)
      ≡ (gives_name ssrc step || is_counted_by ssrc step given || is_valid ssrc earlier)
  valid_after (fact_came (Told other ntp rtp) moment) =
      cond_both (other == ssrc) (report_came ntp rtp moment ∷ given) given
      (λ more. (is_named || has_counted more) ≡ is_valid ssrc earlier) (λ _. refl) (λ _. refl)
  valid_after (fact_came (Named other) moment) = elim (other == ssrc) as (λ own.
      (own || is_named || has_counted given) ≡ (own || false || is_valid ssrc earlier)) [
        | true ↦ refl
        | false ↦ refl
      ]
  valid_after (fact_came (Media other seq timestamp octets rate) moment) =
      let arrival = media_units moment rate in
      elim (other == ssrc) as (λ own. (is_named || has_counted
      (if own then packet_came seq timestamp arrival octets rate ∷ given else given))
      ≡ (own && is_counted_in (run_of given) seq || is_valid ssrc earlier)) [
        | true ↦ valid_by_packet seq timestamp arrival octets rate
        | false ↦ refl
      ]
  valid_after (block_made_of other) =
      cond_both (other == ssrc) (block_made ∷ given) given
      (λ more. (is_named || has_counted more) ≡ is_valid ssrc earlier) (λ _. refl) (λ _. refl)
  valid_after step = refl

-- ---- Those who send

pub sending_after_fact : (ssrc moment : ℕ) (fact : Fact) (earlier : List TraceStep) →
    sending_of ssrc (fact_came fact moment ∷ earlier)
    ≡ (if is_counted_fact ssrc fact (given_of ssrc earlier) then Some moment else sending_of ssrc earlier)
sending_after_fact ssrc moment (Media other seq timestamp octets rate) earlier = refl
sending_after_fact ssrc moment fact earlier = refl

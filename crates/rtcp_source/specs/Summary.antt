-- What is kept of what a source was given: counts, extremes and folds of the lists of its last run.
use Rattle.std.specs.Prelude.{◌≡◌, ◌==◌, ℕ, ◌+◌, ◌%◌, ◌^◌, if◌then◌else◌, List, [], ◌∷◌, length, Option, Some, None}
use Rattle.rtcp_source.specs.Packets.{Given, packet_came, report_came, block_made, CountedPacket, greatest_ordinal, first_ordinal, run_of}
use Rattle.rtcp_source.specs.LastBlocks.{LastBlockValue, last_block}
use Rattle.rtcp_source.specs.ReportBlocks.{expected_of, jitter_of, transit_distance}
use Rattle.rtcp_source.specs.Fields.{LastReportValue, jitter_with, last_report_of}

-- A run in numbers.
pub record RunValue : Type 0 where
  -- the ordinal of its first packet, and the greatest ordinal
  pub first : ℕ
  pub greatest : ℕ
  -- how many packets were counted in it
  pub received : ℕ
  -- how many were expected, and counted, when a block was last made of it
  pub expected_before : ℕ
  pub received_before : ℕ
  -- the transit of its newest packet, and the rate of that packet's clock
  pub transit : ℕ
  pub rate : ℕ
  -- its jitter, in 1/16 of a unit of that clock
  pub jitter : ℕ
  -- how many octets of payload were counted in it, modulo 2^64
  pub octets : ℕ

pub record SourceValue : Type 0 where
  -- how many packets were given
  pub packets : ℕ
  -- the last run, if one was started
  pub run : Option RunValue
  -- the number of the last stray since it started, if there is one
  pub stray : Option ℕ
  pub last_report : Option LastReportValue
  -- what the last block said
  pub last_block : Option LastBlockValue

-- ---- Jitter and octets of a run

-- The same in other words: the jitter is that of RFC 3550 (A.8), of the newest packets that have one rate.
abbrev pub interarrival_jitter : List CountedPacket → ℕ
interarrival_jitter [] = 0
interarrival_jitter (p ∷ []) = 0
interarrival_jitter (p ∷ q ∷ earlier) =
    jitter_with (interarrival_jitter (q ∷ earlier)) (transit_distance p.transit q.transit)

-- the packets since the rate changed last, or all
abbrev pub since_change : List CountedPacket → List CountedPacket
since_change [] = []
since_change (p ∷ []) = p ∷ []
since_change (p ∷ q ∷ earlier) = if p.rate == q.rate then p ∷ since_change (q ∷ earlier) else p ∷ []

-- Each packet that was given has this rate.
abbrev pub HasOneRate : (rate : ℕ) → List Given → Type 0
HasOneRate rate [] = Unit {0}
HasOneRate rate (packet_came seq timestamp arrival octets other ∷ given) = (other ≡ rate) × HasOneRate rate given
HasOneRate rate (report_came ntp rtp moment ∷ given) = HasOneRate rate given
HasOneRate rate (block_made ∷ given) = HasOneRate rate given

-- so many octets more, modulo 2^64
abbrev pub with_octets : (total more : ℕ) → ℕ
with_octets total more = (total + more) % 2 ^ 64

-- The octets of payload of these packets (5.1).
abbrev pub octets_of : List CountedPacket → ℕ
octets_of [] = 0
octets_of (p ∷ earlier) = with_octets (octets_of earlier) p.octets

-- ---- What is kept

abbrev pub numbers_of : (counted before : List CountedPacket) → Option RunValue
numbers_of [] before = None
numbers_of (p ∷ earlier) before =
    Some (record {
      first = first_ordinal (p ∷ earlier);
      greatest = greatest_ordinal (p ∷ earlier);
      received = length (p ∷ earlier);
      expected_before = expected_of before;
      received_before = length before;
      transit = p.transit;
      rate = p.rate;
      jitter = jitter_of (p ∷ earlier);
      octets = octets_of (p ∷ earlier);
    })

abbrev pub packet_count : List Given → ℕ
packet_count [] = 0
packet_count (packet_came seq timestamp arrival octets rate ∷ given) = packet_count given + 1
packet_count (_ ∷ given) = packet_count given

abbrev pub summary_of : List Given → SourceValue
summary_of given =
    let run = run_of given in
    record {
      packets = packet_count given;
      run = numbers_of run.counted run.reported;
      stray = run.stray;
      last_report = last_report_of given;
      last_block = last_block given;
    }

-- A source stands at what it was given: it is the state computed from its whole history.
abbrev pub StandsAt : SourceValue → List Given → Type 0
StandsAt source given = source ≡ summary_of given

-- Where the source stood at what it was given, it stands at this with one thing more.
abbrev pub StandsWith : (old new : SourceValue) → Given → Type 0
StandsWith old new more = (given : List Given) → StandsAt old given → StandsAt new (more ∷ given)

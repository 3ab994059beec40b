-- What the options of `rtcp listen` say, and the first of them that is refused.
use Rattle.std.specs.Prelude.{◌≡◌, ℕ, ◌≤◌, ◌⊎◌, Bool, true, false, List, if◌then◌else◌, Option, Some, None, option_map, string_bytes, Result, Ok, Err, codes}
use Rattle.std.specs.Option.{ok_or}
use Rattle.std.specs.Str.{bytes_eq}
use Rattle.rtcp_engine.specs.answers.Setups.{Setup}
use Rattle.rtcp_engine.specs.state.Views.{setup_of}
use Rattle.clap.specs.declared.parser.matches.Found.{Found}
use Rattle.clap.specs.Matches.{first_value}
use Rattle.rtcp_command.specs.declared.orders.ListenOrder.{ListenOrder}
use Rattle.rtcp_command.specs.declared.orders.Order.{Order}
use Rattle.rtcp_command.specs.declared.orders.Order.TheVariants.{Text, Listen, Version}
use Rattle.rtcp_command.specs.declared.orders.OrderFault.{OrderFault}
use Rattle.rtcp_command.specs.declared.orders.OrderFault.TheVariants.{Clap, Option as BadOption, Memory}
use Rattle.rtcp_command.specs.declared.orders.Watch.{Watch}
use Rattle.rtcp_command.specs.Endpoints.{Endpoint, endpoint_in, endpoint_of}
use Rattle.rtcp_text.specs.Numerals.{decimal_in}
use Rattle.rtcp_guarded_text.specs.declared.limits.GuardLimits.{GuardLimits}
use Rattle.rtcp_command.specs.Guards.{guard_given}
use Rattle.rtcp_command.specs.Numbers.{number_in}
use Rattle.rtcp_command.specs.Options.{is_set, setup_in, text_found}
use Rattle.rtcp_command.specs.Watches.{counts_turns, seconds_given, watch_in}
use Rattle.rtcp_text.specs.Results.{◌>>=◌}

-- what stands for a draw from the system's generator
abbrev pub is_random : List ℕ → Bool
is_random text = bytes_eq text (codes "random")

-- an SSRC, or 0 in place of one that is to be drawn
abbrev pub settled : List ℕ → List ℕ
settled ssrc = if is_random ssrc then codes "00000000" else ssrc

-- what stands for the time of the system's clock
abbrev pub is_now : List ℕ → Bool
is_now text = bytes_eq text (codes "now")

-- an NTP timestamp, or 0 in place of one that is to be read
abbrev pub settled_ntp : List ℕ → List ℕ
settled_ntp ntp = if is_now ntp then codes "0000000000000000" else ntp

-- the seed, and whether one is to be drawn in place of it
abbrev pub seed_in : List ℕ → Option (ℕ × Bool)
seed_in text =
    if is_random text then Some (1, true) else option_map (λ seed. (seed, false)) (decimal_in 64 text)

-- 1 to 1,000,000 turns: 1,000 if none are given
abbrev pub turns_given : Option (List ℕ) → Option ℕ
turns_given None = Some 1000
turns_given (Some text) = number_in 1 1000000 text

-- a session over UDP
pub record Listening : Type 0 where
  pub setup : Setup
  -- whether its SSRC is to be drawn
  pub draws_ssrc : Bool
  -- whether its NTP timestamp of moment 0 is to be read
  pub reads_ntp : Bool
  pub rtp : Endpoint
  pub rtcp : Endpoint
  pub peer : Endpoint
  pub seed : ℕ
  -- whether another one is to be drawn
  pub draws_seed : Bool
  pub turns : ℕ
  -- whether they end it
  pub counts_turns : Bool
  -- after how many seconds it is left
  pub seconds : Option ℕ
  -- the name of the file that it is recorded in
  pub recording : Option (List ℕ)
  -- whether that may be there already
  pub overwrites : Bool
  -- the name of the file that ends it
  pub stop : Option (List ℕ)
  -- whether it is shown while it runs
  pub show : Bool
  -- whether that is in plain words
  pub plain : Bool
  -- whether lines of JSON are written while it runs, and at its end
  pub json : Bool
  -- what an origin may do before it is held back, if a guard stands before the participant
  pub guard : Option GuardLimits
  -- what it is watched for, and how its sources are shown
  pub watch : Watch

-- The session, or the name of the first option that is refused.
abbrev pub listen_in : Found → Result Listening (List ℕ)
listen_in found = do
  setup ← setup_in found (settled (text_found found (codes "ssrc"))) (settled_ntp (text_found found (codes "ntp")))
  rtp ← ok_or (endpoint_in (text_found found (codes "rtp"))) (codes "rtp")
  rtcp ← ok_or (endpoint_in (text_found found (codes "rtcp"))) (codes "rtcp")
  peer ← ok_or (endpoint_in (text_found found (codes "peer"))) (codes "peer")
  seed ← ok_or (seed_in (text_found found (codes "seed"))) (codes "seed")
  turns ← ok_or (turns_given (first_value found (codes "turns"))) (codes "turns")
  seconds ← ok_or (seconds_given (first_value found (codes "seconds"))) (codes "seconds")
  guard ← ok_or (guard_given (first_value found (codes "guard"))) (codes "guard")
  watch ← watch_in found
  Ok (record {
    setup = setup;
    draws_ssrc = is_random (text_found found (codes "ssrc"));
    reads_ntp = is_now (text_found found (codes "ntp"));
    rtp = rtp;
    rtcp = rtcp;
    peer = peer;
    seed = seed.0;
    draws_seed = seed.1;
    turns = turns;
    counts_turns = counts_turns found;
    seconds = seconds;
    recording = first_value found (codes "record");
    overwrites = is_set found (codes "force");
    stop = first_value found (codes "stop");
    show = is_set found (codes "show");
    plain = is_set found (codes "plain");
    json = is_set found (codes "json");
    guard = guard;
    watch = watch;
  })

-- ---- Orders

-- the session of an order, with the file that it is recorded in and the one that ends it
abbrev pub listening_of : ListenOrder → (recording stop : Option (List ℕ)) → Listening
listening_of order recording stop = record {
  setup = setup_of order.config;
  draws_ssrc = order.draws_ssrc;
  reads_ntp = order.reads_ntp;
  rtp = endpoint_of order.rtp;
  rtcp = endpoint_of order.rtcp;
  peer = endpoint_of order.peer;
  seed = order.seed;
  draws_seed = order.draws_seed;
  turns = order.turns;
  counts_turns = order.counts_turns;
  seconds = order.seconds;
  recording = recording;
  overwrites = order.overwrites;
  stop = stop;
  show = order.show;
  plain = order.plain;
  json = order.json;
  guard = order.guard;
  watch = order.watch;
}

-- The options come to this order.
abbrev pub IsListening : Order → Result Listening (List ℕ) → Type 0
IsListening (Listen order) expected =
    expected ≡ Ok (listening_of order (option_map string_bytes order.recording) (option_map string_bytes order.stop))
IsListening (Text order) expected = ⊥
IsListening (Version line) expected = ⊥

-- What the options come to is this order, or this fault. Memory is asked for only where a file is named.
abbrev pub IsListenOrder : Result Order OrderFault → Result Listening (List ℕ) → Type 0
IsListenOrder (Ok order) expected = IsListening order expected
IsListenOrder (Err (BadOption name)) expected = expected ≡ Err name.now
IsListenOrder (Err (Clap text)) expected = ⊥
IsListenOrder (Err Memory) expected =
    (listening : Listening) × (path : List ℕ) × (expected ≡ Ok listening)
    × ((listening.recording ≡ Some path) ⊎ (listening.stop ≡ Some path))

-- A session that is asked for has 1 to 1,000,000 turns.
abbrev pub HasTurns : Order → Type 0
HasTurns (Listen order) = (1 ≤ order.turns) × (order.turns ≤ 1000000)
HasTurns (Text order) = Unit {0}
HasTurns (Version line) = Unit {0}

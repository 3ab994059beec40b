-- A participant stands at the history that begins with its setup and its word, before any act.
use Rattle.std.proofs.Common.{◌≡◌, ℕ, ◌^◌, ◌<◌, ◌≤◌, [], ◌∷◌, length, None, true, false, refl, sym, ap, ◌∙◌, subst, arith}
use Rattle.rtcp_clock.specs.Intervals.{drawn_interval}
use Rattle.rtcp_wire.specs.Writing.{written_all}
use Rattle.rtcp_members.specs.Tables.{TableValue, no_members}
use Rattle.rtcp_members.proofs.LawLemmas as tables
use Rattle.rtcp_report.specs.Reports.{Reporter, packets_with, items_of}
use Rattle.rtcp_report.proofs.LawLemmas.{size_is_that_of_the_octets}
use Rattle.rtcp_timer.specs.declared.load.Load.{Load}
use Rattle.rtcp_timer.specs.Loads.{interval_of, average_of}
use Rattle.rtcp_timer.specs.Schedules.{Timing, transmitted, schedule_at}
use Rattle.rtcp_engine.specs.answers.Setups.{Setup, IsUsable}
use Rattle.rtcp_engine.specs.answers.OwnStreams.{OwnValue, own_of}
use Rattle.rtcp_engine.specs.answers.Outcomes.{first_size_of}
use Rattle.rtcp_engine.specs.state.Taken.{begun}
use Rattle.rtcp_engine.specs.state.States.{state_with, IsSound, StandsAt, newcomer}

abbrev pub first_load : (average sender_bw receiver_bw : ℕ) → Load
first_load average sender_bw receiver_bw = record {
  members = 1;
  senders = 0;
  we_sent = false;
  initial = true;
  avg = average;
  sender_bw = sender_bw;
  receiver_bw = receiver_bw;
}

-- a table and numbers as they are before any act
pub record IsStart (setup : Setup) (word : ℕ) (table : TableValue) (timing : Timing) (average : ℕ) (own : OwnValue) :
    Type 0 where
  pub is_table : table ≡ no_members setup.capacity
  pub is_average : average ≡ average_of (first_size_of setup) []
  pub is_timing : timing ≡ schedule_at
      (transmitted 0 (drawn_interval
      (interval_of (first_load average setup.settings.sender_bw setup.settings.receiver_bw)) word) 1 ∷ [])
  pub is_own : own ≡ own_of []

pub start_is_sound : (setup : Setup) (word : ℕ) (table : TableValue) (timing : Timing) (average : ℕ) (own : OwnValue) →
    IsUsable setup →
    IsStart setup word table timing average own → IsSound (state_with setup table timing average own None None 0 0 0)
start_is_sound setup word table timing average own usable start = record {
  usable = usable;
  capacity = ap (λ (t : TableValue). t.capacity) start.is_table;
  room = subst (λ (t : TableValue). Rattle.std.specs.FinMap.len t.entries ≤ setup.capacity) (sym start.is_table)
      (tables.capacity_is_kept-none setup.capacity);
  few = subst (Rattle.rtcp_members.specs.Tables.HasFew 0) (sym start.is_table)
      (tables.packets_are_few-none setup.capacity);
  pace = tt;
  reports = omega arith;
  calls = omega arith;
  timing = subst (λ (t : Timing). t.last ≤ 0) (sym start.is_timing) (omega arith);
  latest = omega arith;
}

pub start_stands : (setup : Setup) (word : ℕ) (table : TableValue) (timing : Timing) (average : ℕ) (own : OwnValue) →
    IsUsable setup → word < 2 ^ 32 →
    IsStart setup word table timing average own →
    StandsAt (newcomer (state_with setup table timing average own None None 0 0 0)) (begun setup word)
start_stands setup word table timing average own usable word_fits start =
    let for_senders = setup.settings.sender_bw in
    let for_others = setup.settings.receiver_bw in
    record {
      is_history = record { usable = usable; word = word_fits; taken = tt };
      session = record {
        setup = refl;
        changes = refl;
        life = (
          refl,
          record {
            timing = start.is_timing ∙ ap (λ (a : ℕ). schedule_at
                (transmitted 0 (drawn_interval (interval_of (first_load a for_senders for_others)) word) 1 ∷ []))
                start.is_average;
            average = start.is_average;
            pace = refl;
            still = record {
              table = subst (λ (t : TableValue). Rattle.rtcp_members.specs.Tables.StandsAt t []) (sym start.is_table)
                  (tables.tables_follow_traces-none setup.capacity);
              capacity = ap (λ (t : TableValue). t.capacity) start.is_table;
              own = start.is_own;
              cursor = refl;
              reports = refl;
            };
          },
        );
      };
      latest = refl;
      calls = refl;
    }

-- the first compound's size, as its octets
pub first_average : (setup : Setup) (size average : ℕ) →
    ((ssrc : ℕ) → let reporter : Reporter = record { ssrc = ssrc; sent = None; items = items_of setup.cname None } in
    size ≡ length (written_all (packets_with reporter []))) →
    average ≡ average_of size [] → average ≡ average_of (first_size_of setup) []
first_average setup size average exact is =
    let reporter : Reporter = record { ssrc = setup.ssrc; sent = None; items = items_of setup.cname None } in
    is ∙ ap (λ (n : ℕ). average_of n []) (exact setup.ssrc ∙ size_is_that_of_the_octets reporter [])

-- What is known of each BYE after a backoff: its interval is that of its load, and half of it, over 1.21828, passes
-- from the leave on.
use Rattle.std.proofs.Common.{◌≡◌, ℕ, ◌+◌, ◌-◌, ◌*◌, ◌<◌, ◌≤◌, ◌^◌, nat_le, Bool, true, false, List, [], ◌∷◌, length, map, get_or, filter, All, Option, Some, None, is_some, if◌then◌else◌, refl, sym, ap, ◌∙◌, arith, subst}
use Rattle.std.specs.Option.{option_or}
use Rattle.std.proofs.Math.Nat.{mul-le-mul, mul-le-mul_left}
use Rattle.std.proofs.lemmas.Bool.{and_parts, leb-true}
use Rattle.std.proofs.lemmas.Nat.{le-div}
use Rattle.std.proofs.lemmas.List.Elements.{All-nil, All-cons, All-append, All-head, All-tail, All-map, All-filter, filter-append, filter_passes}
use Rattle.std.proofs.lemmas.List.{length-append, length-map}
use Rattle.std.specs.Int.{div_ceil}
use Rattle.std.proofs.lemmas.Grind.{div_ceil_times}
use Rattle.rtcp_timer.specs.Loads.{interval_of, with_headers}
use Rattle.rtcp_timer.proofs.LawLemmas.{interval_has_minimum}
use Rattle.rtcp_engine.specs.declared.changes.IdentifierChange.{IdentifierChange}
use Rattle.rtcp_engine.specs.answers.Setups.{Setup, IsUsable}
use Rattle.rtcp_engine.specs.answers.Acts.{Datagram, rtcp, rtp, Act, arrived, rtp_sent, ticked, left, configured, forgotten}
use Rattle.rtcp_engine.specs.answers.OwnStreams.{has_sent}
use Rattle.rtcp_engine.specs.answers.Outcomes.{Outcome}
use Rattle.rtcp_engine.specs.answers.Reporting.{bye_octets}
use Rattle.rtcp_engine.specs.answers.Leaving.{ByeCompound, Backoff, leaving_average, Life, present, backing_off, finished, is_bye_due, leaving_count, leaving_interval, leaving_timing}
use Rattle.rtcp_engine.specs.answers.Lives.{bye_out, out_by}
use Rattle.rtcp_engine.specs.answers.Changes.{NewIdentifier, Session, bye_of_change, change_by, changed_by}
use Rattle.rtcp_engine.specs.answers.Histories.{History, session_of}
use Rattle.rtcp_engine.specs.state.Taken.{AllTaken, IsHistory}
use Rattle.rtcp_engine.specs.bounds.Sent.{Sent, interval_by, sent_with, sent_by, sent_over, sent_at}
use Rattle.rtcp_engine.specs.bounds.Spacing.{HalfPasses, first_leave, is_last_bye}
use Rattle.rtcp_engine.proofs.LawLemmas.{sent_compounds_keep_apart, setups_keep_the_rest-usable, last_lies_after_what_was_sent-backing_off}
use Rattle.rtcp_session.specs.Windows.{Joined}
use Rattle.rtcp_session.specs.Crowds.{Terms, HasAtMost, carried_in}
use Rattle.rtcp_session.specs.BackoffByes.{BackoffBye, backoff_bye_load, backoff_byes_in, backoff_byes_over, backoff_byes_at, ByeWait, bye_wait_of, all_bye_waits, bye_during, is_bye_wait_in, bye_waits_within, CountsByes, HasByeSizes}
use Rattle.rtcp_session.proofs.Loads.{IsLoadOf, floor}
use Rattle.rtcp_session.proofs.Sharing.{interval_of_others}
use Rattle.rtcp_session.proofs.Compounds.{one_last}
use Rattle.rtcp_session.proofs.Covering.{HasRoom, all_inside}

-- ---- Draws

-- A draw is at least half its interval over 1.21828.
half_draw : (interval word : ℕ) →
    100000 * interval ≤ 2 * 121828 * div_ceil (interval * (2 ^ 31 + word) * 100000) (2 ^ 32 * 121828)
half_draw interval word =
    let up = (div_ceil_times (interval * (2 ^ 31 + word) * 100000) (2 ^ 32 * 121828) (omega arith)).0 in
    omega (arith, up)

-- ---- One act

-- a BYE that a tick brings in a backoff
abbrev bye_at : (moment : ℕ) → Setup → Backoff → Sent
bye_at moment setup backoff = record {
  moment = moment;
  interval = leaving_interval setup backoff;
  out = bye_out (bye_octets setup);
  changes = false;
}

abbrev backoff_bye_at : (moment : ℕ) → Setup → Backoff → BackoffBye
backoff_bye_at moment setup backoff = record { bye = bye_at moment setup backoff; setup = setup; backoff = backoff }

abbrev parted_with : Setup → Backoff → List Sent → List BackoffBye
parted_with setup backoff sent = map (λ bye. record { bye = bye; setup = setup; backoff = backoff })
    (filter is_last_bye sent)

none_of_change : (setup : Setup) (backoff : Backoff) (t : ℕ) (octets : List ℕ) (heard : Bool) →
    parted_with setup backoff (sent_with t 0 true (option_or (if heard then Some (bye_out octets) else None) None)) ≡ []
none_of_change setup backoff t octets true = refl
none_of_change setup backoff t octets false = refl

module _ (Q : BackoffBye → Type 0) where
  none_here : (backoff_byes : List BackoffBye) → backoff_byes ≡ [] → All Q backoff_byes
  none_here backoff_byes is = subst (All Q) (sym is) (All-nil Q)

  by_tick : (setup : Setup) (backoff : Backoff) (moment word : ℕ) (due : Bool) →
      is_bye_due setup moment word backoff ≡ due →
      (is_bye_due setup moment word backoff ≡ true → Q (backoff_bye_at moment setup backoff)) →
      All Q (parted_with setup backoff (sent_with moment (leaving_interval setup backoff) false
      (if due then Some (bye_out (bye_octets setup)) else None)))
  by_tick setup backoff moment word true is h = All-cons Q (backoff_bye_at moment setup backoff) [] (h is) (All-nil Q)
  by_tick setup backoff moment word false is h = All-nil Q

  by_arrival : (setup : Setup) (changes : List IdentifierChange) (outcome : Outcome) (backoff : Backoff)
      (moment peer word : ℕ) (datagram : Datagram) (change : Option NewIdentifier) →
      let session : Session = record { setup = setup; changes = changes; life = backing_off outcome backoff } in
      let act : Act = arrived moment peer word datagram in
      let now = changed_by change session in
      parted_with setup backoff (sent_with moment (if is_some change then 0 else interval_by setup act session.life)
      (is_some change) (option_or (bye_of_change change session) (out_by now.setup act now.life))) ≡ []
  by_arrival setup changes outcome backoff moment peer word (rtcp size reading) None = refl
  by_arrival setup changes outcome backoff moment peer word (rtp reading) None = refl
  by_arrival setup changes outcome backoff moment peer word (rtcp size reading) (Some new) =
      none_of_change setup backoff moment (bye_octets setup) (has_sent outcome.own)
  by_arrival setup changes outcome backoff moment peer word (rtp reading) (Some new) =
      none_of_change setup backoff moment (bye_octets setup) (has_sent outcome.own)

  in_backoff : (setup : Setup) (changes : List IdentifierChange) (outcome : Outcome) (backoff : Backoff) (act : Act) →
      ((moment first_word second_word : ℕ) → act ≡ ticked moment first_word second_word →
      is_bye_due setup moment first_word backoff ≡ true → Q (backoff_bye_at moment setup backoff)) →
      All Q (parted_with setup backoff
      (sent_by (record { setup = setup; changes = changes; life = backing_off outcome backoff }) act))
  in_backoff setup changes outcome backoff (arrived moment peer word datagram) h =
      let session : Session = record { setup = setup; changes = changes; life = backing_off outcome backoff } in
      let act : Act = arrived moment peer word datagram in
      none_here (parted_with setup backoff (sent_by session act))
      (by_arrival setup changes outcome backoff moment peer word datagram (change_by session act))
  in_backoff setup changes outcome backoff (rtp_sent moment timestamp octets) h = All-nil Q
  in_backoff setup changes outcome backoff (ticked moment first_word second_word) h =
      by_tick setup backoff moment first_word (is_bye_due setup moment first_word backoff) refl
      (h moment first_word second_word refl)
  in_backoff setup changes outcome backoff (left moment word) h = All-nil Q
  in_backoff setup changes outcome backoff (configured moment settings) h = All-nil Q
  in_backoff setup changes outcome backoff (forgotten moment ssrc) h = All-nil Q

  in_life : (setup : Setup) (changes : List IdentifierChange) (life : Life) (act : Act) →
      ((outcome : Outcome) (backoff : Backoff) (moment first_word second_word : ℕ) →
      life ≡ backing_off outcome backoff → act ≡ ticked moment first_word second_word →
      is_bye_due setup moment first_word backoff ≡ true → Q (backoff_bye_at moment setup backoff)) →
      All Q (backoff_byes_in setup life (sent_by (record { setup = setup; changes = changes; life = life }) act))
  in_life setup changes (present outcome) act h = All-nil Q
  in_life setup changes (backing_off outcome backoff) act h =
      in_backoff setup changes outcome backoff act
      (λ moment first_word second_word is due. h outcome backoff moment first_word second_word refl is due)
  in_life setup changes (finished outcome) act h = All-nil Q

  -- What holds of each BYE that a tick may bring in a backoff holds of each backoff_bye.
  over_acts : (H : List Act → Type 0) (setup : Setup) (word : ℕ) →
      ((act : Act) (earlier : List Act) → H (act ∷ earlier) → H earlier) →
      ((outcome : Outcome) (backoff : Backoff) (moment first_word second_word : ℕ) (earlier : List Act) →
      H (ticked moment first_word second_word ∷ earlier) →
      (session_of setup word earlier).life ≡ backing_off outcome backoff →
      is_bye_due (session_of setup word earlier).setup moment first_word backoff ≡ true →
      Q (backoff_bye_at moment (session_of setup word earlier).setup backoff)) →
      (acts : List Act) → H acts → All Q (backoff_byes_over setup word acts)
  over_acts H setup word shorter each [] h = All-nil Q
  over_acts H setup word shorter each (act ∷ earlier) h =
      let before = session_of setup word earlier in
      All-append Q (backoff_byes_in before.setup before.life (sent_by before act))
      (backoff_byes_over setup word earlier)
      (in_life before.setup before.changes before.life act
      (λ outcome backoff moment first_word second_word is ticks due.
      each outcome backoff moment first_word second_word earlier
      (subst (λ (act : Act). H (act ∷ earlier)) ticks h) is due))
      (over_acts H setup word shorter each earlier (shorter act earlier h))

-- ---- One backoff_bye

-- what is known of each
pub record IsBackoffBye (backoff_bye : BackoffBye) : Type 0 where
  pub interval : backoff_bye.bye.interval ≡ interval_of (backoff_bye_load backoff_bye)
  pub half : HalfPasses backoff_bye.backoff.since backoff_bye.bye.moment backoff_bye.bye.interval
  pub load : IsLoadOf backoff_bye.setup (backoff_bye_load backoff_bye)

pub backoff_byes_are : (history : History) → IsHistory history →
    All IsBackoffBye (backoff_byes_at history)
backoff_byes_are history is =
    let setup = history.setup in
    let word = history.word in
    over_acts IsBackoffBye (AllTaken setup word) setup word (λ act earlier taken. taken.2)
    (λ outcome backoff moment first_word second_word earlier taken backs_off due.
    let now = (session_of setup word earlier).setup in
    one earlier outcome backoff moment first_word now taken.2 backs_off due
    (setups_keep_the_rest-usable setup word earlier is.usable taken.2))
    history.acts is.taken
  where
    one : (earlier : List Act) (outcome : Outcome) (backoff : Backoff) (moment word : ℕ) (now : Setup) →
        AllTaken history.setup history.word earlier →
        (session_of history.setup history.word earlier).life ≡ backing_off outcome backoff →
        is_bye_due now moment word backoff ≡ true → IsUsable now → IsBackoffBye (backoff_bye_at moment now backoff)
    one earlier outcome backoff moment word now taken backs_off due usable =
        let before : IsHistory (record history { acts = earlier }) =
        record { usable = is.usable; word = is.word; taken = taken } in
        let last = (last_lies_after_what_was_sent-backing_off (record history { acts = earlier }) outcome backoff before
        backs_off).0 in
        let draw = div_ceil (leaving_interval now backoff * (2 ^ 31 + word) * 100000) (2 ^ 32 * 121828) in
        let parts = and_parts (nat_le (leaving_timing backoff).next moment)
        (nat_le ((leaving_timing backoff).last + draw) moment) due in
        let passed = leb-true ((leaving_timing backoff).last + draw) moment parts.1 in
        let half = half_draw (leaving_interval now backoff) word in
        record {
          interval = refl;
          half = omega (arith, last, passed, half);
          load = record {
            for_senders = refl;
            for_others = refl;
            some = omega (arith, usable.for_senders.0);
            some_more = omega (arith, usable.for_others.0);
            most = usable.for_senders.1;
            most_of_others = usable.for_others.1;
            ordered = omega arith;
          };
        }

-- ---- At most one of a participant

as_many_byes : (setup : Setup) (life : Life) (sent : List Sent) →
    length (backoff_byes_in setup life sent) ≤ length (filter is_last_bye sent)
as_many_byes setup (present outcome) sent = omega arith
as_many_byes setup (backing_off outcome backoff) sent =
    let mapped = length-map (filter is_last_bye sent)
    (λ (bye : Sent). let backoff_bye : BackoffBye = record { bye = bye; setup = setup; backoff = backoff } in
    backoff_bye) in
    omega (arith, mapped)
as_many_byes setup (finished outcome) sent = omega arith

no_more_than_byes : (setup : Setup) (word : ℕ) (acts : List Act) →
    length (backoff_byes_over setup word acts) ≤ length (filter is_last_bye (sent_over setup word acts))
no_more_than_byes setup word [] = omega arith
no_more_than_byes setup word (act ∷ earlier) =
    let before = session_of setup word earlier in
    let sent = sent_by before act in
    let one = as_many_byes before.setup before.life sent in
    let rest = no_more_than_byes setup word earlier in
    let backoff_byes = length-append (backoff_byes_in before.setup before.life sent)
    (backoff_byes_over setup word earlier) in
    let byes = ap length (filter-append is_last_bye sent (sent_over setup word earlier))
    ∙ length-append (filter is_last_bye sent) (filter is_last_bye (sent_over setup word earlier)) in
    omega (arith, one, rest, backoff_byes, byes)

pub one_backoff_bye : (history : History) → IsHistory history → length (backoff_byes_at history) ≤ 1
one_backoff_bye history is =
    let fewer = no_more_than_byes history.setup history.word history.acts in
    let one = one_last (first_leave history.acts) (sent_at history)
    (sent_compounds_keep_apart history is).leaves_once in
    omega (arith, fewer, one)

-- its interval, and how much of it passes
pub backoff_byes_wait : (history : History) → IsHistory history →
    All (λ backoff_bye. (backoff_bye.bye.interval ≡ interval_of (backoff_bye_load backoff_bye))
    × HalfPasses backoff_bye.backoff.since backoff_bye.bye.moment backoff_bye.bye.interval) (backoff_byes_at history)
backoff_byes_wait history is =
    let backoff_byes = backoff_byes_are history is in
    λ k d inside. ((backoff_byes k d inside).interval, (backoff_byes k d inside).half)

-- ---- All leaves

record IsLeave (leave : ByeWait) : Type 0 where
  order : leave.since < leave.until
  half : 100000 * interval_of (backoff_bye_load leave.backoff_bye) ≤ 2 * 121828 * (leave.until - leave.since)
  for_others : (backoff_bye_load leave.backoff_bye).receiver_bw ≡ leave.backoff_bye.setup.settings.receiver_bw
  some : 1 ≤ (backoff_bye_load leave.backoff_bye).sender_bw
  some_more : 1 ≤ (backoff_bye_load leave.backoff_bye).receiver_bw

one_leave : (start : ℕ) (backoff_bye : BackoffBye) → IsBackoffBye backoff_bye → IsLeave (bye_wait_of start backoff_bye)
one_leave start backoff_bye is =
    let half : 100000 * interval_of (backoff_bye_load backoff_bye)
    ≤ 2 * 121828 * (backoff_bye.bye.moment - backoff_bye.backoff.since) =
    subst (λ (n : ℕ). 100000 * n ≤ 2 * 121828 * (backoff_bye.bye.moment - backoff_bye.backoff.since)) is.interval
    is.half in
    let least : 2500000 ≤ interval_of (backoff_bye_load backoff_bye) =
    interval_has_minimum (backoff_bye_load backoff_bye) in
    record {
      order = omega (arith, half, least);
      half = omega (arith, half);
      for_others = is.load.for_others;
      some = is.load.some;
      some_more = is.load.some_more;
    }

abbrev Stands : Joined → Type 0
Stands joined = IsHistory joined.history

leaves_are : (all : List Joined) → All Stands all → All IsLeave (all_bye_waits all)
leaves_are [] h = All-nil IsLeave
leaves_are (joined ∷ others) h =
    let backoff_byes = backoff_byes_are joined.history (All-head Stands joined others h) in
    All-append IsLeave (map (bye_wait_of joined.start) (backoff_byes_at joined.history)) (all_bye_waits others)
    (All-map IsLeave (bye_wait_of joined.start) (backoff_byes_at joined.history)
    (λ k d inside. one_leave joined.start (get_or (backoff_byes_at joined.history) k d) (backoff_byes k d inside)))
    (leaves_are others (All-tail Stands joined others h))

has_room : (from : ℕ) (terms : Terms) (leaves : List ByeWait) (leave : ByeWait) → IsLeave leave →
    HasAtMost terms leave.backoff_bye.setup → CountsByes terms.percent leaves leave → HasByeSizes terms.size leave →
    HasRoom ByeWait (λ (leave : ByeWait). leave.since) (λ (leave : ByeWait). leave.until) from
    (100 * 100000 * 1000000 * terms.size) (terms.percent * (2 * 121828 * terms.receiver_bw)) leaves leave
has_room from terms leaves leave is bandwidth counts sizes = record {
  order = is.order;
  fits = room (length (filter (bye_during leave) leaves)) (leaving_count leave.backoff_bye.backoff)
      (leaving_average leave.backoff_bye.setup leave.backoff_bye.backoff.bye_compounds)
      (interval_of (backoff_bye_load leave.backoff_bye)) (leave.until - leave.since) terms.receiver_bw counts large
      (more (leaving_count leave.backoff_bye.backoff - 0)
      (leaving_average leave.backoff_bye.setup leave.backoff_bye.backoff.bye_compounds)
      (interval_of (backoff_bye_load leave.backoff_bye))
      (backoff_bye_load leave.backoff_bye).receiver_bw terms.receiver_bw
      (omega (arith, is.for_others, bandwidth.for_others))
      (interval_of_others (backoff_bye_load leave.backoff_bye) is.some is.some_more (omega arith) refl).0) is.half;
}
  where
    large : 256 * terms.size ≤ leaving_average leave.backoff_bye.setup leave.backoff_bye.backoff.bye_compounds
    large = floor terms.size (length (bye_octets leave.backoff_bye.setup))
        (map (λ bye_compound. bye_compound.size) leave.backoff_bye.backoff.bye_compounds) sizes.own
        (All-map (λ (size : ℕ). terms.size ≤ with_headers size) (λ (bye_compound : ByeCompound). bye_compound.size)
        leave.backoff_bye.backoff.bye_compounds sizes.sizes)

    more : (n avg interval b c : ℕ) → b ≤ c → 1000000 * n * avg ≤ interval * (256 * b) →
        1000000 * n * avg ≤ interval * (256 * c)
    more n avg interval b c less h =
        let up : interval * b ≤ interval * c = mul-le-mul_left interval less in
        omega (arith, up, h)

    room : (inside n avg interval span b : ℕ) → 100 * inside ≤ terms.percent * n → 256 * terms.size ≤ avg →
        1000000 * (n - 0) * avg ≤ interval * (256 * b) → 100000 * interval ≤ 2 * 121828 * span →
        100 * 100000 * 1000000 * terms.size * inside ≤ terms.percent * (2 * 121828 * b) * span
    room inside n avg interval span b counted large keeps half =
        let same : n - 0 ≡ n = omega arith in
        let shares : 1000000 * n * avg ≤ interval * (256 * b) =
        subst (λ (m : ℕ). 1000000 * m * avg ≤ interval * (256 * b)) same keeps in
        let one : 100 * inside * (256 * terms.size) ≤ terms.percent * n * avg = mul-le-mul counted large in
        let two : terms.percent * (1000000 * n * avg) ≤ terms.percent * (interval * (256 * b)) =
        mul-le-mul_left terms.percent shares in
        let three : terms.percent * b * (100000 * interval) ≤ terms.percent * b * (2 * 121828 * span) =
        mul-le-mul_left (terms.percent * b) half in
        omega (arith, one, two, three)

pub few_leave : (terms : Terms) (from width : ℕ) (all : List Joined) → 1 ≤ terms.size → All Stands all →
    All (λ leave. HasAtMost terms leave.backoff_bye.setup) (bye_waits_within from width all) →
    All (CountsByes terms.percent (bye_waits_within from width all)) (bye_waits_within from width all) →
    All (HasByeSizes terms.size) (bye_waits_within from width all) →
    length (bye_waits_within from width all) ≤ carried_in width terms.receiver_bw terms
few_leave terms from width all some stand bandwidth counts sizes =
    let leaves = bye_waits_within from width all in
    let are = All-filter (is_bye_wait_in from width) IsLeave (all_bye_waits all) (leaves_are all stand) in
    let fit = all_inside ByeWait (λ (leave : ByeWait). leave.since) (λ (leave : ByeWait). leave.until) from
    (100 * 100000 * 1000000 * terms.size) (terms.percent * (2 * 121828 * terms.receiver_bw)) leaves
    (λ k d inside.
    has_room from terms leaves (get_or leaves k d) (are k d inside) (bandwidth k d inside) (counts k d inside)
    (sizes k d inside)) width
    (filter_passes (is_bye_wait_in from width) (all_bye_waits all)) in
    le-div (length leaves) (terms.percent * (2 * 121828 * width * terms.receiver_bw))
    (100 * 100000 * 1000000 * terms.size) (omega (arith, some)) (omega (arith, fit))

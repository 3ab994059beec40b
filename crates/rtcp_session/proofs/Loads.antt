-- What is known of each load of a history: whose bandwidths it has, that senders are members, and how small its average
-- is.
use Rattle.std.proofs.Common.{◌≡◌, ℕ, ◌+◌, ◌*◌, ◌≤◌, ◌^◌, Bool, true, false, List, [], ◌∷◌, length, All, Option, Some, None, Ok, Err, nat_le, if◌then◌else◌, refl, sym, ap, arith, subst}
use Rattle.std.proofs.lemmas.Bool.{cond_both}
use Rattle.std.proofs.lemmas.List.{length-append}
use Rattle.std.proofs.lemmas.List.Concat.{flat_map-append}
use Rattle.std.proofs.lemmas.List.Elements.{All-nil, All-cons, All-head, All-tail}
use Rattle.std.proofs.lemmas.List.Sums.{sum_by-cons}
use Rattle.std.proofs.lemmas.Nat.{le-div}
use Rattle.rtcp_wire.specs.Values.{ItemValue}
use Rattle.rtcp_wire.specs.Writing.{written, written_all}
use Rattle.rtcp_members.specs.Traces.{TraceStep}
use Rattle.rtcp_members.specs.Entries.{members_at, senders_at}
use Rattle.rtcp_members.specs.Tables.{table_at}
use Rattle.rtcp_members.specs.News.{blocks_at}
use Rattle.rtcp_members.proofs.LawLemmas.{trace_has_one_table-stands, counts_agree-members, counts_agree-senders, counts_are_ordered-senders}
use Rattle.rtcp_report.specs.Reports.{SentValue, cname_item, receiver_named, bye_packet, packets_with, items_of, first_report_size}
use Rattle.rtcp_report.specs.Sizes.{description_size, item_size}
use Rattle.rtcp_report.proofs.LawLemmas.{size_is_that_of_the_octets}
use Rattle.rtcp_timer.specs.declared.load.Load.{Load}
use Rattle.rtcp_timer.specs.Loads.{with_headers, average_of}
use Rattle.rtcp_engine.specs.answers.Setups.{Setup, IsUsable}
use Rattle.rtcp_engine.specs.answers.Acts.{Act, Datagram, rtcp, rtp, arrived, rtp_sent, ticked, left, configured, forgotten}
use Rattle.rtcp_engine.specs.answers.OwnStreams.{has_sent, we_sent}
use Rattle.rtcp_engine.specs.answers.Outcomes.{Outcome, first_size_of, load_of, member_count, one_if}
use Rattle.rtcp_engine.specs.answers.Ticks.{checked, after_tick, has_come, has_passed, put_off, reported}
use Rattle.rtcp_engine.specs.answers.Leaving.{Life, present, backing_off, finished, few_members, is_bye_due, sent_nothing}
use Rattle.rtcp_engine.specs.answers.Lives.{lived, with_new_ssrc, with_datagram}
use Rattle.rtcp_engine.specs.answers.Changes.{NewIdentifier, Session, change_by, changed_by}
use Rattle.rtcp_engine.specs.answers.Reporting.{bye_octets, report_octets, reporter_at, reported_at, extra_item}
use Rattle.rtcp_engine.specs.answers.Histories.{History, session_of}
use Rattle.rtcp_engine.specs.state.Taken.{AllTaken, IsHistory}
use Rattle.rtcp_engine.proofs.LawLemmas.{setups_keep_the_rest-setup, setups_keep_the_rest-usable}
use Rattle.rtcp_session.specs.Windows.{load_at, decided_at, HasSize}
use Rattle.rtcp_session.proofs.Deciding.{such_over}

-- ---- Roles

-- No more of the others send than are members.
others_ordered : (capacity : ℕ) (trace : List TraceStep) →
    senders_at capacity trace ≤ members_at capacity trace
others_ordered capacity trace =
    let table = table_at capacity trace in
    let stands = trace_has_one_table-stands capacity trace in
    let members = counts_agree-members table trace stands in
    let senders = counts_agree-senders table trace stands in
    let ordered = counts_are_ordered-senders table in
    omega (arith, members, senders, ordered)

one_at_most : (sends : Bool) → one_if sends ≤ 1
one_at_most true = omega arith
one_at_most false = omega arith

pub ordered : (setup : Setup) (outcome : Outcome) → (load_of setup outcome).senders ≤ (load_of setup outcome).members
ordered setup outcome =
    let others = others_ordered setup.capacity outcome.trace in
    let own = one_at_most (we_sent outcome.own) in
    omega (arith, others, own)

-- ---- Setups

-- The load has the bandwidths of a setup, of which there are some, and counts no more senders than members.
pub record IsLoadOf (setup : Setup) (load : Load) : Type 0 where
  pub for_senders : load.sender_bw ≡ setup.settings.sender_bw
  pub for_others : load.receiver_bw ≡ setup.settings.receiver_bw
  pub some : 1 ≤ load.sender_bw
  pub some_more : 1 ≤ load.receiver_bw
  pub most : load.sender_bw ≤ 2 ^ 30
  pub most_of_others : load.receiver_bw ≤ 2 ^ 30
  pub ordered : load.senders ≤ load.members

of_setup : (now : Setup) (outcome : Outcome) → IsUsable now → IsLoadOf now (load_of now outcome)
of_setup now outcome usable = record {
  for_senders = refl;
  for_others = refl;
  some = omega (arith, usable.for_senders.0);
  some_more = omega (arith, usable.for_others.0);
  most = usable.for_senders.1;
  most_of_others = usable.for_others.1;
  ordered = ordered now outcome;
}

-- The load of each report is one of the setup of that moment.
pub loads_of_setups : (history : History) → IsHistory history →
    All (λ decided. IsLoadOf decided.setup (load_at decided)) (decided_at history)
loads_of_setups history is =
    let setup = history.setup in
    such_over (AllTaken setup history.word) (λ (now : Setup) (outcome : Outcome). IsLoadOf now (load_of now outcome))
    setup history.word (λ act earlier taken. taken.2)
    (λ moment earlier outcome taken is_present.
    let now = (session_of setup history.word earlier).setup in
    of_setup now (checked now moment outcome) (setups_keep_the_rest-usable setup history.word earlier is.usable taken))
    history.acts is.taken

-- ---- Averages

abbrev pub IsLarge : (least size : ℕ) → Type 0
IsLarge least size = least ≤ with_headers size

-- An average over sizes is no less than all of them.
pub floor : (least first : ℕ) (sizes : List ℕ) → IsLarge least first → All (IsLarge least) sizes →
    256 * least ≤ average_of first sizes
floor least first [] large h = omega (arith, large)
floor least first (size ∷ sizes) large h =
    let newest : least ≤ with_headers size = All-head (IsLarge least) size sizes h in
    let before = floor least first sizes large (All-tail (IsLarge least) size sizes h) in
    le-div (256 * least) (256 * with_headers size + 15 * average_of first sizes) 16 (omega arith)
    (omega (arith, newest, before))

-- ---- Own compounds

described : (cname : List ℕ) (extra : Option ItemValue) → description_size (items_of cname None) ≤ description_size
    (items_of cname extra)
described cname None = omega arith
described cname (Some item) =
    omega (
      arith,
      sum_by-cons item_size (cname_item cname) [],
      sum_by-cons item_size (cname_item cname) (item ∷ []),
      sum_by-cons item_size item [],
    )

first_is_least : (sent : Option SentValue) → 8 ≤ first_report_size sent
first_is_least None = omega arith
first_is_least (Some sent) = omega arith

-- The least of them is a receiver report without blocks.
report_is_large : (setup : Setup) (t : ℕ) (outcome : Outcome) →
    first_size_of setup ≤ length (report_octets setup t outcome)
report_is_large setup t outcome =
    let reporter = reporter_at setup t outcome in
    let blocks = blocks_at t setup.capacity outcome.trace (reported_at setup t outcome) in
    omega (
      arith,
      size_is_that_of_the_octets reporter blocks,
      first_is_least reporter.sent,
      described setup.cname (extra_item setup.settings.extras (outcome.reports + 1)),
    )

bye_is_large : (setup : Setup) → first_size_of setup ≤ length (bye_octets setup)
bye_is_large setup =
    let report = packets_with (receiver_named setup.ssrc setup.cname) [] in
    omega (
      arith,
      ap length (flat_map-append written report (bye_packet setup.ssrc ∷ [])),
      length-append (written_all report) (written_all (bye_packet setup.ssrc ∷ [])),
      size_is_that_of_the_octets (receiver_named setup.ssrc setup.cname) [],
    )

pub own_is_large : (setup : Setup) → 48 ≤ with_headers (first_size_of setup)
own_is_large setup = omega arith

-- ---- Sizes over a history

abbrev AreLarge : (least : ℕ) → Outcome → Type 0
AreLarge least outcome = All (IsLarge least) outcome.sizes

abbrev AreLargeIn : (least : ℕ) → Life → Type 0
AreLargeIn least (present outcome) = AreLarge least outcome
AreLargeIn least (backing_off outcome backoff) = Unit {0}
AreLargeIn least (finished outcome) = Unit {0}

one_more : (least size : ℕ) (sizes : List ℕ) → IsLarge least size → All (IsLarge least) sizes →
    All (IsLarge least) (size ∷ sizes)
one_more least size sizes large h = All-cons (IsLarge least) size sizes large h

ticked_large : (least : ℕ) (setup : Setup) (t first_word second_word : ℕ) (outcome : Outcome) →
    IsLarge least (first_size_of setup) → AreLarge least outcome
    → AreLarge least (after_tick setup t first_word second_word outcome)
ticked_large least setup t first_word second_word outcome own h =
    let now = checked setup t outcome in
    let report = report_is_large setup t now in
    cond_both (has_come t now) (if has_passed setup t first_word now then reported setup t second_word now else
    put_off setup t first_word now) now (AreLarge least)
    (λ _. cond_both (has_passed setup t first_word now) (reported setup t second_word now)
    (put_off setup t first_word now) (AreLarge least)
    (λ _. one_more least (length (report_octets setup t now)) outcome.sizes (omega (arith, own, report)) h) (λ _. h))
    (λ _. h)

arrived_large : (least : ℕ) (setup : Setup) (moment peer word : ℕ) (datagram : Datagram) (outcome : Outcome) →
    HasSize least (arrived moment peer word datagram) → AreLarge least outcome
    → AreLarge least (with_datagram setup moment datagram outcome)
arrived_large least setup moment peer word (rtcp size (Ok packets)) outcome large h =
    one_more least size outcome.sizes large h
arrived_large least setup moment peer word (rtcp size (Err fault)) outcome large h = h
arrived_large least setup moment peer word (rtp (Ok head)) outcome large h = h
arrived_large least setup moment peer word (rtp (Err fault)) outcome large h = h

lived_large : (least : ℕ) (setup : Setup) (act : Act) (life : Life) → IsLarge least (first_size_of setup) →
    HasSize least act → AreLargeIn least life → AreLargeIn least (lived setup act life)
lived_large least setup (arrived moment peer word datagram) (present outcome) own large h =
    arrived_large least setup moment peer word datagram outcome large h
lived_large least setup (rtp_sent moment timestamp octets) (present outcome) own large h = h
lived_large least setup (ticked moment first_word second_word) (present outcome) own large h =
    ticked_large least setup moment first_word second_word outcome own h
lived_large least setup (left moment word) (present outcome) own large h =
    cond_both (sent_nothing outcome) (finished outcome) _ (AreLargeIn least) (λ _. tt)
    (λ _. cond_both (nat_le (member_count setup outcome) few_members) (finished outcome) _ (AreLargeIn least) (λ _. tt)
    (λ _. tt))
lived_large least setup (configured moment settings) (present outcome) own large h = h
lived_large least setup (forgotten moment ssrc) (present outcome) own large h = h
lived_large least setup (arrived moment peer word (rtcp size reading)) (backing_off outcome backoff) own large h = tt
lived_large least setup (arrived moment peer word (rtp reading)) (backing_off outcome backoff) own large h = tt
lived_large least setup (rtp_sent moment timestamp octets) (backing_off outcome backoff) own large h = tt
lived_large least setup (ticked moment first_word second_word) (backing_off outcome backoff) own large h =
    cond_both (is_bye_due setup moment first_word backoff) (finished outcome) _ (AreLargeIn least) (λ _. tt) (λ _. tt)
lived_large least setup (left moment word) (backing_off outcome backoff) own large h = tt
lived_large least setup (configured moment settings) (backing_off outcome backoff) own large h = tt
lived_large least setup (forgotten moment ssrc) (backing_off outcome backoff) own large h = tt
lived_large least setup act (finished outcome) own large h = tt

renamed_large : (least : ℕ) (setup : Setup) (life : Life) → IsLarge least (first_size_of setup) →
    AreLargeIn least life → AreLargeIn least (with_new_ssrc setup life)
renamed_large least setup (present outcome) own h =
    let bye = bye_is_large setup in
    cond_both (has_sent outcome.own) _ outcome.sizes (All (IsLarge least))
    (λ _. one_more least (length (bye_octets setup)) outcome.sizes (omega (arith, own, bye)) h) (λ _. h)
renamed_large least setup (backing_off outcome backoff) own h = tt
renamed_large least setup (finished outcome) own h = tt

changed_large : (least : ℕ) (session : Session) (change : Option NewIdentifier) →
    IsLarge least (first_size_of session.setup) → AreLargeIn least session.life
    → AreLargeIn least (changed_by change session).life
changed_large least session None own h = h
changed_large least session (Some new) own h = renamed_large least session.setup session.life own h

same_first : (session : Session) (change : Option NewIdentifier) → first_size_of (changed_by change session).setup
    ≡ first_size_of session.setup
same_first session None = refl
same_first session (Some new) = refl

firsts_same : (setup : Setup) (word : ℕ) (acts : List Act) → first_size_of (session_of setup word acts).setup
    ≡ first_size_of setup
firsts_same setup word acts = ap first_size_of (setups_keep_the_rest-setup setup word acts)

large_over : (least : ℕ) (setup : Setup) (word : ℕ) (acts : List Act) → IsLarge least (first_size_of setup) →
    All (HasSize least) acts → AreLargeIn least (session_of setup word acts).life
large_over least setup word [] own h = All-nil (IsLarge least)
large_over least setup word (act ∷ earlier) own h =
    let before = session_of setup word earlier in
    let change = change_by before act in
    let first : IsLarge least (first_size_of before.setup) =
    subst (IsLarge least) (sym (firsts_same setup word earlier)) own in
    let now : IsLarge least (first_size_of (changed_by change before).setup) =
    subst (IsLarge least) (sym (same_first before change)) first in
    lived_large least (changed_by change before).setup act (changed_by change before).life now
    (All-head (HasSize least) act earlier h)
    (changed_large least before change first
    (large_over least setup word earlier own (All-tail (HasSize least) act earlier h)))

-- The average of each load is at least that of a size which no compound is below.
pub averages_of_sizes : (history : History) (least : ℕ) → least ≤ with_headers (first_size_of history.setup) →
    All (HasSize least) history.acts
    → All (λ decided. 256 * least ≤ (load_at decided).avg) (decided_at history)
averages_of_sizes history least own sizes =
    let setup = history.setup in
    such_over (All (HasSize least)) (λ (now : Setup) (outcome : Outcome). 256 * least ≤ (load_of now outcome).avg) setup
    history.word
    (λ act earlier h. All-tail (HasSize least) act earlier h)
    (λ moment earlier outcome h is_present.
    let now = (session_of setup history.word earlier).setup in
    let first : IsLarge least (first_size_of now) = subst (IsLarge least) (sym (firsts_same setup history.word earlier))
    own in
    floor least (first_size_of now) (checked now moment outcome).sizes first
    (subst (AreLargeIn least) is_present (large_over least setup history.word earlier own h)))
    history.acts sizes

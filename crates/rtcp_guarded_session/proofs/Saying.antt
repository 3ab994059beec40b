-- A datagram by which a member departs says BYE, of a source that it names.
use Rattle.std.proofs.Common.{◌≡◌, ℕ, ◌<◌, ◌^◌, ◌==◌, ◌&&◌, ◌||◌, ◌++◌, not, Bool, true, false, cond, List, [], ◌∷◌, length, map, Option, Some, None, is_some, option_map, Ok, Err, refl, ap, ◌∙◌, if◌then◌else◌}
use Rattle.std.specs.List.{find, list_any}
use Rattle.std.proofs.lemmas.List.Folds.{list_any-append}
use Rattle.rtcp_wire.specs.declared.fact.Fact.{Fact}
use Rattle.rtcp_wire.specs.declared.fact.Fact.TheVariants.{Gone}
use Rattle.rtcp_wire.specs.Facts.{subject, is_gone, facts_of, facts_of_packet}
use Rattle.rtcp_wire.specs.Values.{RtcpPacket, sr, rr, sdes, bye, app, other}
use Rattle.rtcp_engine.specs.answers.Acts.{Act, Datagram, arrived, rtcp, rtp}
use Rattle.rtcp_engine.specs.answers.Changes.{NewIdentifier, changed_by, is_about, is_taken, named_by, new_identifier, is_among}
use Rattle.rtcp_engine.specs.answers.Histories.{History, session_at, session_for}
use Rattle.rtcp_engine.specs.answers.Leaving.{Life}
use Rattle.rtcp_engine.specs.answers.Setups.{Setup}
use Rattle.rtcp_engine.specs.state.Taken.{IsHistory, NamesFew}
use Rattle.rtcp_session.specs.Departures.{is_departure, is_departure_after, leavers, leavers_of, may_be_departure, says_bye}
use Rattle.rtcp_guard.specs.Claims.{goodbye_among, is_named}
use Rattle.rtcp_guard.specs.Naming.{goodbye_of_compound, is_goodbye_of_another, names_of_compound}
use Rattle.rtcp_guarded.specs.Guarded.{goodbye_for, goodbye_in, names_for, names_in}

never : false ≡ true → ⊥
never e = absurd cc

-- ---- Facts

-- A packet that says of somebody that it leaves has a fact that does.
packet_is_gone : (packet : RtcpPacket) → (id : ℕ) (ids : List ℕ) → leavers_of packet ≡ id ∷ ids →
    list_any is_gone (facts_of_packet packet) ≡ true
packet_is_gone (sr sender blocks extension) id ids is = absurd cc
packet_is_gone (rr source blocks extension) id ids is = absurd cc
packet_is_gone (sdes chunks) id ids is = absurd cc
packet_is_gone (bye leaving reason) id ids is =
    ap (λ (l : List ℕ). list_any is_gone (map Gone l)) is
packet_is_gone (app subtype source name content) id ids is = absurd cc
packet_is_gone (other kind count body) id ids is = absurd cc

or_right : (a b : Bool) → b ≡ true → (a || b) ≡ true
or_right true b is = refl
or_right false b is = is

somebody_is_gone : (packets : List RtcpPacket) → says_bye packets ≡ true →
    list_any is_gone (facts_of packets) ≡ true
somebody_is_gone [] says = absurd (never says)
somebody_is_gone (packet ∷ packets) says =
    list_any-append is_gone (facts_of_packet packet) (facts_of packets)
    ∙ by (leavers_of packet) refl says (somebody_is_gone packets)
  where
    by : (first : List ℕ) → leavers_of packet ≡ first → not (length (first ++ leavers packets) == 0) ≡ true →
        (says_bye packets ≡ true → list_any is_gone (facts_of packets) ≡ true) →
        (list_any is_gone (facts_of_packet packet) || list_any is_gone (facts_of packets)) ≡ true
    by [] is says rest = or_right (list_any is_gone (facts_of_packet packet)) _ (rest says)
    by (id ∷ ids) is says rest =
        ap (λ (b : Bool). b || list_any is_gone (facts_of packets)) (packet_is_gone packet id ids is)

-- Where no fact is about the own SSRC, the first that says of a source that it left is another's.
of_another : (own : ℕ) (facts : List Fact) → list_any (λ fact. subject fact == own) facts ≡ false →
    list_any is_gone facts ≡ true →
    is_some (option_map subject (find (is_goodbye_of_another own) facts)) ≡ true
of_another own [] none gone = gone
of_another own (fact ∷ rest) none gone =
    by (is_gone fact) (subject fact == own) none gone (of_another own rest)
  where
    by : (goes about : Bool) → (about || list_any (λ fact. subject fact == own) rest) ≡ false →
        (goes || list_any is_gone rest) ≡ true →
        (list_any (λ fact. subject fact == own) rest ≡ false → list_any is_gone rest ≡ true →
        is_some (option_map subject (find (is_goodbye_of_another own) rest)) ≡ true) →
        is_some (option_map subject
        (cond (goes && not about) (Some fact) (find (is_goodbye_of_another own) rest))) ≡ true
    by goes true none gone later = absurd cc
    by true false none gone later = refl
    by false false none gone later = later none gone

-- ---- Datagrams

module _
    (is_named_there : (own ssrc : ℕ) (packets : List RtcpPacket) → goodbye_of_compound own packets ≡ Some ssrc →
    is_named ssrc (names_of_compound own packets) ≡ true)
    (new_is_free : (history : History) (datagram : Datagram) (word : ℕ) → IsHistory history → word < 2 ^ 32 →
    NamesFew datagram → let session = session_at history in
    is_taken session datagram (new_identifier word session datagram) ≡ false)
    (may_depart : (setup : Setup) (act : Act) (life : Life) → is_departure setup act life ≡ true →
    may_be_departure act ≡ true)
  where
    -- whether a datagram says BYE of a source that it names
    abbrev says_goodbye : (own : ℕ) → Datagram → Bool
    says_goodbye own datagram = is_some (goodbye_among (names_in own datagram) (goodbye_in own datagram))

    compound_says : (own size : ℕ) (packets : List RtcpPacket) → is_about own (rtcp size (Ok packets)) ≡ false →
        says_bye packets ≡ true → says_goodbye own (rtcp size (Ok packets)) ≡ true
    compound_says own size packets unnamed says =
        by (goodbye_of_compound own packets) refl
        (of_another own (facts_of packets) unnamed (somebody_is_gone packets says))
      where
        by : (goodbye : Option ℕ) → goodbye_of_compound own packets ≡ goodbye → is_some goodbye ≡ true →
            is_some (goodbye_among (names_of_compound own packets) goodbye) ≡ true
        by None is some = some
        by (Some ssrc) is some =
            ap (λ (b : Bool). is_some (if b then Some ssrc else None)) (is_named_there own ssrc packets is)

    departing_says : (setup : Setup) (life : Life) (own moment peer word : ℕ) (datagram : Datagram) →
        is_about own datagram ≡ false → is_departure setup (arrived moment peer word datagram) life ≡ true →
        says_goodbye own datagram ≡ true
    departing_says setup life own moment peer word (rtcp size (Ok packets)) unnamed departs =
        compound_says own size packets unnamed
        (may_depart setup (arrived moment peer word (rtcp size (Ok packets))) life departs)
    departing_says setup life own moment peer word (rtcp size (Err fault)) unnamed departs =
        absurd (never (may_depart setup (arrived moment peer word (rtcp size (Err fault))) life departs))
    departing_says setup life own moment peer word (rtp reading) unnamed departs =
        absurd (never (may_depart setup (arrived moment peer word (rtp reading)) life departs))

    -- ---- The SSRC under which a datagram is taken, which the datagram does not name

    unnamed_by_facts : (n : ℕ) (facts : List Fact) → is_among (map subject facts) n ≡ false →
        list_any (λ fact. subject fact == n) facts ≡ false
    unnamed_by_facts n [] unnamed = unnamed
    unnamed_by_facts n (fact ∷ rest) unnamed = by (subject fact == n) unnamed (unnamed_by_facts n rest)
      where
        by : (about : Bool) → (about || is_among (map subject rest) n) ≡ false →
            (is_among (map subject rest) n ≡ false → list_any (λ fact. subject fact == n) rest ≡ false) →
            (about || list_any (λ fact. subject fact == n) rest) ≡ false
        by true unnamed later = absurd cc
        by false unnamed later = later unnamed

    first_false : (a b : Bool) → (a || b) ≡ false → a ≡ false
    first_false true b is = is
    first_false false b is = refl

    last_false : (a b c : Bool) → (a || (b || c)) ≡ false → c ≡ false
    last_false true b c is = absurd cc
    last_false false true c is = absurd cc
    last_false false false c is = is

    not_about : (n : ℕ) (datagram : Datagram) → is_among (named_by datagram) n ≡ false → is_about n datagram ≡ false
    not_about n (rtcp size (Ok packets)) unnamed = unnamed_by_facts n (facts_of packets) unnamed
    not_about n (rtcp size (Err fault)) unnamed = refl
    not_about n (rtp (Ok head)) unnamed = first_false (head.ssrc == n) (is_among head.csrcs n) unnamed
    not_about n (rtp (Err fault)) unnamed = refl

    own_unnamed : (history : History) (moment peer word : ℕ) (datagram : Datagram) → IsHistory history →
        word < 2 ^ 32 → NamesFew datagram →
        is_about (session_for (session_at history) (arrived moment peer word datagram)).setup.ssrc datagram ≡ false
    own_unnamed history moment peer word datagram is fits few =
        let session = session_at history in
        let new : NewIdentifier = record { peer = peer; ssrc = new_identifier word session datagram } in
        elim (is_about session.setup.ssrc datagram) as (λ a. is_about session.setup.ssrc datagram ≡ a →
        is_about (changed_by (if a then Some new else None) session).setup.ssrc datagram ≡ false) [
          | true ↦ λ e. not_about new.ssrc datagram (last_false _ _ _ (new_is_free history datagram word is fits few))
          | false ↦ λ e. e
        ] refl

    -- A datagram by which a member departs says BYE, of a source that it names.
    pub goodbye_is_said : (history : History) (moment peer word : ℕ) (datagram : Datagram) → IsHistory history →
        word < 2 ^ 32 → NamesFew datagram → let act = arrived moment peer word datagram in
        is_departure_after history act ≡ true →
        is_some (goodbye_among (names_for history act datagram) (goodbye_for history act datagram)) ≡ true
    goodbye_is_said history moment peer word datagram is fits few departs =
        let act = arrived moment peer word datagram in
        let now = session_for (session_at history) act in
        departing_says now.setup now.life now.setup.ssrc moment peer word datagram
        (own_unnamed history moment peer word datagram is fits few) departs

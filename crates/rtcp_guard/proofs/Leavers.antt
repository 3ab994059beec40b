-- The source of which a BYE in a compound speaks first.
use Rattle.std.proofs.Common.{◌≡◌, ◌==◌, ◌&&◌, ◌||◌, ◌++◌, ℕ, not, Bool, true, false, cond, List, [], ◌∷◌, map, Option, Some, None, option_map, arith, refl, ap, ◌∙◌}
use Rattle.std.specs.List.{find, list_all}
use Rattle.std.proofs.lemmas.Bool.Decides.{nat_tests}
use Rattle.rtcp_wire.specs.declared.fact.Fact.{Fact}
use Rattle.rtcp_wire.specs.declared.fact.Fact.TheVariants.{Heard, Told, Named, Gone, Media}
use Rattle.rtcp_wire.specs.declared.sole.SoleSource.{SoleSource}
use Rattle.rtcp_wire.specs.Facts.{subject, is_gone, facts_of}
use Rattle.rtcp_wire.specs.Sole.{IsSole, is_presence_of, clock_told}
use Rattle.rtcp_wire.specs.Values.{RtcpPacket}
use Rattle.rtcp_guard.specs.Claims.{is_named}
use Rattle.rtcp_guard.specs.Naming.{but, goodbye_of_compound, is_goodbye_of_another, names_of_compound}
use Rattle.rtcp_guard.proofs.Runs.{named_once}

-- the first goodbye among these facts
abbrev pub first_goodbye : (own : ℕ) → List Fact → Option ℕ
first_goodbye own facts = option_map subject (find (is_goodbye_of_another own) facts)

both : (a b : Bool) → a && b ≡ true → (a ≡ true) × (b ≡ true)
both true true e = (refl, refl)
both true false e = absurd cc
both false b e = absurd cc

or_true : (b : Bool) → b || true ≡ true
or_true true = refl
or_true false = refl

-- ---- It is named

among_facts : (own ssrc : ℕ) (facts : List Fact) → first_goodbye own facts ≡ Some ssrc →
    is_named ssrc (but own (map subject facts)) ≡ true
among_facts own ssrc [] is = absurd cc
among_facts own ssrc (fact ∷ rest) is =
    elim (is_goodbye_of_another own fact) as (λ b. is_goodbye_of_another own fact ≡ b →
    option_map subject (cond b (Some fact) (find (is_goodbye_of_another own) rest)) ≡ Some ssrc →
    is_named ssrc (but own (map subject (fact ∷ rest))) ≡ true) [
      | true ↦ λ e is.
          let same : subject fact ≡ ssrc = cc in
          let itself : subject fact == ssrc ≡ true = grind (arith, nat_tests, same) in
          let stays = (both (is_gone fact) (not (subject fact == own)) e).1 in
          ap (λ b. is_named ssrc (cond b (subject fact ∷ but own (map subject rest)) (but own (map subject rest))))
          stays
          ∙ ap (λ b. b || is_named ssrc (but own (map subject rest))) itself
      | false ↦ λ e is.
          let so = among_facts own ssrc rest is in
          elim (not (subject fact == own)) as (λ b. is_named ssrc (cond b (subject fact ∷ but own (map subject rest))
          (but own (map subject rest))) ≡ true) [
            | true ↦ ap (λ b. subject fact == ssrc || b) so ∙ or_true (subject fact == ssrc)
            | false ↦ so
          ]
    ] refl is

pub goodbye_is_named : (own ssrc : ℕ) (packets : List RtcpPacket) → goodbye_of_compound own packets ≡ Some ssrc →
    is_named ssrc (names_of_compound own packets) ≡ true
goodbye_is_named own ssrc packets is =
    named_once ssrc (but own (map subject (facts_of packets))) ∙ among_facts own ssrc (facts_of packets) is

-- ---- Where a compound is about one source, there is none

no_goodbye : (ssrc : ℕ) (fact : Fact) → is_presence_of ssrc fact ≡ true → is_gone fact ≡ false
no_goodbye ssrc (Heard own) is = refl
no_goodbye ssrc (Told own ntp rtp) is = refl
no_goodbye ssrc (Named own) is = refl
no_goodbye ssrc (Gone own) is = absurd cc
no_goodbye ssrc (Media own seq timestamp octets rate) is = refl

none_among : (own ssrc : ℕ) (facts : List Fact) → list_all (is_presence_of ssrc) facts ≡ true →
    first_goodbye own facts ≡ None
none_among own ssrc [] all = refl
none_among own ssrc (fact ∷ rest) all =
    let parts = both (is_presence_of ssrc fact) (list_all (is_presence_of ssrc) rest) all in
    ap (λ b. option_map subject (cond (b && not (subject fact == own)) (Some fact)
    (find (is_goodbye_of_another own) rest))) (no_goodbye ssrc fact parts.0)
    ∙ none_among own ssrc rest parts.1

after_clock : (own ssrc : ℕ) (clock : Option (ℕ × ℕ)) (others : List Fact) → first_goodbye own others ≡ None →
    first_goodbye own (clock_told ssrc clock ++ others) ≡ None
after_clock own ssrc None others none = none
after_clock own ssrc (Some (ntp, rtp)) others none = none

pub sole_leaves_not : (own : ℕ) (source : SoleSource) (packets : List RtcpPacket) →
    IsSole source (facts_of packets) → goodbye_of_compound own packets ≡ None
sole_leaves_not own source packets sole =
    ap (first_goodbye own) sole.parts
    ∙ after_clock own source.ssrc source.timestamps sole.others (none_among own source.ssrc sole.others sole.alone)

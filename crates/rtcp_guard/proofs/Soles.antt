-- The names of a compound that is about one source.
use Rattle.std.proofs.Common.{◌≡◌, ◌==◌, ◌&&◌, ◌++◌, ℕ, not, Bool, true, false, cond, List, [], ◌∷◌, map, Option, Some, None, arith, refl, sym, ap, subst, ◌∙◌}
use Rattle.std.specs.List.{list_all}
use Rattle.std.proofs.lemmas.Bool.{eqb-true}
use Rattle.std.proofs.lemmas.Bool.Decides.{nat_tests}
use Rattle.rtcp_wire.specs.declared.fact.Fact.{Fact}
use Rattle.rtcp_wire.specs.declared.fact.Fact.TheVariants.{Heard, Told, Named, Gone, Media}
use Rattle.rtcp_wire.specs.declared.sole.SoleSource.{SoleSource}
use Rattle.rtcp_wire.specs.Facts.{subject, facts_of}
use Rattle.rtcp_wire.specs.Sole.{IsSole, is_presence_of, clock_told}
use Rattle.rtcp_wire.specs.Values.{RtcpPacket}
use Rattle.rtcp_guard.specs.Naming.{but, names_of_compound}
use Rattle.rtcp_guard.proofs.Runs.{unrepeated, names_after, each_once}

-- each of these facts is of one source
abbrev AreOfOne : (ssrc : ℕ) → List Fact → Type 0
AreOfOne ssrc [] = Unit {0}
AreOfOne ssrc (fact ∷ rest) = (subject fact ≡ ssrc) × AreOfOne ssrc rest

its_subject : (ssrc : ℕ) (fact : Fact) → is_presence_of ssrc fact ≡ true → subject fact ≡ ssrc
its_subject ssrc (Heard own) is = eqb-true own ssrc is
its_subject ssrc (Told own ntp rtp) is = absurd cc
its_subject ssrc (Named own) is = eqb-true own ssrc is
its_subject ssrc (Gone own) is = absurd cc
its_subject ssrc (Media own seq timestamp octets rate) is = absurd cc

both : (a b : Bool) → a && b ≡ true → (a ≡ true) × (b ≡ true)
both true true e = (refl, refl)
both true false e = absurd cc
both false b e = absurd cc

others_of_one : (ssrc : ℕ) (facts : List Fact) → list_all (is_presence_of ssrc) facts ≡ true → AreOfOne ssrc facts
others_of_one ssrc [] all = tt
others_of_one ssrc (fact ∷ rest) all =
    let parts = both (is_presence_of ssrc fact) (list_all (is_presence_of ssrc) rest) all in
    (its_subject ssrc fact parts.0, others_of_one ssrc rest parts.1)

clock_of_one : (ssrc : ℕ) (clock : Option (ℕ × ℕ)) (others : List Fact) → AreOfOne ssrc others →
    AreOfOne ssrc (clock_told ssrc clock ++ others)
clock_of_one ssrc None others all = all
clock_of_one ssrc (Some (ntp, rtp)) others all = (refl, all)

-- After its first name such a compound names none.
none_after : (own ssrc : ℕ) (facts : List Fact) → AreOfOne ssrc facts → names_after own (Some ssrc) facts ≡ []
none_after own ssrc [] all = refl
none_after own ssrc (fact ∷ rest) all =
    let same : ssrc == subject fact ≡ true = let its = all.0 in grind (arith, nat_tests, its) in
    elim (not (subject fact == own)) as (λ b. unrepeated (Some ssrc) (cond b (subject fact ∷ but own (map subject rest))
    (but own (map subject rest))) ≡ []) [
      | true ↦ ap (λ b. cond b (unrepeated (Some ssrc) (but own (map subject rest)))
          (subject fact ∷ unrepeated (Some (subject fact)) (but own (map subject rest)))) same
          ∙ none_after own ssrc rest all.1
      | false ↦ none_after own ssrc rest all.1
    ]

-- Where its source is the participant's own, it names none at all.
none_own : (own : ℕ) (facts : List Fact) → AreOfOne own facts → names_after own None facts ≡ []
none_own own [] all = refl
none_own own (fact ∷ rest) all =
    let its : not (subject fact == own) ≡ false = let is = all.0 in grind (arith, nat_tests, is) in
    ap (λ b. unrepeated None (cond b (subject fact ∷ but own (map subject rest)) (but own (map subject rest)))) its
    ∙ none_own own rest all.1

pub sole_names : (own : ℕ) (source : SoleSource) (packets : List RtcpPacket) → IsSole source (facts_of packets) →
    names_of_compound own packets ≡ but own (source.ssrc ∷ [])
sole_names own source packets sole =
    let rest : List Fact = clock_told source.ssrc source.timestamps ++ sole.others in
    let all : AreOfOne source.ssrc rest = clock_of_one source.ssrc source.timestamps sole.others
    (others_of_one source.ssrc sole.others sole.alone) in
    sym (each_once (but own (map subject (facts_of packets))))
    ∙ ap (names_after own None) sole.parts
    ∙ elim (source.ssrc == own) as (λ b. source.ssrc == own ≡ b →
    unrepeated None (cond (not b) (source.ssrc ∷ but own (map subject rest)) (but own (map subject rest)))
    ≡ cond (not b) (source.ssrc ∷ []) []) [
      | true ↦ λ e. none_own own rest (subst (λ s. AreOfOne s rest) (eqb-true source.ssrc own e) all)
      | false ↦ λ e. ap (λ names. source.ssrc ∷ names) (none_after own source.ssrc rest all)
    ] refl

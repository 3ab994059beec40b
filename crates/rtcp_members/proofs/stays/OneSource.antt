-- Facts of one source at a moment say as much as one or two of them.
use Rattle.std.proofs.Common.{◌≡◌, ℕ, ◌==◌, ◌&&◌, ◌||◌, Bool, true, false, if◌then◌else◌, List, [], ◌∷◌, ◌++◌, Option, Some, None, refl, sym, ap, ◌∙◌}
use Rattle.std.specs.List.{list_all, list_any}
use Rattle.std.proofs.Math.Bool.{or_assoc}
use Rattle.std.proofs.lemmas.Bool.{eqb-true}
use Rattle.rtcp_wire.specs.declared.fact.Fact.{Fact}
use Rattle.rtcp_wire.specs.declared.fact.Fact.TheVariants.{Heard, Told, Named, Gone, Media}
use Rattle.rtcp_wire.specs.declared.sole.SoleSource.{SoleSource}
use Rattle.rtcp_wire.specs.Sole.{is_presence_of, is_name, clock_told, said_of, facts_of_sole, IsSole}
use Rattle.rtcp_members.specs.Roles.{counts_differ, facts_move}
use Rattle.rtcp_members.specs.Tables.{TableValue, after_fact, after_facts, members_in, senders_in}
use Rattle.rtcp_members.proofs.stays.AtOnce.{adds_nothing, differ_not, once_said, once_moved}

-- ---- Parts of facts

after_append : (one other : List Fact) (t : ℕ) (table : TableValue) →
    after_facts (one ++ other) t table ≡ after_facts other t (after_facts one t table)
after_append [] other t table = refl
after_append (fact ∷ one) other t table = after_append one other t (after_fact fact t table)

moves_append : (one other : List Fact) (t : ℕ) (table : TableValue) →
    facts_move (one ++ other) t table ≡ (facts_move one t table || facts_move other t (after_facts one t table))
moves_append [] other t table = refl
moves_append (fact ∷ one) other t table =
    ap (λ (b : Bool). counts_differ table (after_fact fact t table) || b)
    (moves_append one other t (after_fact fact t table))
    ∙ sym (or_assoc (counts_differ table (after_fact fact t table)) (facts_move one t (after_fact fact t table))
    (facts_move other t (after_facts (fact ∷ one) t table)))

left_of : (a b : Bool) → (a && b) ≡ true → a ≡ true
left_of true b both = refl
left_of false b both = absurd cc

right_of : (a b : Bool) → (a && b) ≡ true → b ≡ true
right_of true b both = both
right_of false b both = absurd cc

-- ---- A source that is heard, or named, at a moment

-- that it was named, if it was
abbrev name_if : (ssrc : ℕ) → Bool → List Fact
name_if ssrc named = if named then Named ssrc ∷ [] else []

module _ (ssrc t : ℕ) where
  -- A fact changes nothing at this table.
  abbrev IsSaid : Fact → TableValue → Type 0
  IsSaid fact table = after_fact fact t table ≡ table

  heard_once : (table : TableValue) → IsSaid (Heard ssrc) (after_fact (Heard ssrc) t table)
  heard_once = adds_nothing (Heard ssrc) (Heard ssrc) ssrc t refl refl refl refl (λ e. refl) (λ e. refl)

  heard_by_name : (table : TableValue) → IsSaid (Heard ssrc) (after_fact (Named ssrc) t table)
  heard_by_name = adds_nothing (Named ssrc) (Heard ssrc) ssrc t refl refl refl refl (λ e. refl) (λ e. refl)

  named_once : (table : TableValue) → IsSaid (Named ssrc) (after_fact (Named ssrc) t table)
  named_once = adds_nothing (Named ssrc) (Named ssrc) ssrc t refl refl refl refl (λ e. refl) (λ e. refl)

  heard_by_clock : (ntp rtp : ℕ) (table : TableValue) → IsSaid (Heard ssrc) (after_fact (Told ssrc ntp rtp) t table)
  heard_by_clock ntp rtp = adds_nothing (Told ssrc ntp rtp) (Heard ssrc) ssrc t refl refl refl refl (λ e. refl)
      (λ e. refl)

  -- What is said moves nobody.
  moves_none : (fact : Fact) (table : TableValue) → IsSaid fact table →
      counts_differ table (after_fact fact t table) ≡ false
  moves_none fact table said = ap (counts_differ table) said ∙ differ_not (members_in table) (senders_in table)

  -- Where a source is heard and named, the same again says nothing.
  pub record SaysNothing (facts : List Fact) (table : TableValue) : Type 0 where
    pub content : after_facts facts t table ≡ table
    pub moves : facts_move facts t table ≡ false

  says_on : (fact : Fact) (facts : List Fact) (table : TableValue) → IsSaid fact table → SaysNothing facts table →
      SaysNothing (fact ∷ facts) table
  says_on fact facts table said h = record {
    content = ap (after_facts facts t) said ∙ h.content;
    moves = (λ i. moves_none fact table said i || facts_move facts t (said i)) ∙ h.moves;
  }

  says_nothing : (facts : List Fact) (table : TableValue) → list_all (is_presence_of ssrc) facts ≡ true →
      IsSaid (Heard ssrc) table → IsSaid (Named ssrc) table → SaysNothing facts table
  says_nothing [] table alone heard named = record { content = refl; moves = refl }
  says_nothing (Heard own ∷ facts) table alone heard named =
      says_on (Heard own) facts table
      (ap (λ (n : ℕ). after_fact (Heard n) t table) (eqb-true own ssrc (left_of (own == ssrc) _ alone)) ∙ heard)
      (says_nothing facts table (right_of (own == ssrc) _ alone) heard named)
  says_nothing (Named own ∷ facts) table alone heard named =
      says_on (Named own) facts table
      (ap (λ (n : ℕ). after_fact (Named n) t table) (eqb-true own ssrc (left_of (own == ssrc) _ alone)) ∙ named)
      (says_nothing facts table (right_of (own == ssrc) _ alone) heard named)
  says_nothing (Told own ntp rtp ∷ facts) table alone heard named = absurd cc
  says_nothing (Gone own ∷ facts) table alone heard named = absurd cc
  says_nothing (Media own seq timestamp octets rate ∷ facts) table alone heard named = absurd cc

  -- Facts say as much as others.
  pub record SaysSame (facts others : List Fact) (table : TableValue) : Type 0 where
    pub content : after_facts facts t table ≡ after_facts others t table
    pub moves : facts_move facts t table ≡ facts_move others t table

  -- Where a source is heard, being there says no more than its name, if it is given.
  says_name : (facts : List Fact) (table : TableValue) → list_all (is_presence_of ssrc) facts ≡ true →
      IsSaid (Heard ssrc) table → SaysSame facts (name_if ssrc (list_any is_name facts)) table
  says_name [] table alone heard = record { content = refl; moves = refl }
  says_name (Heard own ∷ facts) table alone heard =
      let own_is = eqb-true own ssrc (left_of (own == ssrc) _ alone) in
      let said = ap (λ (n : ℕ). after_fact (Heard n) t table) own_is ∙ heard in
      let rest = says_name facts table (right_of (own == ssrc) _ alone) heard in
      record {
        content = ap (after_facts facts t) said ∙ rest.content;
        moves = (λ i. moves_none (Heard own) table said i || facts_move facts t (said i)) ∙ rest.moves;
      }
  says_name (Named own ∷ facts) table alone heard =
      let own_is = eqb-true own ssrc (left_of (own == ssrc) _ alone) in
      let next = after_fact (Named ssrc) t table in
      let named : after_fact (Named own) t table ≡ next = ap (λ (n : ℕ). after_fact (Named n) t table) own_is in
      let rest = says_nothing facts next (right_of (own == ssrc) _ alone) (heard_by_name table) (named_once table) in
      record {
        content = ap (after_facts facts t) named ∙ rest.content;
        moves = (λ i. counts_differ table (named i) || facts_move facts t (named i))
            ∙ ap (λ (b : Bool). counts_differ table next || b) rest.moves;
      }
  says_name (Told own ntp rtp ∷ facts) table alone heard = absurd cc
  says_name (Gone own ∷ facts) table alone heard = absurd cc
  says_name (Media own seq timestamp octets rate ∷ facts) table alone heard = absurd cc

  -- ---- With the report before it

  -- After its report a source is heard.
  heard_by_report : (timestamps : Option (ℕ × ℕ)) (table : TableValue) →
      IsSaid (Heard ssrc) (after_facts (Heard ssrc ∷ clock_told ssrc timestamps) t table)
  heard_by_report None table = heard_once table
  heard_by_report (Some (ntp, rtp)) table = heard_by_clock ntp rtp (after_fact (Heard ssrc) t table)

  -- Its report says that it is heard.
  without_heard : (timestamps : Option (ℕ × ℕ)) (named : Bool) (table : TableValue) →
      SaysSame ((Heard ssrc ∷ clock_told ssrc timestamps) ++ name_if ssrc named) (said_of ssrc timestamps named) table
  without_heard None false table = record { content = refl; moves = refl }
  without_heard None true table = record {
    content = once_said (Named ssrc) ssrc t table refl refl (λ e. refl);
    moves = once_moved (Named ssrc) ssrc t table refl refl (λ e. refl);
  }
  without_heard (Some (ntp, rtp)) false table = record {
    content = once_said (Told ssrc ntp rtp) ssrc t table refl refl (λ e. refl);
    moves = once_moved (Told ssrc ntp rtp) ssrc t table refl refl (λ e. refl);
  }
  without_heard (Some (ntp, rtp)) true table =
      let told : Fact = Told ssrc ntp rtp in
      let once = once_said told ssrc t table refl refl (λ e. refl) in
      record {
        content = ap (after_fact (Named ssrc) t) once;
        moves = moves_append (Heard ssrc ∷ told ∷ []) (Named ssrc ∷ []) t table
            ∙ (λ i. once_moved told ssrc t table refl refl (λ e. refl) i
            || facts_move (Named ssrc ∷ []) t (once i))
            ∙ sym (moves_append (told ∷ []) (Named ssrc ∷ []) t table);
      }

  says_all : (timestamps : Option (ℕ × ℕ)) (others : List Fact) (table : TableValue) →
      list_all (is_presence_of ssrc) others ≡ true →
      SaysSame ((Heard ssrc ∷ clock_told ssrc timestamps) ++ others) (said_of ssrc timestamps (list_any is_name others))
      table
  says_all timestamps others table alone =
      let report : List Fact = Heard ssrc ∷ clock_told ssrc timestamps in
      let name : List Fact = name_if ssrc (list_any is_name others) in
      let now : TableValue = after_facts report t table in
      let rest = says_name others now alone (heard_by_report timestamps table) in
      let short = without_heard timestamps (list_any is_name others) table in
      record {
        content = after_append report others t table ∙ rest.content ∙ sym (after_append report name t table)
            ∙ short.content;
        moves = moves_append report others t table ∙ ap (λ (b : Bool). facts_move report t table || b) rest.moves
            ∙ sym (moves_append report name t table) ∙ short.moves;
      }

-- ---- Compounds of one source

pub sole_says : (source : SoleSource) (facts : List Fact) (t : ℕ) (table : TableValue) → IsSole source facts →
    SaysSame source.ssrc t facts (facts_of_sole source) table
sole_says source facts t table h =
    let same = says_all source.ssrc t source.timestamps h.others table h.alone in
    record {
      content = ap (λ (these : List Fact). after_facts these t table) h.parts ∙ same.content
          ∙ ap (λ (b : Bool). after_facts (said_of source.ssrc source.timestamps b) t table) h.named;
      moves = ap (λ (these : List Fact). facts_move these t table) h.parts ∙ same.moves
          ∙ ap (λ (b : Bool). facts_move (said_of source.ssrc source.timestamps b) t table) h.named;
    }

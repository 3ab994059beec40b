-- What happened in a session, as far as its members go, and who is present (RFC 3550, 6.2.1, 6.3.3 to 6.3.5, 6.3.7). A
-- trace is kept newest first.
use Rattle.std.specs.Prelude.{ℕ, ◌&&◌, ◌||◌, ◌==◌, Bool, true, false, not, nat_lt, List, [], ◌∷◌, filter, length, if◌then◌else◌, Option, Some, None, is_some, is_none}
use Rattle.std.specs.List.{list_any}
use Rattle.std.specs.Option.{option_or}
use Rattle.rtcp_wire.specs.declared.fact.Fact.{Fact}
use Rattle.rtcp_wire.specs.Facts.{subject, is_gone}

-- ---- Traces

-- The moments that a check goes by. A source that was last sighted before `silent` is silent for too long. A sender
-- whose last counted packet came before `idle` no longer sends. A source that left before `gone` is no longer held.
pub record Horizons : Type 0 where
  pub silent : ℕ
  pub idle : ℕ
  pub gone : ℕ

-- A fact of a source came, a check was made, a block was made of a source, or the host said that a source is gone.
pub data TraceStep : Type 0 where
  fact_came : (fact : Fact) (moment : ℕ) → TraceStep
  check_made : (horizons : Horizons) → TraceStep
  block_made_of : (ssrc : ℕ) → TraceStep
  source_forgotten : (ssrc : ℕ) → TraceStep

-- The trace once these facts came at one moment, one after the other.
abbrev pub with_facts : List Fact → (moment : ℕ) → List TraceStep → List TraceStep
with_facts [] moment trace = trace
with_facts (fact ∷ facts) moment trace = with_facts facts moment (fact_came fact moment ∷ trace)

-- The trace with a block of each of the sources, in their order.
abbrev pub with_blocks : List ℕ → List TraceStep → List TraceStep
with_blocks [] trace = trace
with_blocks (ssrc ∷ ssrcs) trace = with_blocks ssrcs (block_made_of ssrc ∷ trace)

-- Whether a step names a source: each fact of it but that it has gone does.
abbrev pub is_naming : (ssrc : ℕ) → TraceStep → Bool
is_naming ssrc (fact_came fact moment) = not (is_gone fact) && subject fact == ssrc
is_naming ssrc _ = false

-- The sources that a trace names, each once.
abbrev pub names : List TraceStep → List ℕ
names [] = []
names (fact_came fact moment ∷ earlier) =
    let named = names earlier in
    if is_gone fact || list_any (λ ssrc. ssrc == subject fact) named then named else subject fact ∷ named
names (_ ∷ earlier) = names earlier

-- ---- Parts of a stay

-- The mark of a source: the moment of its first BYE.
abbrev pub mark_of : (ssrc : ℕ) → List TraceStep → Option ℕ
mark_of ssrc [] = None
mark_of ssrc (fact_came fact moment ∷ earlier) =
    option_or (mark_of ssrc earlier) (if is_gone fact && subject fact == ssrc then Some moment else None)
mark_of ssrc (_ ∷ earlier) = mark_of ssrc earlier

-- what stands before the mark
abbrev pub before_mark : (ssrc : ℕ) → List TraceStep → List TraceStep
before_mark ssrc [] = []
before_mark ssrc (step ∷ earlier) =
    if is_some (mark_of ssrc (step ∷ earlier)) then before_mark ssrc earlier else step ∷ earlier

abbrev pub step_moment : TraceStep → ℕ
step_moment (fact_came fact moment) = moment
step_moment _ = 0

-- The moment of the last naming among these steps, 0 if there is none.
abbrev pub last_naming : (ssrc : ℕ) → List TraceStep → ℕ
last_naming ssrc [] = 0
last_naming ssrc (step ∷ earlier) = if is_naming ssrc step then step_moment step else last_naming ssrc earlier

abbrev pub is_before : Option ℕ → ℕ → Bool
is_before None horizon = false
is_before (Some moment) horizon = nat_lt moment horizon

-- ---- Stays

-- A check removes a source that was silent for too long, where a sighting is a naming before the mark, or that left
-- too long ago. One that the host says is gone is present no more, unless it has a mark: then a check removes it.
abbrev pub ends_stay : (ssrc : ℕ) → TraceStep → List TraceStep → Bool
ends_stay ssrc (check_made horizons) stay =
    nat_lt (last_naming ssrc (before_mark ssrc stay)) horizons.silent || is_before (mark_of ssrc stay) horizons.gone
ends_stay ssrc (source_forgotten other) stay = other == ssrc && is_none (mark_of ssrc stay)
ends_stay ssrc _ stay = false

-- How many of these sources are present, where `stay` gives the stay of each.
abbrev pub present_among : List ℕ → (stay : ℕ → Option (List TraceStep)) → ℕ
present_among named stay = length (filter (λ ssrc. is_some (stay ssrc)) named)

-- The stay of each source, if it is present: the trace from its last admission on, as long as no step ends it. A naming
-- admits a source that is not present, where fewer than `capacity` sources are.
abbrev pub stay_of : (capacity : ℕ) → List TraceStep → (ssrc : ℕ) → Option (List TraceStep)
stay_of capacity [] = λ ssrc. None
stay_of capacity (step ∷ earlier) =
    let others = stay_of capacity earlier in
    let has_room = nat_lt (present_among (names earlier) others) capacity in
    λ ssrc. elim (others ssrc) [
      | Some stay ↦ if ends_stay ssrc step stay then None else Some (step ∷ stay)
      | None ↦ elim (is_naming ssrc step) [ true ↦ if has_room then Some (step ∷ []) else None | false ↦ None ]
    ]

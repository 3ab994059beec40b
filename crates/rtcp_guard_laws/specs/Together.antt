-- The steps of a table's trace and of a guard, side by side, the newest first.
use Rattle.std.specs.Prelude.{ℕ, ◌≡◌, ◌≤◌, true, List, [], ◌∷◌, if◌then◌else◌, Option}
use Rattle.rtcp_wire.specs.declared.fact.Fact.{Fact}
use Rattle.rtcp_wire.specs.Facts.{subject}
use Rattle.rtcp_members.specs.Present.{Horizons, TraceStep, check_made as table_checked, block_made_of, source_forgotten, with_facts}
use Rattle.rtcp_guard.specs.declared.settings.Settings.{Settings}
use Rattle.rtcp_guard.specs.Claims.{is_named}
use Rattle.rtcp_guard.specs.Guarding.{GuardStep, datagram_came, check_made, source_expected, origin_trusted}
use Rattle.rtcp_guard.specs.Histories.{is_passed}

pub data JointStep : Type 0 where
  -- a datagram came: what it names, of which source it says BYE first, and the facts that the table is told where it is
  -- passed on
  arrived : (origin moment : ℕ) → (names : List ℕ) → (goodbye : Option ℕ) → (facts : List Fact) → JointStep
  -- a check of the table, and one of the guard
  checked : (horizons : Horizons) → (moment silent : ℕ) → JointStep
  -- a report block, and a source that the host says is gone: the guard knows of neither
  reported : (ssrc : ℕ) → JointStep
  forgotten : (ssrc : ℕ) → JointStep
  -- a source that the host expects, and an origin that it trusts: the table knows of neither
  expected : (ssrc origin moment : ℕ) → JointStep
  trusted : (origin : ℕ) → JointStep

abbrev pub steps_of : List JointStep → List GuardStep
steps_of [] = []
steps_of (arrived origin moment names goodbye facts ∷ earlier) =
    datagram_came origin moment names goodbye ∷ steps_of earlier
steps_of (checked horizons moment silent ∷ earlier) = check_made moment silent ∷ steps_of earlier
steps_of (reported ssrc ∷ earlier) = steps_of earlier
steps_of (forgotten ssrc ∷ earlier) = steps_of earlier
steps_of (expected ssrc origin moment ∷ earlier) = source_expected ssrc origin moment ∷ steps_of earlier
steps_of (trusted origin ∷ earlier) = origin_trusted origin ∷ steps_of earlier

-- The table is told of just what the guard passes on.
abbrev pub trace_of : Settings → List JointStep → List TraceStep
trace_of settings [] = []
trace_of settings (arrived origin moment names goodbye facts ∷ earlier) =
    if is_passed settings origin moment names goodbye (steps_of earlier) then with_facts facts moment
    (trace_of settings earlier)
    else trace_of settings earlier
trace_of settings (checked horizons moment silent ∷ earlier) = table_checked horizons ∷ trace_of settings earlier
trace_of settings (reported ssrc ∷ earlier) = block_made_of ssrc ∷ trace_of settings earlier
trace_of settings (forgotten ssrc ∷ earlier) = source_forgotten ssrc ∷ trace_of settings earlier
trace_of settings (expected ssrc origin moment ∷ earlier) = trace_of settings earlier
trace_of settings (trusted origin ∷ earlier) = trace_of settings earlier

-- the moment of the newest datagram, or of what the host expected since
abbrev pub latest : List JointStep → ℕ
latest [] = 0
latest (arrived origin moment names goodbye facts ∷ earlier) = moment
latest (checked horizons moment silent ∷ earlier) = latest earlier
latest (reported ssrc ∷ earlier) = latest earlier
latest (forgotten ssrc ∷ earlier) = latest earlier
latest (expected ssrc origin moment ∷ earlier) = moment
latest (trusted origin ∷ earlier) = latest earlier

-- each of these facts speaks of a source that is named
abbrev pub AreNamed : (names : List ℕ) → List Fact → Type 0
AreNamed names [] = Unit {0}
AreNamed names (fact ∷ rest) = (is_named (subject fact) names ≡ true) × AreNamed names rest

-- Datagrams come in the order of their moments, name what they speak of, and no check of the guard goes by a later
-- moment than the table's does for silence.
abbrev pub IsInOrder : List JointStep → Type 0
IsInOrder [] = Unit {0}
IsInOrder (arrived origin moment names goodbye facts ∷ earlier) =
    (latest earlier ≤ moment) × (AreNamed names facts × IsInOrder earlier)
IsInOrder (checked horizons moment silent ∷ earlier) = (silent ≤ horizons.silent) × IsInOrder earlier
IsInOrder (reported ssrc ∷ earlier) = IsInOrder earlier
IsInOrder (forgotten ssrc ∷ earlier) = IsInOrder earlier
IsInOrder (expected ssrc origin moment ∷ earlier) = (latest earlier ≤ moment) × IsInOrder earlier
IsInOrder (trusted origin ∷ earlier) = IsInOrder earlier

-- Words on traces that stand beside those of Present, for proofs and for the crates above.
use Rattle.std.specs.Prelude.{ℕ, ◌||◌, ◌==◌, List, ◌∷◌, if◌then◌else◌}
use Rattle.std.specs.List.{list_any}
use Rattle.rtcp_wire.specs.declared.fact.Fact.{Fact}
use Rattle.rtcp_wire.specs.Facts.{subject, is_gone}
pub use Rattle.rtcp_members.specs.Present.{Horizons, TraceStep, fact_came, check_made, block_made_of, source_forgotten, is_naming, names, with_facts, with_blocks}

abbrev pub horizons_at : (silent idle gone : ℕ) → Horizons
horizons_at silent idle gone = record { silent = silent; idle = idle; gone = gone }

-- the names of a trace with a fact more
abbrev pub with_name : Fact → List ℕ → List ℕ
with_name fact named =
    if is_gone fact || list_any (λ ssrc. ssrc == subject fact) named then named else subject fact ∷ named

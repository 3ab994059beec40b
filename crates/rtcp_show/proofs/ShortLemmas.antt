-- The counts and the short rows, one after the other.
use Rattle.std.proofs.Common.{◌≡◌, ◌++◌, ℕ, List, append_assoc, length, map}
use Rattle.std.specs.List.{flat_map}
use Rattle.rtcp_members.specs.Listings.{StateValue}
use Rattle.rtcp_show.specs.Notes.{NoteValue}
use Rattle.rtcp_show.specs.ShortRows.{rank_of, short_counts_text, short_sources_text, shown_count, shown_row_text}
use Rattle.rtcp_show.specs.declared.flows.Flow.{Flow}
use Rattle.rtcp_show.specs.declared.short_rows.Rank.{Rank}

pub counts_and_rows :
    (most members senders shown all : ℕ) (note : ℕ → NoteValue) (flow : ℕ → Flow) (states : List StateValue)
    (ranks : List Rank) (before between after : List ℕ) → ranks ≡ map rank_of states
    → shown ≡ shown_count most ranks → all ≡ length states
    → between ≡ before ++ short_counts_text members senders shown all
    → after ≡ between ++ flat_map (shown_row_text most ranks note flow) states
    → after ≡ before ++ short_sources_text most members senders note flow states
counts_and_rows most members senders shown all note flow states ranks before between after ranked counted size first
    second =
    rw (second, first, counted, size, ranked)
    (append_assoc before (short_counts_text members senders (shown_count most (map rank_of states)) (length states))
    (flat_map (shown_row_text most (map rank_of states) note flow) states))

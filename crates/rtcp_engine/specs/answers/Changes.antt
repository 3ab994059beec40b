-- Changes of identifier (RFC 3550, 8.2): which datagrams bring one, which identifier is taken then, and what becomes of
-- the session.
use Rattle.std.specs.Prelude.{ℕ, ◌+◌, ◌==◌, ◌||◌, Bool, false, List, [], ◌∷◌, length, map, is_some, if◌then◌else◌, Option, Some, None, Ok, suc, zero, nat_lt, not, ◌&&◌, ◌%◌, ◌^◌}
use Rattle.std.specs.List.{list_any}
use Rattle.rtcp_wire.specs.Facts.{subject, facts_of}
use Rattle.rtcp_members.specs.Present.{stay_of}
use Rattle.rtcp_engine.specs.declared.changes.IdentifierChange.{IdentifierChange}
use Rattle.rtcp_engine.specs.answers.Setups.{Setup}
use Rattle.rtcp_engine.specs.answers.Acts.{Datagram, rtcp, rtp, Act, arrived, OutValue}
use Rattle.rtcp_engine.specs.answers.Leaving.{Life, present, backing_off, finished}
use Rattle.rtcp_engine.specs.answers.Lives.{renamed}

abbrev pub is_among : List ℕ → ℕ → Bool
is_among numbers number = list_any (λ other. other == number) numbers

-- The most changes of a session.
abbrev pub most_changes : ℕ
most_changes = 8

-- A peer that brought no change yet may change the identifier where fewer than eight peers did.
abbrev pub may_change : (peers : List ℕ) → (peer : ℕ) → Bool
may_change peers peer = not (is_among peers peer) && nat_lt (length peers) most_changes

-- The first of a number and those that follow it, modulo 2^32, that is not taken, of so many and the one after them.
abbrev pub first_free : (most : ℕ) → (is_taken : ℕ → Bool) → ℕ → ℕ
first_free zero is_taken ssrc = ssrc
first_free (suc most) is_taken ssrc =
    if is_taken ssrc then first_free most is_taken ((ssrc + 1) % 2 ^ 32) else ssrc

-- What a session has come to.
pub record Session : Type 0 where
  -- under the present identifier
  pub setup : Setup
  -- the changes of identifier so far, newest first: whose datagrams brought them, and what was given up
  pub changes : List IdentifierChange
  pub life : Life

-- ---- Datagrams

-- A datagram is about this source: a fact of its compound is, or its RTP packet comes from it.
abbrev pub is_about : (ssrc : ℕ) → Datagram → Bool
is_about ssrc (rtcp size (Ok packets)) = list_any (λ fact. subject fact == ssrc) (facts_of packets)
is_about ssrc (rtp (Ok head)) = head.ssrc == ssrc
is_about ssrc _ = false

-- all identifiers that a datagram names, contributing sources among them
abbrev pub named_by : Datagram → List ℕ
named_by (rtcp size (Ok packets)) = map subject (facts_of packets)
named_by (rtp (Ok head)) = head.ssrc ∷ head.csrcs
named_by _ = []

-- ---- A new identifier

-- whether the table has an entry of a source, marked or not: in a backoff as it stood at the leave
abbrev pub is_in_table : Setup → Life → (ssrc : ℕ) → Bool
is_in_table setup (present outcome) ssrc = is_some (stay_of setup.capacity outcome.trace ssrc)
is_in_table setup (backing_off outcome backoff) ssrc = is_some (stay_of setup.capacity outcome.trace ssrc)
is_in_table setup (finished outcome) ssrc = false

-- An identifier is taken if the participant has or had it, if the table has it, or if the datagram names it.
abbrev pub is_taken : Session → Datagram → (ssrc : ℕ) → Bool
is_taken session datagram ssrc =
    is_among (session.setup.ssrc ∷ map (λ change. change.former) session.changes) ssrc
    || (is_in_table session.setup session.life ssrc || is_among (named_by datagram) ssrc)

-- The search passes no more than may be taken: those of the participant, of the table, and of the datagram.
abbrev pub new_identifier : (word : ℕ) → Session → Datagram → ℕ
new_identifier word session datagram =
    first_free (most_changes + 1 + session.setup.capacity + length (named_by datagram)) (is_taken session datagram) word

-- ---- Changes

-- whose datagram brings a change, and the identifier that is taken
pub record NewIdentifier : Type 0 where
  pub peer : ℕ
  pub ssrc : ℕ

-- the change that an act brings, if it is taken
abbrev pub change_by : Session → Act → Option NewIdentifier
change_by session (arrived moment peer word datagram) =
    if is_about session.setup.ssrc datagram
    then Some (record { peer = peer; ssrc = new_identifier word session datagram })
    else None
change_by session act = None

abbrev pub changed_by : Option NewIdentifier → Session → Session
changed_by None session = session
changed_by (Some new) session = record {
  setup = record session.setup { ssrc = new.ssrc };
  changes = record { peer = new.peer; former = session.setup.ssrc } ∷ session.changes;
  life = (renamed session.setup session.life).life;
}

-- the BYE that a change hands out
abbrev pub bye_of_change : Option NewIdentifier → Session → Option OutValue
bye_of_change None session = None
bye_of_change (Some new) session = (renamed session.setup session.life).out

-- ---- Parts of what stands above, by names of their own

abbrev pub with_ssrc : (ssrc : ℕ) → Setup → Setup
with_ssrc ssrc setup = record setup { ssrc = ssrc }

-- all identifiers so far, the present one first
abbrev pub identifiers : Session → List ℕ
identifiers session = session.setup.ssrc ∷ map (λ change. change.former) session.changes

-- the peers whose datagrams changed the identifier
abbrev pub changing_peers : Session → List ℕ
changing_peers session = map (λ change. change.peer) session.changes

abbrev pub most_taken : Session → Datagram → ℕ
most_taken session datagram = most_changes + 1 + session.setup.capacity + length (named_by datagram)

abbrev pub changed_to : NewIdentifier → Session → Session
changed_to new session = changed_by (Some new) session

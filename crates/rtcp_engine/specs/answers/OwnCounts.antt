-- What a participant has sent, as its sender reports tell it (RFC 3550, 6.4.1), and whether it counts as a sender.
use Rattle.std.specs.Prelude.{Option, Some, None, is_some}
use Rattle.rtcp_engine.specs.declared.own.OwnCounts.{OwnCounts}
use Rattle.rtcp_engine.specs.answers.OwnStreams.{OwnValue, own_of}
use Rattle.rtcp_engine.specs.answers.Leaving.{Life, present, backing_off, finished}

abbrev pub counts_of : OwnValue → OwnCounts
counts_of own = record { sends = is_some own.sending; packets = own.packets; octets = own.octets }

-- From its leave on the participant reports nothing.
abbrev pub own_counts_in_life : Life → Option OwnCounts
own_counts_in_life (present outcome) = Some (counts_of (own_of outcome.own))
own_counts_in_life (backing_off outcome backoff) = None
own_counts_in_life (finished outcome) = None

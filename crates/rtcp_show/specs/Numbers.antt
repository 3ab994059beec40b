-- Numbers and addresses, as `rtcp listen --show` writes them.
use Rattle.std.specs.Prelude.{ℕ, ◌/◌, ◌%◌, ◌^◌, List, ◌++◌, codes}
use Rattle.std.specs.Fmt.{decimal}
use Rattle.std.specs.Net.Text.{dotted_text}
use Rattle.rtcp_plain.specs.Numbers.{fixed_text}

-- a moment of so many microseconds, in seconds
abbrev pub moment_text : ℕ → List ℕ
moment_text moment = fixed_text 1000000 moment

-- An address and a port, by their number (rtcp_serve/specs/Links `endpoint_number`).
abbrev pub peer_text : ℕ → List ℕ
peer_text peer =
    dotted_text (peer / 2 ^ 40 % 256) (peer / 2 ^ 32 % 256) (peer / 2 ^ 24 % 256) (peer / 2 ^ 16 % 256)
    ++ codes ":" ++ decimal (peer % 2 ^ 16)

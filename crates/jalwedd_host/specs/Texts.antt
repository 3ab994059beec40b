-- What a host in C gives for a text of a datagram.
use Rattle.std.specs.Prelude.{ℕ, ◌==◌, if◌then◌else◌, Option, Some, None}

-- 0 stands for no rate.
abbrev pub rate_given : ℕ → Option ℕ
rate_given rate = if rate == 0 then None else Some rate

-- Which SSRCs stand above the last one that was told of, and words of Members on blocks.
use Rattle.std.specs.Prelude.{ℕ, Bool, true, nat_lt, Option, Some, None}
pub use Rattle.rtcp_members.specs.Members.{is_due_by, blocks_at, put_rising, rising, pending_at}

-- whether an SSRC stands above the last one reported, if there was one
abbrev pub is_after : (last : Option ℕ) → (ssrc : ℕ) → Bool
is_after None ssrc = true
is_after (Some last) ssrc = nat_lt last ssrc

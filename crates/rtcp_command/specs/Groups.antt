-- Endpoints that are groups, and what warns of them.
use Rattle.std.specs.Prelude.{ℕ, nat_le, ◌&&◌, Bool, List, [], ◌++◌, slice_index, if◌then◌else◌, codes}
use Rattle.rtcp_command.specs.Endpoints.{Endpoint}

-- 224.0.0.0 to 239.255.255.255 (RFC 1112, 4)
abbrev pub is_group : Endpoint → Bool
is_group endpoint = nat_le 224 (slice_index endpoint.octets 0) && nat_le (slice_index endpoint.octets 0) 239

-- the line of an endpoint that is a group, by the option's name
abbrev pub group_text : (name : List ℕ) → Endpoint → List ℕ
group_text name endpoint = if is_group endpoint then codes "warning " ++ name ++ codes " group\n" else []

abbrev pub groups_text : (rtp rtcp : Endpoint) → List ℕ
groups_text rtp rtcp = group_text (codes "rtp") rtp ++ group_text (codes "rtcp") rtcp

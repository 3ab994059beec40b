-- A walk over the packets of applications of an accepted datagram tells of the datagram's own.
use Rattle.std.proofs.Common.{◌≡◌, ℕ, List, [], ◌∷◌, flat_map, take, refl, subst, arith}
use Rattle.rtcp_wire.specs.Contents.{all_apps, packet_apps}
use Rattle.rtcp_wire.specs.Grammar.{Joins, IsAccepted, IsSpelling}
use Rattle.rtcp_wire.specs.Values.{AppValue, RtcpPacket}
use Rattle.rtcp_parts.specs.declared.cursor.Cursor.{Cursor}
use Rattle.rtcp_parts.specs.Cursors.{IsBoundary, LeavesNone}
use Rattle.rtcp_parts.proofs.Boundaries.{boundary_at_start}
use Rattle.jalwedd_host.specs.declared.app.AppPlace.{AppPlace}
use Rattle.jalwedd_host.specs.Apps.{AreOwnShown, IsOwnPlace, ShowsApp, ShowsOwnApp, ShowsOwnApps}
use Rattle.jalwedd_host.specs.Parts.{Locates}
use Rattle.jalwedd_host.specs.Walks.{AreShown, ShowEach, begins}
use Rattle.jalwedd_host.proofs.WholeWalks.{shows_all}

module _ (datagram : List ℕ) where
  -- Each packet that a walk tells of is one of the datagram's own.
  abbrev AllOwn : List AppPlace → Type 0
  AllOwn [] = Unit {0}
  AllOwn (place ∷ places) = IsOwnPlace datagram place × AllOwn places

  all_own : (places : List AppPlace) (was last : Cursor) → IsBoundary datagram was.next →
      AreOwnShown datagram was places last → AllOwn places
  all_own [] was last here told = tt {0}
  all_own (place ∷ places) was last here told =
      (told.3.own here refl, all_own places told.0 last (told.3.stays here) told.4)

  as_shown : (places : List AppPlace) (was last : Cursor) → AreOwnShown datagram was places last →
      AreShown packet_apps LeavesNone (ShowsApp datagram) datagram was places last
  as_shown [] was last told = told
  as_shown (place ∷ places) was last told = (told.0, told.1, told.2, as_shown places told.0 last told.4)

  -- What shows a packet there shows one of the datagram's own.
  pub shows_own : (place : AppPlace) (part : AppValue) → IsOwnPlace datagram place → ShowsApp datagram place part →
      ShowsOwnApp datagram place part
  shows_own place part own shows =
      let same : own.before ≡ shows.before = omega (arith, own.offset, shows.offset) in
      record {
        shows = shows;
        packets = own.boundary.before.0;
        joined =
            subst (λ (n : ℕ). Joins IsSpelling own.boundary.before.0 (take n datagram)) same own.boundary.before.1;
      }

  show_each : (places : List AppPlace) (parts : List AppValue) → AllOwn places →
      ShowEach (ShowsApp datagram) places parts → ShowEach (ShowsOwnApp datagram) places parts
  show_each [] [] own shows = tt {0}
  show_each [] (part ∷ parts) own shows = absurd shows
  show_each (place ∷ places) [] own shows = absurd shows
  show_each (place ∷ places) (part ∷ parts) own shows =
      (shows_own place part own.0 shows.0, show_each places parts own.1 shows.1)

pub tells_own : ShowsOwnApps
tells_own datagram packets places last end before after accepted told ends =
    show_each datagram places (flat_map packet_apps packets)
    (all_own datagram places begins last (boundary_at_start datagram packets accepted) told)
    (shows_all packet_apps LeavesNone ShowsApp datagram packets places last end before after accepted
    (as_shown datagram places begins last told) ends)

-- A packet at an index that is told is one of the datagram's own.
pub own_located : (datagram : List ℕ) (index result : ℕ) (was place : AppPlace)
    → Locates all_apps (ShowsApp datagram) datagram index result was place
    → ((packets : List RtcpPacket) → IsAccepted datagram packets → result ≡ 0 → IsOwnPlace datagram place)
    → Locates all_apps (ShowsOwnApp datagram) datagram index result was place
own_located datagram index result was place h own = record {
  found = λ packets part accepted at.
      let found = h.found packets part accepted at in
      (found.0, shows_own datagram place part (own packets accepted found.0) found.1);
  none = h.none;
  refused = h.refused;
}

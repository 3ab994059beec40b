-- What is held stays, and shows where it stands.
use Rattle.std.proofs.Common.{refl}
use Rattle.jalwedd_host.proofs.Held.{session_of}
use Rattle.jalwedd_host.proofs.handle.Handle.turn_away.Goals as goal

pub returns-in-Some-clause-turns_away : goal.returns-in-Some-clause-turns_away
returns-in-Some-clause-turns_away c octets =
    let put = c.put_back_untold.ensures in
    record {
      too_long = λ session is. (put.status, put.nothing, refl);
      still_shows = λ start history leads.
          put.shown start history (session_of _ _ start history c.in-Some.ensures.gives leads);
    }

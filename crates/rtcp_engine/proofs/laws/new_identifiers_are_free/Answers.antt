use Rattle.rtcp_engine.proofs.IdentifierSearch.{chosen_is_first}
use Rattle.rtcp_engine.specs.answers.Histories.{session_at}
use Rattle.rtcp_engine.specs.answers.Changes.{is_taken, most_taken}
use Rattle.rtcp_engine.proofs.NewIdentifiers.{new_is_free}
use Rattle.rtcp_engine.proofs.laws.new_identifiers_are_free.Goals as goal

pub returns-clause-free : goal.returns-clause-free
returns-clause-free c history datagram word is fits few = new_is_free history datagram word is fits few

pub returns-clause-first : goal.returns-clause-first
returns-clause-first c history datagram word is fits few =
    let session = session_at history in
    chosen_is_first (most_taken session datagram) (is_taken session datagram) word fits
    (new_is_free history datagram word is fits few)

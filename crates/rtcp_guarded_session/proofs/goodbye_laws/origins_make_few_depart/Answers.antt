use Rattle.rtcp_guarded_session.proofs.Passing.{few_are_said}
use Rattle.rtcp_guarded_session.proofs.Saying.{goodbye_is_said}
use Rattle.rtcp_guarded_session.proofs.goodbye_laws.origins_make_few_depart.Goals as goal

pub returns : goal.returns
returns c = λ older newer origin from until.
    few_are_said (goodbye_is_said c.compounds_name_their_sources.ensures.goodbye c.new_identifiers_are_free.ensures.free
    c.falls_are_departures.ensures.kinds) origin from until older c.few_goodbyes_pass.ensures newer

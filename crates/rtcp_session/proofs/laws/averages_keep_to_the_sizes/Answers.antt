use Rattle.rtcp_session.proofs.Loads.{averages_of_sizes, own_is_large}
use Rattle.rtcp_session.proofs.Octets.{read_is_large}
use Rattle.rtcp_session.proofs.laws.averages_keep_to_the_sizes.Goals as goal

pub returns-clause-averages : goal.returns-clause-averages
returns-clause-averages c = averages_of_sizes

pub returns-clause-came : goal.returns-clause-came
returns-clause-came c = read_is_large

pub returns-clause-own : goal.returns-clause-own
returns-clause-own c = own_is_large

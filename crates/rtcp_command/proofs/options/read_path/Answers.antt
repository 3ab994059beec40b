-- Memory is asked for only where a path is given.
use Rattle.std.proofs.Common.{ap}
use Rattle.rtcp_command.specs.Options.{text_given}
use Rattle.rtcp_command.proofs.options.read_path.Goals as goal

pub returns-in-Err-clause-given : goal.returns-in-Err-clause-given
returns-in-Err-clause-given c = (c.in-Some.path.now, ap text_given c.in-Some.is)

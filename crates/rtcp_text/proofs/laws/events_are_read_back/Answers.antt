use Rattle.rtcp_text.proofs.LawLemmas.{events_are_read_back-read, events_are_read_back-line, events_are_read_back-short, events_are_read_back-callable, events_are_read_back-record}
use Rattle.rtcp_text.proofs.laws.events_are_read_back.Goals as goal

pub returns-clause-read : goal.returns-clause-read
returns-clause-read c = events_are_read_back-read

pub returns-clause-line : goal.returns-clause-line
returns-clause-line c = events_are_read_back-line

pub returns-clause-short : goal.returns-clause-short
returns-clause-short c = events_are_read_back-short

pub returns-clause-callable : goal.returns-clause-callable
returns-clause-callable c = events_are_read_back-callable

pub returns-clause-record : goal.returns-clause-record
returns-clause-record c = events_are_read_back-record

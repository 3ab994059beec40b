use Rattle.rtcp_engine.proofs.Pacing.{no_sooner, still_kept, heard_lately, present_alone, paces_are_usable}
use Rattle.rtcp_engine.proofs.laws.settings_drop_nobody_sooner.Goals as goal

pub returns-clause-no_sooner : goal.returns-clause-no_sooner
returns-clause-no_sooner c = λ history moment t settings before later is. no_sooner is

pub returns-clause-kept : goal.returns-clause-kept
returns-clause-kept c = λ history moment t settings before later is. still_kept is

pub returns-clause-heard : goal.returns-clause-heard
returns-clause-heard c = λ history moment t settings before later is. heard_lately is

pub returns-clause-afterwards : goal.returns-clause-afterwards
returns-clause-afterwards c = present_alone

pub returns-clause-usable : goal.returns-clause-usable
returns-clause-usable c = paces_are_usable

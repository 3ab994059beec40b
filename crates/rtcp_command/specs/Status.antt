-- The statuses that the program ends with.
use Rattle.std.specs.Prelude.{ℕ, ◌==◌, ◌&&◌, Bool, if◌then◌else◌, Result, Ok, Err}
use Rattle.rtcp_serve.specs.declared.serving.Cause.{Cause}
use Rattle.rtcp_serve.specs.declared.serving.Cause.TheVariants.{Done, LinkDown, Limit}
use Rattle.rtcp_serve.specs.declared.serving.End.{End}
use Rattle.rtcp_command.specs.declared.fault.RunFault.{RunFault}
use Rattle.rtcp_command.specs.declared.fault.RunFault.TheVariants.{Config, Text, Link, Record, NoRegularFile, Random, Read, Write, Memory}
use Rattle.rtcp_command.specs.declared.orders.OrderFault.{OrderFault}
use Rattle.rtcp_command.specs.declared.orders.OrderFault.TheVariants.{Clap, Option as BadOption, Memory as NoMemory}
use Rattle.rtcp_text.specs.declared.fault.ReplayFault.{ReplayFault}
use Rattle.rtcp_text.specs.declared.fault.ReplayFault.TheVariants.{Config as BadConfig, Run}
use Rattle.rtcp_text.specs.declared.fault.TextFault.{TextFault}
use Rattle.rtcp_text.specs.declared.fault.TextFault.TheVariants.{Text as BadText, Read as Unread, Write as Unwritten, Memory as Refused}

-- the fault of a check among all
abbrev pub text_fault : TextFault → RunFault
text_fault (BadText line fault) = Text line fault
text_fault Unread = Read
text_fault Unwritten = Write
text_fault Refused = Memory

-- the fault of a replay among all
abbrev pub replay_fault : ReplayFault → RunFault
replay_fault (BadConfig error) = Config error
replay_fault (Run fault) = text_fault fault

-- 2 where the text or the configuration is refused, and 1 where the link, the file of a record, the system's generator,
-- reading, writing or memory failed
abbrev pub fault_status : RunFault → ℕ
fault_status (Config error) = 2
fault_status (Text line fault) = 2
fault_status Link = 1
fault_status Record = 1
fault_status NoRegularFile = 1
fault_status Random = 1
fault_status Read = 1
fault_status Write = 1
fault_status Memory = 1

-- 2 where the words or an option are refused or help is asked for, and 1 where memory failed
abbrev pub order_status : OrderFault → ℕ
order_status (Clap text) = 2
order_status (BadOption name) = 2
order_status NoMemory = 1

-- 1 where the link failed, and 0 at any other end
abbrev pub end_status : Cause → ℕ
end_status Done = 0
end_status LinkDown = 1
end_status Limit = 0

-- that of the end, or of the fault
abbrev pub listen_status : Result End RunFault → ℕ
listen_status (Ok ended) = end_status ended.cause
listen_status (Err fault) = fault_status fault

-- 3 in place of 0 where an alarm was raised
abbrev pub watched_status : (alarm : Bool) → (status : ℕ) → ℕ
watched_status alarm status = if alarm && status == 0 then 3 else status

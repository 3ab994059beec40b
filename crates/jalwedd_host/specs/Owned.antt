-- What a host's handle owns: the box at the pointer, with its session as `held`, or nothing at null.
use Rattle.std.specs.Prelude.{Option, Some, None}
use base.Fml.{Fml, ftrue, ffalse}
use base.Stored.{Coded}
use denote.RattleType.{RattleType}
use denote.RawPtr.{Ptr, block_ptr, null_ptr}
use Rattle.std.specs.Coded.{coded_option}
use Rattle.std_alloc.specs.Box.Ownership.{box_owns}
use Rattle.std.specs.declared.alloc.Global.{Global}
use Rattle.std.specs.contracts.impls.GlobalAllocator.TheImpl.{ghosts}
use Rattle.jalwedd_host.specs.contracts.session.HostSession as session

-- a session as the logic describes it: all that stands below, and each proof, speaks of it by this name
abbrev pub Row : RattleType
Row = session.the_row

abbrev pub Value : Type 0
Value = Row.Denot

abbrev pub held_code : Coded (Option Value)
held_code = coded_option Row.coded

abbrev pub boxed : Global → Ptr → Value → Fml
boxed alloc = box_owns (ghosts.dealloc_token alloc) Row

abbrev pub owned : Global → Ptr → Option Value → Fml
owned alloc null_ptr None = ftrue
owned alloc null_ptr (Some x) = ffalse
owned alloc (block_ptr b o) None = ffalse
owned alloc (block_ptr b o) (Some x) = boxed alloc (block_ptr b o) x

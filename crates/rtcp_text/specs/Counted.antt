-- What a clause reads of a reader or a writer that counts its failed calls.
use Rattle.std.specs.Prelude.{ℕ, ◌≡◌, ◌≢◌, ◌↔◌, ◌≤◌, ◌+◌, ◌-◌, ◌^◌, ◌==◌, ◌&&◌, nat_lt, Bool, true, if◌then◌else◌, min, List, length, Result, Ok, Err}
use Rattle.rtcp_text.specs.declared.counted.Counted.{Counted}

-- how many calls failed, up to 2 ^ 64 - 1
abbrev pub failures_of : {T : Type 0} → Counted T → ℕ
failures_of c = c.failures

-- the reader or the writer inside
abbrev pub inner_of : {T : Type 0} → Counted T → T
inner_of c = c.inner

-- the count after a call, by whether the call failed
abbrev pub count_after : Bool → ℕ → ℕ
count_after failed count = if failed then min (count + 1) (2 ^ 64 - 1) else count

-- A write failed: it returned an error, or took none of some octets.
abbrev pub took_nothing : {E : Type 0} → Result ℕ E → List ℕ → Bool
took_nothing (Ok count) octets = (count == 0) && nat_lt 0 (length octets)
took_nothing (Err e) octets = true

-- No call of the reader or of the writer failed.
abbrev pub AreUnfailed : {R W : Type 0} → Counted R → Counted W → Type 0
AreUnfailed reader writer = (failures_of reader ≡ 0) × (failures_of writer ≡ 0)

-- A call of the reader or of the writer failed exactly where the fault says so, and only one: by the faults of a failed
-- read and a failed write.
pub record FailsOnce {A F R W : Type 0} (result : Result A F) (read write : F) (reader : Counted R) (writer : Counted W)
    : Type 0 where
  pub read_failed : (result ≡ Err read) ↔ (failures_of reader ≢ 0)
  pub write_failed : (result ≡ Err write) ↔ (failures_of writer ≢ 0)
  pub read_once : failures_of reader ≤ 1
  pub write_once : failures_of writer ≤ 1

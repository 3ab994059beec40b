use Rattle.std.proofs.Common.{rules, ◌≡◌, ℕ, ◌-◌, ◌≤◌, List, ◌++◌, length, drop, sym, ◌∙◌, arith}
use Rattle.std.proofs.lemmas.Simd.{put_chunk_whole}
use lib.Lanes.{put_chunk}
use borrow.Rule.Slice.PartMut.{mid_of, put_mid, mid_len}
use Rattle.rtcp_text.proofs.TailLemmas.{text_written}
use Rattle.rtcp_text.proofs.text.tail.Tail.put_digits.Goals as goal

-- what stands from a place on where digits were written up to another
part_written : (xs digits : List ℕ) (a e : ℕ) → a ≤ e → e ≤ length xs → length digits ≡ e - a
    → drop a (put_mid a (e - a) xs (put_chunk 0 (mid_of a (e - a) xs) digits)) ≡ digits ++ drop e xs
part_written xs digits a e before within long =
    rw (put_chunk_whole (mid_of a (e - a) xs) digits (mid_len a e xs within ∙ sym long))
    (text_written xs digits a e before within long)

pub returns-clause-text : goal.returns-clause-text
returns-clause-text c =
    let s = c.args.self.now.start in
    part_written c.args.self.now.octets c.args.digits (s - 8) s (omega arith) (search rules)
    (omega (arith, c.fits-digits.0))

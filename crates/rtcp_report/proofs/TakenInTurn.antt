-- Blocks taken of the pending sources, one after the other, each written after the ones before it.
use Rattle.std.proofs.Common.{◌≡◌, ℕ, ◌+◌, ◌*◌, List, [], ◌∷◌, ◌++◌, length, Option, Some, arith, refl, sym, ap, subst, ◌∙◌, append_assoc}
use Rattle.std.proofs.lemmas.List.{length-append}
use Rattle.std.proofs.lemmas.List.Concat.{flat_map-append}
use Rattle.std.proofs.lemmas.List.Elements.{All-append, All-cons, All-nil, All-same, filter_map-append}
use Rattle.std.specs.List.{flat_map, cons_option}
use Rattle.rtcp_wire.specs.Puts.{IsPut}
use Rattle.rtcp_wire.specs.Values.{ReportBlock}
use Rattle.rtcp_wire.specs.Writing.{written_block, IsWritableBlock, IsBlockInRange}
use Rattle.rtcp_wire.proofs.Putting.{put_after}
use Rattle.rtcp_members.specs.Tables.{TableValue}
use Rattle.rtcp_members.specs.Pending.{EntryRow, pending, first_ssrc, block_of_row, block_at, after_block, blocks_of, after_blocks, last_reported}
use Rattle.rtcp_members.proofs.LawLemmas.{first_is_due-block, others_stay_pending}
use Rattle.rtcp_report.specs.Gathered.{IsTakenFrom}

-- ---- Rows after other rows

after_all : (rows others : List EntryRow) (table : TableValue) →
    after_blocks (rows ++ others) table ≡ after_blocks others (after_blocks rows table)
after_all [] others table = refl
after_all (row ∷ rows) others table = after_all rows others (after_block row.0 table)

last_of_all : (rows others : List EntryRow) (last : Option ℕ) →
    last_reported last (rows ++ others) ≡ last_reported (last_reported last rows) others
last_of_all [] others last = refl
last_of_all (row ∷ rows) others last = last_of_all rows others (Some row.0)

pub blocks_of_all : (t : ℕ) (rows others : List EntryRow) →
    blocks_of t (rows ++ others) ≡ blocks_of t rows ++ blocks_of t others
blocks_of_all t rows others = filter_map-append (block_of_row t) rows others

pub taken_both : {t : ℕ} {rows others : List EntryRow} {last middle cursor : Option ℕ} {table half after : TableValue} →
    IsTakenFrom t rows last table middle half → IsTakenFrom t others middle half cursor after →
    IsTakenFrom t (rows ++ others) last table cursor after
taken_both {t} {rows} {others} {last} {middle} {cursor} {table} {half} {after} first second =
    let blocks = blocks_of_all t rows others in
    record {
      count = omega (
        arith,
        ap (λ (b : List ReportBlock). length b) blocks,
        length-append (blocks_of t rows) (blocks_of t others),
        length-append rows others,
        first.count,
        second.count,
      );
      writable = All-same IsWritableBlock _ _ blocks
          (All-append IsWritableBlock (blocks_of t rows) (blocks_of t others) first.writable second.writable);
      in_range = All-same IsBlockInRange _ _ blocks
          (All-append IsBlockInRange (blocks_of t rows) (blocks_of t others) first.in_range second.in_range);
      content = second.content ∙ ap (after_blocks others) first.content ∙ sym (after_all rows others table);
      cursor_is = second.cursor_is ∙ ap (λ (l : Option ℕ). last_reported l others) first.cursor_is
          ∙ sym (last_of_all rows others last);
    }

-- ---- A prefix of the pending rows was reported, and the rest is pending.

pub record IsTaken (t : ℕ) (first : Option ℕ) (start : TableValue) (last : Option ℕ) (table : TableValue)
    (at count : ℕ) (old new : List ℕ) : Type 0 where
  pub prefix : List EntryRow
  pub rest : List EntryRow
  pub parts : pending first start ≡ prefix ++ rest
  pub waits : pending last table ≡ rest
  pub taken : IsTakenFrom t prefix first start last table
  pub counted : count ≡ length prefix
  pub put : IsPut old new at (flat_map written_block (blocks_of t prefix)) (at + 24 * count)

-- none yet
pub none_taken : (t : ℕ) (first : Option ℕ) (start : TableValue) (at : ℕ) (octets : List ℕ) →
    IsPut octets octets at [] at → IsTaken t first start first start at 0 octets octets
none_taken t first start at octets nothing =
    record {
      prefix = [];
      rest = pending first start;
      parts = refl;
      waits = refl;
      taken = record {
        count = refl;
        writable = All-nil IsWritableBlock;
        in_range = All-nil IsBlockInRange;
        content = refl;
        cursor_is = refl;
      };
      counted = refl;
      put = subst (IsPut octets octets at []) (omega arith) nothing;
    }

-- ---- One more

first_row : (rows : List EntryRow) (ssrc : ℕ) → Some ssrc ≡ first_ssrc rows → (row : EntryRow) × (rest : List EntryRow)
    × (rows ≡ row ∷ rest) × (row.0 ≡ ssrc)
first_row [] ssrc is = absurd (cc)
first_row (row ∷ rest) ssrc is = (row, rest, refl, cc)

-- What is known of a block that is written after the others.
pub record IsNext (t ssrc : ℕ) (table after : TableValue) (block : ReportBlock) (mid new : List ℕ) (at end : ℕ) : Type 0
  where
    pub made : Some block ≡ block_at ssrc t table
    pub moved : after ≡ after_block ssrc table
    pub can : IsWritableBlock block
    pub fits : IsBlockInRange block
    pub put : IsPut mid new at (written_block block) end

cons_given : {A : Type 0} {given : Option A} {x : A} → given ≡ Some x → cons_option given [] ≡ x ∷ []
cons_given {A = A} is = ap (λ (o : Option A). cons_option o []) is

one_taken : (t : ℕ) (row : EntryRow) (last : Option ℕ) (table after : TableValue) (block : ReportBlock) →
    blocks_of t (row ∷ []) ≡ block ∷ [] → after ≡ after_block row.0 table → IsWritableBlock block →
    IsBlockInRange block → IsTakenFrom t (row ∷ []) last table (Some row.0) after
one_taken t row last table after block is moved can fits =
    record {
      count = ap (λ (b : List ReportBlock). length b) is;
      writable = All-same IsWritableBlock _ _ is (All-cons IsWritableBlock block [] can (All-nil IsWritableBlock));
      in_range = All-same IsBlockInRange _ _ is (All-cons IsBlockInRange block [] fits (All-nil IsBlockInRange));
      content = moved;
      cursor_is = refl;
    }

one_more_at : {t : ℕ} {first last : Option ℕ} {start table after : TableValue} {at count end : ℕ}
    {old mid new : List ℕ} {block : ReportBlock} (row : EntryRow) (rest : List EntryRow) →
    IsTaken t first start last table at count old mid → pending last table ≡ row ∷ rest →
    IsNext t row.0 table after block mid new (at + 24 * count) end
    → IsTaken t first start (Some row.0) after at (count + 1) old new
one_more_at {t} {first} {last} {start} {table} {after} {at} {count} {end} {old} {mid} {new} {block} row rest taken waits
    next =
    let here : blocks_of t (row ∷ []) ≡ block ∷ [] =
    cons_given (sym (first_is_due-block t last table row rest waits) ∙ sym next.made) in
    let octets : flat_map written_block (blocks_of t taken.prefix) ++ written_block block
    ≡ flat_map written_block (blocks_of t (taken.prefix ++ row ∷ [])) =
    sym (ap (λ (b : List ReportBlock). flat_map written_block b) (blocks_of_all t taken.prefix (row ∷ [])
    ∙ ap (λ (b : List ReportBlock). blocks_of t taken.prefix ++ b) here)
    ∙ flat_map-append written_block (blocks_of t taken.prefix) (block ∷ [])) in
    let place : end ≡ at + 24 * (count + 1) = omega (arith, next.put.ends) in
    record {
      prefix = taken.prefix ++ row ∷ [];
      rest = rest;
      parts = taken.parts ∙ ap (λ (r : List EntryRow). taken.prefix ++ r) (sym taken.waits ∙ waits)
          ∙ sym (append_assoc taken.prefix (row ∷ []) rest);
      waits = ap (λ (x : TableValue). pending (Some row.0) x) next.moved
          ∙ others_stay_pending last table row rest waits;
      taken = taken_both taken.taken (one_taken t row last table after block here next.moved next.can next.fits);
      counted = omega (arith, taken.counted, length-append taken.prefix (row ∷ []));
      put = subst (λ (part : List ℕ). IsPut old new at part (at + 24 * (count + 1))) octets
          (subst (IsPut old new at (flat_map written_block (blocks_of t taken.prefix) ++ written_block block)) place
          (put_after taken.put next.put));
    }

pub one_more : {t : ℕ} {first last : Option ℕ} {start table after : TableValue} {at count end : ℕ}
    {old mid new : List ℕ} {block : ReportBlock} {ssrc : ℕ} →
    IsTaken t first start last table at count old mid → Some ssrc ≡ first_ssrc (pending last table) →
    IsNext t ssrc table after block mid new (at + 24 * count) end
    → IsTaken t first start (Some ssrc) after at (count + 1) old new
one_more {t} {first} {last} {start} {table} {after} {at} {count} {end} {old} {mid} {new} {block} {ssrc} taken is next =
    let found = first_row (pending last table) ssrc is in
    subst (λ (s : ℕ). IsNext t s table after block mid new (at + 24 * count) end →
    IsTaken t first start (Some s) after at (count + 1) old new) found.3
    (λ next. one_more_at found.0 found.1 taken found.2 next) next

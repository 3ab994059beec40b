-- Lemmas on what the parts of a run over lines leave.
use Rattle.std.proofs.Common.{Bool, false, eqb, ◌≡◌, ◌≢◌, ℕ, ◌+◌, ◌<◌, ◌≤◌, inl, inr, List, [], ◌∷◌, ◌++◌, length, Option, Some, None, Result, Ok, Err, refl, sym, ◌∙◌, ap, subst, append_assoc, append-nil, arith, length-append}
use Rattle.std.specs.List.{flat_map}
use Rattle.std.specs.Prelude.{OnOk, IsOkUnless}
use Rattle.std.specs.Result.{IsErrAnd}
use Rattle.std.proofs.lemmas.Result.{err_from_is_err_and}
use Rattle.std.proofs.lemmas.Bool.{false≢true}
use Rattle.std.proofs.lemmas.List.Concat.{flat_map-append}
use Rattle.std.proofs.lemmas.List.Elements.{All-nil, All-cons, All-append}
use Rattle.rtcp_text.specs.declared.fault.LineFault.{LineFault}
use Rattle.rtcp_text.specs.declared.fault.LineFault.TheVariants.{LineTooLong, TooManyLines}
use Rattle.rtcp_text.specs.declared.fault.TextFault.{TextFault}
use Rattle.rtcp_text.specs.declared.fault.TextFault.TheVariants.{Text, Read, Write, Memory}
use Rattle.rtcp_text.specs.Lines.{lines_of, HasNoLineFeed, BeginsWithLines, Answering, Refusing, IsTextBy, IsTextFrom}
use Rattle.rtcp_text.specs.Progress.{IsBetween, LineLeaves, AnswersLine, AnswersLines, PartLeaves, EndLeaves, Lengthens, IsAfterLine}
use Rattle.rtcp_text.proofs.LinesLemmas.{lines_of-line, lines_of-part, lines_of-some, lines_of-last, lines_of-begins, IsTextBy-append}

-- the lines with their line feeds
abbrev joined : List (List ℕ) → List ℕ
joined lines = flat_map (λ line. line ++ 10 ∷ []) lines

-- Lines, and then more lines.
pub BeginsWithLines-append : (octets more : List ℕ) (lines others : List (List ℕ)) (rest last : List ℕ)
    → BeginsWithLines octets lines rest → BeginsWithLines (rest ++ more) others last →
    BeginsWithLines (octets ++ more) (lines ++ others) last
BeginsWithLines-append octets more lines others rest last first second = record {
  parts =
      ap (λ l. l ++ more) first.parts ∙ append_assoc (joined lines) rest more
      ∙ ap (λ l. joined lines ++ l) second.parts ∙ sym (append_assoc (joined lines) (joined others) last)
      ∙ ap (λ l. l ++ last) (sym (flat_map-append (λ line. line ++ 10 ∷ []) lines others));
  each = All-append HasNoLineFeed lines others first.each second.each;
}

-- What comes after becomes part of the rest.
pub BeginsWithLines-longer : (octets more : List ℕ) (lines : List (List ℕ)) (rest : List ℕ)
    → BeginsWithLines octets lines rest → BeginsWithLines (octets ++ more) lines (rest ++ more)
BeginsWithLines-longer octets more lines rest begins = record {
  parts = ap (λ l. l ++ more) begins.parts ∙ append_assoc (joined lines) rest more;
  each = begins.each;
}

-- Something stays something.
pub ne-append : (rest more : List ℕ) → rest ≢ [] → rest ++ more ≢ []
ne-append [] more some = absurd (some refl)
ne-append (octet ∷ rest) more some = λ e. cc

-- The next part's number is that of the line after those that are answered.
next_number : (n answered count : ℕ) → answered ≡ n + count → answered + 1 ≡ (n + 1) + count
next_number n answered count number = omega arith

-- One line with its line feed.
one_line : (line : List ℕ) → HasNoLineFeed line → BeginsWithLines (line ++ 10 ∷ []) (line ∷ []) []
one_line line part = record {
  parts = sym (append-nil (joined (line ∷ [])) ∙ append-nil (line ++ 10 ∷ []));
  each = All-cons HasNoLineFeed line [] part (All-nil HasNoLineFeed);
}

feed_after : (line : List ℕ) → line ++ 10 ∷ [] ≢ []
feed_after [] = λ e. cc
feed_after (octet ∷ line) = λ e. cc

-- something begins with an octet
first_of_some : (octets : List ℕ) → octets ≢ [] → (octet : ℕ) × (rest : List ℕ) × (octets ≡ octet ∷ rest)
first_of_some [] some = absurd (some refl)
first_of_some (octet ∷ rest) some = (octet, rest, refl)

some_after : (prefix rest : List ℕ) → rest ≢ [] → prefix ++ rest ≢ []
some_after [] rest some = some
some_after (octet ∷ prefix) rest some = λ e. cc

pub some_from_test : (b : Bool) (octets : List ℕ) → b ≡ false → b ≡ eqb (length octets) 0 → octets ≢ []
some_from_test b octets is_false test e =
    let zero_long : length octets ≡ 0 = ap length e in
    false≢true (sym is_false ∙ test ∙ ap (λ m. eqb m 0) zero_long)

-- A line ends at its line feed.
cut_at_feed : (rest piece after others : List ℕ) (octet : ℕ) → rest ≡ piece ++ after → after ≡ octet ∷ others →
    IsAfterLine after
    → rest ≡ piece ++ 10 ∷ others
cut_at_feed rest piece after others octet cut e feed =
    let is_feed : octet ≡ 10 = subst IsAfterLine e feed in
    cut ∙ ap (λ l. piece ++ l) (e ∙ ap (λ o. o ∷ others) is_feed)

module _ {S : Type 0} (most : ℕ) (answers : Answering S) (refuses : Refusing) where
  module _ (n answered : ℕ) (state between : S) (octets rest text more : List ℕ)
      (first : AnswersLines most answers refuses n state octets answered between rest text) where
    moved : (others : List (List ℕ)) (text' : List ℕ) (end : Option (ℕ × LineFault)) (last : S) →
        IsTextBy most answers refuses (answered + 1) between others text' end last
        → IsTextBy most answers refuses (n + 1) state (first.lines ++ others) (text ++ text') end last
    moved others text' end last second =
        IsTextBy-append most answers refuses (n + 1) state between last first.lines others text text' end first.texts
        (subst (λ m. IsTextBy most answers refuses m between others text' end last)
        (next_number n answered (length first.lines) first.number) second)

    -- One part after the other.
    pub PartLeaves-after : {A : Type 0} (r : Result A TextFault) (answered' : ℕ) (last : S) (rest' text' : List ℕ)
        → PartLeaves most answers refuses r answered between (rest ++ more) answered' last rest' text'
        → PartLeaves most answers refuses r n state (octets ++ more) answered' last rest' (text ++ text')
    PartLeaves-after (Ok x) answered' last rest' text' second = record {
      lines = first.lines ++ second.lines;
      begins = BeginsWithLines-append octets more first.lines second.lines rest rest' first.begins second.begins;
      number = let l = length-append first.lines second.lines in omega arith;
      texts = moved second.lines text' None last second.texts;
    }
    PartLeaves-after (Err (Text number fault)) answered' last rest' text' second = λ after.
        let found = second after in (
          found.0,
          subst (λ lines. IsTextBy most answers refuses (n + 1) state lines (text ++ text') (Some (number, fault))
              found.0)
              (sym (ap lines_of (append_assoc octets more after)
              ∙ lines_of-begins _ first.lines _
              (BeginsWithLines-longer octets (more ++ after) first.lines rest first.begins)
              ∙ ap (λ l. first.lines ++ lines_of l) (sym (append_assoc rest more after))))
              (moved (lines_of ((rest ++ more) ++ after)) text' (Some (number, fault)) found.0 found.1),
        )
    PartLeaves-after (Err Memory) answered' last rest' text' second = record {
      lines = first.lines ++ second.lines;
      rest = second.rest;
      some = second.some;
      begins = BeginsWithLines-append octets more first.lines second.lines rest second.rest first.begins second.begins;
      texts = (second.texts.0, moved second.lines text' None second.texts.0 second.texts.1);
    }
    PartLeaves-after (Err Write) answered' last rest' text' second = record {
      lines = first.lines ++ second.lines;
      rest = second.rest;
      more = second.more;
      begins = BeginsWithLines-append octets more first.lines second.lines rest second.rest first.begins second.begins;
      texts = subst (λ t. IsTextFrom most answers refuses (n + 1) state (first.lines ++ second.lines) t None)
          (sym (append_assoc text text' second.more))
          (second.texts.0, moved second.lines (text' ++ second.more) None second.texts.0 second.texts.1);
    }
    PartLeaves-after (Err Read) answered' last rest' text' second = absurd second

  -- A fault stays, whatever comes after the octets.
  pub PartLeaves-longer : (fault : TextFault) (n answered answered' : ℕ) (state next next' : S)
      (octets more rest rest' text : List ℕ)
      → PartLeaves most answers refuses {A = Unit {0}} (Err fault) n state octets answered next rest text
      → PartLeaves most answers refuses {A = Unit {0}} (Err fault) n state (octets ++ more) answered' next' rest' text
  PartLeaves-longer (Text number fault) n answered answered' state next next' octets more rest rest' text first =
      λ after.
      subst (λ l. IsTextFrom most answers refuses (n + 1) state (lines_of l) text (Some (number, fault)))
      (sym (append_assoc octets more after)) (first (more ++ after))
  PartLeaves-longer Memory n answered answered' state next next' octets more rest rest' text first = record {
    lines = first.lines;
    rest = first.rest ++ more;
    some = ne-append first.rest more first.some;
    begins = BeginsWithLines-longer octets more first.lines first.rest first.begins;
    texts = first.texts;
  }
  PartLeaves-longer Write n answered answered' state next next' octets more rest rest' text first = record {
    lines = first.lines;
    rest = first.rest ++ more;
    more = first.more;
    begins = BeginsWithLines-longer octets more first.lines first.rest first.begins;
    texts = first.texts;
  }
  PartLeaves-longer Read n answered answered' state next next' octets more rest rest' text first = absurd first

  -- An answered line is a part.
  pub PartLeaves-line : {A : Type 0} (r : Result A TextFault) (n : ℕ) (state next : S) (line text : List ℕ) →
      HasNoLineFeed line
      → LineLeaves most answers refuses r (n + 1) state line text next →
      PartLeaves most answers refuses r n state (line ++ 10 ∷ []) (n + 1) next [] text
  PartLeaves-line (Ok x) n state next line text part leaves =
      record { lines = line ∷ []; begins = one_line line part; number = refl; texts = leaves }
  PartLeaves-line (Err (Text number fault)) n state next line text part leaves = λ after.
      subst (λ lines. IsTextFrom most answers refuses (n + 1) state lines text (Some (number, fault)))
      (sym (ap lines_of (append_assoc line (10 ∷ []) after) ∙ lines_of-line line after part)) (leaves (lines_of after))
  PartLeaves-line (Err Memory) n state next line text part leaves = record {
    lines = [];
    rest = line ++ 10 ∷ [];
    some = feed_after line;
    begins = record { parts = refl; each = All-nil HasNoLineFeed };
    texts = (state, (leaves, refl, refl));
  }
  PartLeaves-line (Err Write) n state next line text part leaves =
      record { lines = line ∷ []; rest = []; more = leaves.0; begins = one_line line part; texts = leaves.1 }
  PartLeaves-line (Err Read) n state next line text part leaves = absurd leaves

  -- A line too many comes after n lines.
  too_many : (n number : ℕ) (state : S) (octets : List ℕ) → octets ≢ [] → number ≡ n + 1 → most ≤ n
      → IsTextFrom most answers refuses (n + 1) state (lines_of octets) [] (Some (number, TooManyLines))
  too_many n number state octets some e h =
      let first = first_of_some octets some in
      let found = lines_of-some first.0 first.1 in
      let late : most < n + 1 = omega arith in
      subst (λ lines. IsTextFrom most answers refuses (n + 1) state lines [] (Some (number, TooManyLines)))
      (sym (ap lines_of first.2 ∙ found.2))
      (state, inl (TooManyLines, inl (refl, late), refl, ap (λ m. Some (m, TooManyLines)) e, refl))

  -- A line that is too long comes after n lines.
  too_long : (n number : ℕ) (state : S) (part more : List ℕ) → HasNoLineFeed part → 131200 < length part →
      number ≡ n + 1 → n < most
      → IsTextFrom most answers refuses (n + 1) state (lines_of (part ++ more)) [] (Some (number, LineTooLong))
  too_long n number state [] more each long e few = absurd (omega arith)
  too_long n number state (octet ∷ part) more each long e few =
      let found = lines_of-part octet part more each in
      let size = length-append (octet ∷ part) found.0 in
      let early : n + 1 ≤ most = omega arith in
      let longer : 131200 < length ((octet ∷ part) ++ found.0) = omega arith in
      subst (λ lines. IsTextFrom most answers refuses (n + 1) state lines [] (Some (number, LineTooLong))) (sym found.2)
      (state, inl (LineTooLong, inr (inl (refl, early, longer)), refl, ap (λ m. Some (m, LineTooLong)) e, refl))

  -- The pending part could not be made longer.
  PartLeaves-lengthens : (fault : TextFault) (n answered' : ℕ) (state next : S)
      (pending piece after longer rest' : List ℕ) → HasNoLineFeed pending → HasNoLineFeed piece
      → piece ++ after ≢ [] → Lengthens most {A = Unit {0}} (Err fault) n pending piece longer
      → PartLeaves most answers refuses {A = Unit {0}} (Err fault) n state (pending ++ (piece ++ after)) answered' next
      rest' []
  PartLeaves-lengthens (Text number TooManyLines) n answered' state next pending piece after longer rest' part each some
      h = λ more.
      too_many n number state _ (ne-append _ more (some_after pending _ some)) h.0 h.1
  PartLeaves-lengthens (Text number LineTooLong) n answered' state next pending piece after longer rest' part each some
      h = λ more.
      subst (λ l. IsTextFrom most answers refuses (n + 1) state (lines_of l) [] (Some (number, LineTooLong)))
      (append_assoc pending piece (after ++ more) ∙ ap (λ l. pending ++ l) (sym (append_assoc piece after more))
      ∙ sym (append_assoc pending (piece ++ after) more))
      (too_long n number state (pending ++ piece) (after ++ more)
      (All-append (λ octet. octet ≢ 10) pending piece part each) h.2 h.0 h.1)
  PartLeaves-lengthens Memory n answered' state next pending piece after longer rest' part each some h = record {
    lines = [];
    rest = pending ++ (piece ++ after);
    some = some_after pending _ some;
    begins = record { parts = refl; each = All-nil HasNoLineFeed };
    texts = (state, (refl, refl, refl));
  }
  PartLeaves-lengthens fault n answered' state next pending piece after longer rest' part each some h = absurd h

  -- The line that was put together is the one that is answered.
  pub LineLeaves-longer : {A : Type 0} (r : Result A TextFault) (n n' : ℕ) (state state' next : S)
      (line line' text : List ℕ) → n' ≡ n → state' ≡ state → line' ≡ line
      → LineLeaves most answers refuses r (n' + 1) state' line' text next →
      LineLeaves most answers refuses r (n + 1) state line text next
  LineLeaves-longer r n n' state state' next line line' text number same made leaves =
      subst (λ m. LineLeaves most answers refuses r (m + 1) state line text next) number
      (subst (λ s. LineLeaves most answers refuses r (n' + 1) s line text next) same
      (subst (λ l. LineLeaves most answers refuses r (n' + 1) state' l text next) made leaves))

  -- ---- a block, of which a prefix is answered and the rest is left

  module _ (n answered : ℕ) (state between : S) (old prefix rest block pending text : List ℕ)
      (first : AnswersLines most answers refuses n state (old ++ prefix) answered between pending text)
      (parts : block ≡ prefix ++ rest) where
    in_block : (old ++ prefix) ++ rest ≡ old ++ block
    in_block = append_assoc old prefix rest ∙ ap (λ l. old ++ l) (sym parts)

    -- The next line could not be taken.
    pub block_refused : (fault : TextFault) (answered' : ℕ) (next : S) (piece after longer rest' : List ℕ) →
        HasNoLineFeed pending → HasNoLineFeed piece
        → rest ≡ piece ++ after → rest ≢ [] → Lengthens most {A = Unit {0}} (Err fault) answered pending piece longer
        → PartLeaves most answers refuses {A = Unit {0}} (Err fault) n state (old ++ block) answered' next rest' text
    block_refused fault answered' next piece after longer rest' part each cut some h =
        let here = PartLeaves-lengthens fault answered answered' between next pending piece after longer rest' part each
        (λ e. some (cut ∙ e)) h in
        let here' = subst (λ l. PartLeaves most answers refuses {A = Unit {0}} (Err fault) answered between
        (pending ++ l) answered' next rest' []) (sym cut) here in
        let all = PartLeaves-after n answered state between (old ++ prefix) pending text rest first {A = Unit {0}}
        (Err fault) answered' next rest' [] here' in
        subst (λ t. PartLeaves most answers refuses {A = Unit {0}} (Err fault) n state (old ++ block) answered' next
        rest' t) (append-nil text)
        (subst (λ l. PartLeaves most answers refuses {A = Unit {0}} (Err fault) n state l answered' next rest'
        (text ++ [])) in_block all)

    -- The next line could not be answered.
    pub block_failed : (fault : TextFault) (answered' : ℕ) (next : S) (piece others rest' text' : List ℕ) →
        HasNoLineFeed pending → HasNoLineFeed piece
        → rest ≡ piece ++ 10 ∷ others → LineLeaves most answers refuses {A = Unit {0}} (Err fault) (answered + 1)
        between (pending ++ piece) text' next
        → PartLeaves most answers refuses {A = Unit {0}} (Err fault) n state (old ++ block) answered' next rest'
        (text ++ text')
    block_failed fault answered' next piece others rest' text' part each cut leaves =
        let line = pending ++ piece in
        let here = PartLeaves-line {A = Unit {0}} (Err fault) answered between next line text'
        (All-append (λ octet. octet ≢ 10) pending piece part each) leaves in
        let longer = PartLeaves-longer fault answered (answered + 1) answered' between next next (line ++ 10 ∷ [])
        others [] rest' text' here in
        let same : (line ++ 10 ∷ []) ++ others ≡ pending ++ rest =
        append_assoc line (10 ∷ []) others ∙ append_assoc pending piece (10 ∷ others)
        ∙ ap (λ l. pending ++ l) (sym cut) in
        let here' = subst (λ l. PartLeaves most answers refuses {A = Unit {0}} (Err fault) answered between l answered'
        next rest' text') same longer in
        let all = PartLeaves-after n answered state between (old ++ prefix) pending text rest first {A = Unit {0}}
        (Err fault) answered' next rest' text' here' in
        subst (λ l. PartLeaves most answers refuses {A = Unit {0}} (Err fault) n state l answered' next rest'
        (text ++ text')) in_block all

    -- The next line is answered.
    pub block_answered : (x : Unit {0}) (next : S) (piece others text' : List ℕ) → HasNoLineFeed pending →
        HasNoLineFeed piece
        → rest ≡ piece ++ 10 ∷ others → LineLeaves most answers refuses {A = Unit {0}} (Ok x) (answered + 1) between
        (pending ++ piece) text' next
        → (block ≡ (prefix ++ (piece ++ 10 ∷ [])) ++ others)
        × AnswersLines most answers refuses n state (old ++ (prefix ++ (piece ++ 10 ∷ []))) (answered + 1) next []
        (text ++ text')
    block_answered x next piece others text' part each cut leaves =
        let line = pending ++ piece in
        let here = PartLeaves-line {A = Unit {0}} (Ok x) answered between next line text'
        (All-append (λ octet. octet ≢ 10) pending piece part each) leaves in
        let here' = subst (λ l. AnswersLines most answers refuses answered between l (answered + 1) next [] text')
        (append_assoc pending piece (10 ∷ [])) here in
        let all = PartLeaves-after n answered state between (old ++ prefix) pending text (piece ++ 10 ∷ []) first
        {A = Unit {0}} (Ok x) (answered + 1) next [] text' here' in (
          parts ∙ ap (λ l. prefix ++ l) (cut ∙ sym (append_assoc piece (10 ∷ []) others))
              ∙ sym (append_assoc prefix (piece ++ 10 ∷ []) others),
          subst (λ l. AnswersLines most answers refuses n state l (answered + 1) next [] (text ++ text'))
              (append_assoc old prefix (piece ++ 10 ∷ [])) all,
        )

    -- The line that was cut could not be answered.
    pub turn_failed : (fault : TextFault) (octet answered' answered'' : ℕ) (between' next : S)
        (piece after others longer rest' text' : List ℕ) → HasNoLineFeed pending → HasNoLineFeed piece
        → rest ≡ piece ++ after → after ≡ octet ∷ others → IsAfterLine after → longer ≡ pending ++ piece →
        answered'' ≡ answered → between' ≡ between
        → LineLeaves most answers refuses {A = Unit {0}} (Err fault) (answered'' + 1) between' longer text' next
        → PartLeaves most answers refuses {A = Unit {0}} (Err fault) n state (old ++ block) answered' next rest'
        (text ++ text')
    turn_failed fault octet answered' answered'' between' next piece after others longer rest' text' part each cut e
        feed made same kept leaves =
        block_failed fault answered' next piece others rest' text' part each
        (cut_at_feed rest piece after others octet cut e feed)
        (LineLeaves-longer {A = Unit {0}} (Err fault) answered answered'' between between' next (pending ++ piece)
        longer text' same kept made leaves)

    -- The line that was cut is answered.
    pub turn_answered : (x : Unit {0}) (octet answered' answered'' : ℕ) (between' next : S)
        (piece after others longer rest' text' : List ℕ) → HasNoLineFeed pending → HasNoLineFeed piece
        → rest ≡ piece ++ after → after ≡ octet ∷ others → IsAfterLine after → longer ≡ pending ++ piece →
        answered'' ≡ answered → between' ≡ between
        → answered' ≡ answered'' + 1 → rest' ≡ []
        → LineLeaves most answers refuses {A = Unit {0}} (Ok x) (answered'' + 1) between' longer text' next
        → (block ≡ (prefix ++ (piece ++ 10 ∷ [])) ++ others)
        × AnswersLines most answers refuses n state (old ++ (prefix ++ (piece ++ 10 ∷ []))) answered' next rest'
        (text ++ text')
    turn_answered x octet answered' answered'' between' next piece after others longer rest' text' part each cut e feed
        made same kept number none leaves =
        let found = block_answered x next piece others text' part each
        (cut_at_feed rest piece after others octet cut e feed)
        (LineLeaves-longer {A = Unit {0}} (Ok x) answered answered'' between between' next (pending ++ piece) longer
        text' same kept made leaves) in (
          found.0,
          subst (λ m. AnswersLines most answers refuses n state (old ++ (prefix ++ (piece ++ 10 ∷ []))) m next rest'
              (text ++ text')) (sym (number ∙ ap (λ m. m + 1) same))
              (subst (λ l. AnswersLines most answers refuses n state (old ++ (prefix ++ (piece ++ 10 ∷ [])))
              (answered + 1) next l (text ++ text')) (sym none) found.1),
        )

  -- ---- one line

  -- The line is answered by this text.
  pub LineLeaves-answered : (x : Unit {0}) (n : ℕ) (state next : S) (line text : List ℕ) → n ≤ most →
      length line ≤ 131200 → answers state line text next
      → LineLeaves most answers refuses {A = Unit {0}} (Ok x) n state line text next
  LineLeaves-answered x n state next line text few short is_answer =
      inr (text, next, [], few, short, is_answer, sym (append-nil text), (refl, refl, refl))

  -- There is no answer.
  pub LineLeaves-failed : (fault : TextFault) (n : ℕ) (state next next' : S) (line text : List ℕ) → n ≤ most →
      length line ≤ 131200
      → AnswersLine answers refuses {A = Unit {0}} (Err fault) n state line text next' →
      LineLeaves most answers refuses {A = Unit {0}} (Err fault) n state line [] next
  LineLeaves-failed (Text number fault) n state next next' line text few short (same, refused) = λ others.
      (state, inl (fault, inr (inr (few, short, refused)), refl, ap (λ m. Some (m, fault)) same, refl))
  LineLeaves-failed Memory n state next next' line text few short leaves = refl
  LineLeaves-failed fault n state next next' line text few short leaves = absurd leaves

  -- A prefix of the answer is written.
  pub LineLeaves-cut : (n : ℕ) (state next next' : S) (line text prefix more : List ℕ) → n ≤ most →
      length line ≤ 131200 → answers state line text next
      → text ≡ prefix ++ more → LineLeaves most answers refuses {A = Unit {0}} (Err Write) n state line prefix next'
  LineLeaves-cut n state next next' line text prefix more few short is_answer parts = (
    more,
    (
      next,
      subst (λ t. IsTextBy most answers refuses n state (line ∷ []) t None next) parts
          (LineLeaves-answered tt n state next line text few short is_answer),
    ),
  )

  -- As much of the answer is written as the outcome says.
  pub LineLeaves-written : (r : Result (Unit {0}) TextFault) (n : ℕ) (state next : S) (line text prefix more : List ℕ) →
      n ≤ most → length line ≤ 131200
      → answers state line text next → IsOkUnless r Write → OnOk r (more ≡ []) → text ≡ prefix ++ more →
      LineLeaves most answers refuses r n state line prefix next
  LineLeaves-written (Ok x) n state next line text prefix more few short is_answer only whole parts =
      let same : text ≡ prefix = parts ∙ ap (λ m. prefix ++ m) whole ∙ append-nil prefix in
      subst (λ t. LineLeaves most answers refuses {A = Unit {0}} (Ok x) n state line t next) same
      (LineLeaves-answered x n state next line text few short is_answer)
  LineLeaves-written (Err fault) n state next line text prefix more few short is_answer only whole parts =
      subst (λ f. LineLeaves most answers refuses {A = Unit {0}} (Err f) n state line prefix next) (sym only)
      (LineLeaves-cut n state next next line text prefix more few short is_answer parts)

  -- The line could not be made longer.
  pub LineLeaves-refused : (fault : TextFault) (n : ℕ) (state next : S) (pending piece longer : List ℕ) →
      Lengthens most {A = Unit {0}} (Err fault) n pending piece longer
      → LineLeaves most answers refuses {A = Unit {0}} (Err fault) (n + 1) state (pending ++ piece) [] next
  LineLeaves-refused (Text number TooManyLines) n state next pending piece longer (same, late) = λ others.
      (state, inl (TooManyLines, inl (refl, omega (arith, late)), refl, ap (λ m. Some (m, TooManyLines)) same, refl))
  LineLeaves-refused (Text number LineTooLong) n state next pending piece longer (same, early, long) = λ others. (
    state,
    inl (
      LineTooLong,
      inr (inl (refl, omega (arith, early), long)),
      refl,
      ap (λ m. Some (m, LineTooLong)) same,
      refl,
    ),
  )
  LineLeaves-refused Memory n state next pending piece longer h = refl
  LineLeaves-refused fault n state next pending piece longer h = absurd h

  -- Nothing is pending at the end.
  pub EndLeaves-none : (x : Unit {0}) (n : ℕ) (state : S) (octets : List ℕ) → length octets ≡ 0 →
      EndLeaves most answers refuses {A = Unit {0}} (Ok x) n state octets []
  EndLeaves-none x n state [] none = (state, (refl, refl, refl))
  EndLeaves-none x n state (octet ∷ octets) none = absurd (omega arith)

  -- The last line has no line feed.
  pub EndLeaves-line : {A : Type 0} (r : Result A TextFault) (n : ℕ) (state next : S) (line text : List ℕ) →
      HasNoLineFeed line → 0 < length line
      → LineLeaves most answers refuses r (n + 1) state line text next →
      EndLeaves most answers refuses r n state line text
  EndLeaves-line r n state next [] text part some leaves = absurd (omega arith)
  EndLeaves-line (Ok x) n state next (octet ∷ line) text part some leaves = (
    next,
    subst (λ lines. IsTextBy most answers refuses (n + 1) state lines text None next)
        (sym (lines_of-last octet line part)) leaves,
  )
  EndLeaves-line (Err (Text number fault)) n state next (octet ∷ line) text part some leaves =
      subst (λ lines. IsTextFrom most answers refuses (n + 1) state lines text (Some (number, fault)))
      (sym (lines_of-last octet line part)) (leaves [])
  EndLeaves-line (Err Memory) n state next (octet ∷ line) text part some leaves = ((λ e. cc), leaves)
  EndLeaves-line (Err Write) n state next (octet ∷ line) text part some leaves = (
    leaves.0,
    subst (λ lines. IsTextFrom most answers refuses (n + 1) state lines (text ++ leaves.0) None)
        (sym (lines_of-last octet line part)) leaves.1,
  )
  EndLeaves-line (Err Read) n state next (octet ∷ line) text part some leaves = absurd leaves

-- ---- between two lines

pub IsBetween-none : (most answered : ℕ) → answered ≤ most → IsBetween most answered []
IsBetween-none most answered few = record {
  few = few;
  short = omega arith;
  part = All-nil (λ octet. octet ≢ 10);
  room = λ h. absurd (omega arith);
}

-- The answer leaves nothing pending.
pub IsBetween-answered : (most answered answered' answered'' : ℕ) (rest : List ℕ) → answered < most →
    answered'' ≡ answered → answered' ≡ answered'' + 1 → rest ≡ [] → IsBetween most answered' rest
IsBetween-answered most answered answered' answered'' rest room same next none =
    subst (IsBetween most answered') (sym none) (IsBetween-none most answered' (omega arith))

-- ---- the exit of a `?`

-- What holds at the fault holds of what the exit returns.
pub at_exit : {A : Type 0} (P : Result A TextFault → Type 0) (r : Result A TextFault) (fault : TextFault) →
    IsErrAnd r (λ e. e ≡ fault) → P (Err fault) → P r
at_exit P r fault exit holds =
    let found = err_from_is_err_and r exit in
    subst P (sym (found.1 ∙ ap Err found.2)) holds

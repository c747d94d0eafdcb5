-- Lines of a journal that are asked for, found one after another, page by page.
use Rattle.std.proofs.Common.{◌≡◌, ◌≤◌, ◌⊎◌, inl, inr, ℕ, suc, ◌+◌, Bool, true, false, cond, List, []}
use Rattle.std.proofs.Common.{◌∷◌, ◌++◌, map, filter, length, take, drop, nat_lt, slice_get, Option, None, Some, refl}
use Rattle.std.proofs.Common.{sym, ap, ◌∙◌, subst, arith, ◌&&◌, ◌==◌}
use Rattle.std.specs.List.{enumerate_from}
use Rattle.std.proofs.Math.Bool.{and-true}
use Rattle.std.proofs.lemmas.Bool.{cases_lt, lt-ltb}
use Rattle.std.proofs.lemmas.List.{append-nil, append_assoc, length-append, map-append, take-append-drop}
use Rattle.std.proofs.lemmas.List.{take-append-le, take_all}
use Rattle.std.proofs.lemmas.List.Elements.{filter-append}
use Rattle.sqlite.specs.Order.{Row}
use Rattle.mf_journal.specs.Chain.{line_of_row}
use Rattle.mf_journal.specs.declared.chain.JournalRow.{JournalRow}
use Rattle.mf_journal.specs.declared.following.Head.{Head}
use Rattle.mf_lists.specs.Changes.{change_line, change_lines, changes_of_loan}
use Rattle.mf_lists.specs.declared.lines.ChangeLine.{ChangeLine}
use Rattle.mf_model.specs.Institution.{JournalLine}
use Rattle.mf_store_journal.specs.Index.{index_entry, is_line_sought, is_sought}
use Rattle.mf_store_journal.specs.Rows.{filed_after}
use Rattle.mf_store_journal.specs.Written.{HasLines}
use Rattle.mf_store_journal.specs.declared.journal.Journal.{Journal}
use Rattle.mf_store_noted.specs.Kept.{begins_of}
use Rattle.mf_store_sql.specs.Numbered.{shown_filed}
use Rattle.mf_store.specs.Sought.{AreNextRows}
use Rattle.mf_store_journal.proofs.PageLemmas.{size_of_rows, take_next}
use Rattle.mf_store_lists.specs.Changed.{AreFew, IsEnough, IsFound, IsFoundUpTo, Told, first_of, is_named, lines_asked}
use Rattle.mf_store_lists.specs.Changed.{sought_by, told_of}
use Rattle.mf_store_lists.specs.declared.changes.Asked.{Asked}

-- numbers go on behind those before
numbers_go_on : {X : Type 0} (n : ℕ) (xs ys : List X)
    → enumerate_from n (xs ++ ys) ≡ enumerate_from n xs ++ enumerate_from (n + length xs) ys
numbers_go_on n [] ys = ap (λ k. enumerate_from k ys) (let same : n ≡ n + 0 = omega arith in same)
numbers_go_on n (x ∷ xs) ys =
    let more : (n + 1) + length xs ≡ n + suc (length xs) = omega arith in
    ap (λ zs. (n, x) ∷ zs)
    (numbers_go_on (n + 1) xs ys ∙ ap (λ k. enumerate_from (n + 1) xs ++ enumerate_from k ys) more)

-- each number is above nothing
all_numbered : (n : ℕ) (ls : List JournalLine) → 1 ≤ n
    → filter (λ (c : ChangeLine). nat_lt 0 c.number) (map change_line (enumerate_from n ls))
    ≡ map change_line (enumerate_from n ls)
all_numbered n [] from = refl
all_numbered n (l ∷ ls) from =
    let more : 1 ≤ n + 1 = omega arith in
    let behind = map change_line (enumerate_from (n + 1) ls) in
    ap (λ b. cond b (change_line (n, l) ∷ filter (λ (c : ChangeLine). nat_lt 0 c.number) behind)
    (filter (λ (c : ChangeLine). nat_lt 0 c.number) behind)) (lt-ltb 0 n (omega (arith, from)))
    ∙ ap (λ cs. change_line (n, l) ∷ cs) (all_numbered (n + 1) ls more)

-- so all that is asked of a loan is told
pub loan_is : (a : Asked) (lines : List JournalLine) (loan : ℕ) → a.loan ≡ Some loan → a.after ≡ 0
    → told_of a lines ≡ changes_of_loan a.office loan lines
loan_is a lines loan is first =
    ap (λ n. filter (λ (c : ChangeLine). nat_lt n c.number) (change_lines (lines_asked a lines))) first
    ∙ all_numbered 1 (lines_asked a lines) (let one : 1 ≤ 1 = omega arith in one)
    ∙ ap (λ o. change_lines (filter (is_named a.office o) lines)) is

-- a journal that begins somewhere has lines
pub lines_kept : (journal : Option Journal) (kept : Option (List JournalLine)) (begins : Head)
    → begins_of journal ≡ Some begins → HasLines journal kept → (lines : List JournalLine) × (kept ≡ Some lines)
lines_kept None kept begins begun has = absurd (let no : None ≡ Some begins = begun in cc)
lines_kept (Some j) kept begins begun has = (has.0, has.1)

module _ (a : Asked) where
  -- it is told after the place that is asked for
  abbrev above : ChangeLine → Bool
  above c = nat_lt a.after c.number

  -- what is told of lines that are asked for, from a place on
  abbrev told_from : ℕ → List JournalLine → List ChangeLine
  told_from n ls = filter above (map change_line (enumerate_from n ls))

  lines_more : (xs ys : List JournalLine) → lines_asked a (xs ++ ys) ≡ lines_asked a xs ++ lines_asked a ys
  lines_more xs ys = filter-append (is_named a.office a.loan) xs ys

  -- more lines tell more
  pub told_more : (xs ys : List JournalLine)
      → told_of a (xs ++ ys) ≡ told_of a xs ++ told_from (1 + length (lines_asked a xs)) (lines_asked a ys)
  told_more xs ys =
      let before = lines_asked a xs in
      let behind = lines_asked a ys in
      ap (told_from 1) (lines_more xs ys)
      ∙ ap (λ ns. filter above (map change_line ns)) (numbers_go_on 1 before behind)
      ∙ ap (filter above) (map-append change_line (enumerate_from 1 before)
      (enumerate_from (1 + length before) behind))
      ∙ filter-append above (map change_line (enumerate_from 1 before))
      (map change_line (enumerate_from (1 + length before) behind))

  -- nothing is found of no lines
  pub found_none : (t : Told) → t.place ≡ 0 → t.lines ≡ [] → IsFound a [] t
  found_none t place none = record { place = place; told = none; few = few a.most }
    where
      few : (most : Option ℕ) → AreFew most t.lines
      few None = tt
      few (Some most) = let nothing : length t.lines ≡ 0 = ap length none in omega (arith, nothing)

  module _ (lines : List JournalLine) (l : JournalLine) (old new : Told) (found : IsFound a lines old) where
    -- a line that isn't asked for
    pub found_other : is_named a.office a.loan l ≡ false → new ≡ old → IsFound a (lines ++ l ∷ []) new
    found_other other kept = subst (IsFound a (lines ++ l ∷ [])) (sym kept) (record {
      place = found.place ∙ sym (ap length same);
      told = found.told ∙ sym (ap (told_from 1) same);
      few = found.few;
    })
      where
        same : lines_asked a (lines ++ l ∷ []) ≡ lines_asked a lines
        same = lines_more lines (l ∷ []) ∙ ap (λ b. lines_asked a lines ++ cond b (l ∷ []) []) other
            ∙ append-nil (lines_asked a lines)

    -- a line that is
    module _ (named : is_named a.office a.loan l ≡ true) (next : new.place ≡ old.place + 1) where
      one_more : lines_asked a (lines ++ l ∷ []) ≡ lines_asked a lines ++ l ∷ []
      one_more = lines_more lines (l ∷ []) ∙ ap (λ b. lines_asked a lines ++ cond b (l ∷ []) []) named

      its_place : new.place ≡ 1 + length (lines_asked a lines)
      its_place = let before = found.place in omega (arith, next, before)

      found_at : new.lines ≡ old.lines ++ cond (nat_lt a.after new.place)
          (change_line (new.place, l) ∷ []) [] → AreFew a.most new.lines → IsFound a (lines ++ l ∷ []) new
      found_at more few = record {
        place =
            let size = length-append (lines_asked a lines) (l ∷ []) in
            let all = ap length one_more in
            omega (arith, its_place, size, all);
        told = more ∙ ap (λ ls. ls ++ told_from new.place (l ∷ [])) found.told
            ∙ ap (λ n. told_of a lines ++ told_from n (l ∷ [])) its_place
            ∙ ap (λ b. told_of a lines ++ told_from (1 + length (lines_asked a lines)) (cond b (l ∷ []) []))
            (sym named)
            ∙ sym (told_more lines (l ∷ []));
        few = few;
      }

      -- it stands before those that are told
      pub found_early : nat_lt a.after new.place ≡ false → new.lines ≡ old.lines → IsFound a (lines ++ l ∷ []) new
      found_early early kept =
          found_at (kept ∙ sym (append-nil old.lines)
          ∙ ap (λ b. old.lines ++ cond b (change_line (new.place, l) ∷ []) [])
          (sym early))
          (subst (AreFew a.most) (sym kept) found.few)

      few_more : (most : Option ℕ) (xs : List ChangeLine) (x : ChangeLine) → (IsEnough most (length xs) → ⊥)
          → AreFew most (xs ++ x ∷ [])
      few_more None xs x not_all = tt
      few_more (Some most) xs x not_all = elim (cases_lt (length xs) most) [
        | inl less ↦ let size = length-append xs (x ∷ []) in omega (arith, less, size)
        | inr more ↦ absurd (not_all more)
      ]

      -- it is told
      pub found_told : nat_lt a.after new.place ≡ true → (IsEnough a.most (length old.lines) → ⊥)
          → new.lines ≡ old.lines ++ change_line (new.place, l) ∷ [] → IsFound a (lines ++ l ∷ []) new
      found_told late not_all more =
          found_at (more ∙ ap (λ b. old.lines ++ cond b (change_line (new.place, l) ∷ []) [])
          (sym late))
          (subst (AreFew a.most) (sym more) (few_more a.most old.lines (change_line (new.place, l)) not_all))

  -- a line is sought just where it is asked for
  same_named : (l : JournalLine) → is_line_sought (sought_by a) l ≡ is_named a.office a.loan l
  same_named l = go a.loan
    where
      go : (loan : Option ℕ) → is_sought (record { office = a.office; loan = loan; day = None }) (index_entry l)
          ≡ is_named a.office loan l
      go None = and-true (l.named_office == a.office)
      go (Some loan) = ap (λ b. (l.named_office == a.office) && b) (and-true (l.named_loan == loan))

  same_asked : (ls : List JournalLine) → filter (is_line_sought (sought_by a)) ls ≡ lines_asked a ls
  same_asked [] = refl
  same_asked (l ∷ ls) =
      ap (λ b. cond b (l ∷ filter (is_line_sought (sought_by a)) ls) (filter (is_line_sought (sought_by a)) ls))
      (same_named l)
      ∙ ap (λ xs. cond (is_named a.office a.loan l) (l ∷ xs) xs) (same_asked ls)

  -- nothing is found of lines that aren't sought
  pub found_skipped : (lines skipped : List JournalLine) (t : Told) → IsFound a lines t
      → filter (is_line_sought (sought_by a)) skipped ≡ [] → IsFound a (lines ++ skipped) t
  found_skipped lines skipped t found none =
      let same : lines_asked a (lines ++ skipped) ≡ lines_asked a lines =
      lines_more lines skipped ∙ ap (λ ls. lines_asked a lines ++ ls) (sym (same_asked skipped) ∙ none)
      ∙ append-nil (lines_asked a lines) in
      record {
        place = found.place ∙ sym (ap length same);
        told = found.told ∙ sym (ap (told_from 1) same);
        few = found.few;
      }

  -- what was found of all lines is what is told
  pub few_are : (lines : List JournalLine) (t : Told) → IsFound a lines t
      → t.lines ≡ first_of a.most (told_of a lines)
  few_are lines t found = go a.most found.few
    where
      go : (most : Option ℕ) → AreFew most t.lines → t.lines ≡ first_of most (told_of a lines)
      go None few = found.told
      go (Some most) few = sym (take_all most t.lines few) ∙ ap (take most) found.told

  -- and so is what was found of the first, where no more may be told
  pub all_are : (first more : List JournalLine) (t : Told) → IsFound a first t → IsEnough a.most (length t.lines)
      → t.lines ≡ first_of a.most (told_of a (first ++ more))
  all_are first more t found all = go a.most found.few all
    where
      behind : List ChangeLine
      behind = told_from (1 + length (lines_asked a first)) (lines_asked a more)

      go : (most : Option ℕ) → AreFew most t.lines → IsEnough most (length t.lines)
          → t.lines ≡ first_of most (told_of a (first ++ more))
      go None few all = absurd all
      go (Some most) few all =
          sym (take_all most t.lines few) ∙ sym (take-append-le most t.lines behind all)
          ∙ ap (λ ls. take most (ls ++ behind)) found.told ∙ ap (take most) (sym (told_more first more))

-- ---- rows one after another

-- the rows up to a place were found behind whatever was found before
abbrev pub FoundSoFar : Asked → List JournalRow → ℕ → Told → Told → Type 0
FoundSoFar a rows at was now = (before : List JournalLine) → IsFound a before was
    → IsFound a (before ++ map line_of_row (take at rows)) now

pub found_first : (a : Asked) (rows : List JournalRow) (t : Told) → FoundSoFar a rows 0 t t
found_first a rows t before found = subst (λ ls. IsFound a ls t) (sym (append-nil before)) found

pub found_next : (a : Asked) (rows : List JournalRow) (at : ℕ) (was now next : Told) (row : JournalRow)
    → slice_get rows at ≡ Some row → FoundSoFar a rows at was now
    → ((before : List JournalLine) → IsFound a before now → IsFound a (before ++ line_of_row row ∷ []) next)
    → FoundSoFar a rows (at + 1) was next
found_next a rows at was now next row there far step before found =
    let one : suc at ≡ at + 1 = omega arith in
    let first = map line_of_row (take at rows) in
    let more : first ++ line_of_row row ∷ [] ≡ map line_of_row (take (at + 1) rows) =
    sym (map-append line_of_row (take at rows) (row ∷ []))
    ∙ ap (map line_of_row) (sym (take_next rows at row there) ∙ ap (λ n. take n rows) one) in
    subst (λ ls. IsFound a ls next) (append_assoc before first (line_of_row row ∷ []) ∙ ap (λ ls. before ++ ls) more)
    (step (before ++ first) (far before found))

-- no more may be told
pub found_enough : (a : Asked) (rows : List JournalRow) (at count : ℕ) (was now : Told)
    → FoundSoFar a rows at was now → IsEnough a.most count → count ≡ length now.lines
    → (before : List JournalLine) → IsFound a before was → IsFoundUpTo a before (map line_of_row rows) now
found_enough a rows at count was now far enough is before found = record {
  first = map line_of_row (take at rows);
  rest = map line_of_row (drop at rows);
  are = ap (map line_of_row) (sym (take-append-drop at rows))
      ∙ map-append line_of_row (take at rows) (drop at rows);
  found = far before found;
  ends = inr (subst (IsEnough a.most) is enough);
}

-- all were found
pub found_all : (a : Asked) (rows : List JournalRow) (at : ℕ) (was now : Told) → FoundSoFar a rows at was now
    → length rows ≤ at → (before : List JournalLine) → IsFound a before was
    → IsFoundUpTo a before (map line_of_row rows) now
found_all a rows at was now far past before found = record {
  first = map line_of_row rows;
  rest = [];
  are = sym (append-nil (map line_of_row rows));
  found = subst (λ ls. IsFound a (before ++ map line_of_row ls) now) (take_all at rows past) (far before found);
  ends = inl refl;
}

-- ---- a page of lines

-- the lines up to a number were looked at, and so many of them found as may be told
pub record Looked (a : Asked) (begins : Head) (lines : List JournalLine) (number : ℕ) (t : Told) : Type 0 where
  pub done : List JournalLine
  pub rest : List JournalLine
  pub are : lines ≡ done ++ rest
  pub count : begins.number + length done ≡ number
  pub first : List JournalLine
  pub later : List JournalLine
  pub done_is : done ≡ first ++ later
  pub found : IsFound a first t
  pub ends : (later ≡ []) ⊎ IsEnough a.most (length t.lines)

module _ (a : Asked) (begins : Head) (lines : List JournalLine) where
  -- before the first
  pub looked_none : (t : Told) → IsFound a [] t → (number : ℕ) → number ≡ begins.number
      → Looked a begins lines number t
  looked_none t found number is = record {
    done = [];
    rest = lines;
    are = refl;
    count = omega (arith, is);
    first = [];
    later = [];
    done_is = refl;
    found = found;
    ends = inl refl;
  }

  module _ (number : ℕ) (t : Told) (looked : Looked a begins lines number t) (later : ℕ) (page : List Row)
      (next : AreNextRows (sought_by a) looked.rest number later page) where
    -- where all that may be told isn't told yet, all lines up to the page are looked at
    found_before : looked.later ≡ [] → IsFound a (looked.done ++ next.skipped) t
    found_before last =
        let before : looked.done ≡ looked.first =
        looked.done_is ∙ ap (λ ls. looked.first ++ ls) last ∙ append-nil looked.first in
        found_skipped a looked.done next.skipped t (subst (λ ls. IsFound a ls t) (sym before) looked.found) next.none

    -- where no more may be told, what is told is found
    pub looked_enough : IsEnough a.most (length t.lines) → t.lines ≡ first_of a.most (told_of a lines)
    looked_enough all =
        all_are a looked.first (looked.later ++ looked.rest) t looked.found all
        ∙ ap (λ ls. first_of a.most (told_of a ls)) (sym (looked.are
        ∙ ap (λ ls. ls ++ looked.rest) looked.done_is ∙ append_assoc looked.first looked.later looked.rest))

    -- where there is no row, no line is left
    pub looked_all : page ≡ [] → t.lines ≡ first_of a.most (told_of a lines)
    looked_all none = elim looked.ends [
      | inl last ↦ few_are a lines t (subst (λ ls. IsFound a ls t) (sym whole) (found_before last))
      | inr all ↦ looked_enough all
    ]
      where
        over : (next.turn ≡ []) × (next.left ≡ [])
        over = next.last none

        whole : lines ≡ looked.done ++ next.skipped
        whole = looked.are ∙ ap (λ ls. looked.done ++ ls) (next.are
            ∙ (λ t. next.skipped ++ (over.0 t ++ over.1 t)) ∙ append-nil next.skipped)

    -- the lines of the page are looked at, too
    pub looked_on : (IsEnough a.most (length t.lines) → ⊥) → (u : Told) → ((before more : List JournalLine)
        → page ≡ map shown_filed (filed_after next.before more) → IsFound a before t
        → IsFoundUpTo a before more u) → (behind : ℕ) → behind ≡ later + length page → Looked a begins lines behind u
    looked_on not_all u puts behind is =
        let last : looked.later ≡ [] = elim looked.ends [ inl l ↦ l | inr all ↦ absurd (not_all all) ] in
        let done = looked.done ++ next.skipped in
        let up_to = puts done next.turn next.told (found_before last) in
        let size = size_of_rows next.before next.turn page next.told in
        let both = length-append done next.turn in
        let first = length-append looked.done next.skipped in
        let count = looked.count in
        let skips = next.count in
        record {
          done = done ++ next.turn;
          rest = next.left;
          are = looked.are ∙ ap (λ ls. looked.done ++ ls) next.are
              ∙ sym (append_assoc looked.done next.skipped (next.turn ++ next.left))
              ∙ sym (append_assoc done next.turn next.left);
          count = omega (arith, size, both, first, count, skips, is);
          first = done ++ up_to.first;
          later = up_to.rest;
          done_is = ap (λ ls. done ++ ls) up_to.are ∙ sym (append_assoc done up_to.first up_to.rest);
          found = up_to.found;
          ends = up_to.ends;
        }

-- What the rows of a table are where the program can have written its journal, and what whole rows keep.
use Rattle.std.proofs.Common.{◌≡◌, ◌⊎◌, inl, inr, ◌≤◌, ◌<◌, ◌+◌, ◌^◌, ℕ, pos, suc, List, [], ◌∷◌, ◌++◌}
use Rattle.std.proofs.Common.{map, length, Some, refl, sym, ap, ◌∙◌, subst, arith}
use Rattle.std.specs.List.{AllByRecursion}
use Rattle.sqlite.specs.declared.types.Value.TheVariants.{Int, Blob}
use Rattle.sqlite.specs.Tree.{Trees}
use Rattle.sha2.proofs.Facts256.{length-sha256}
use Rattle.mf_store_sql.specs.Columns.{Bytes}
use Rattle.mf_store_sql.specs.Numbered.{Filed, shown_filed, KeepsLines}
use Rattle.mf_model.specs.Institution.{JournalLine}
use Rattle.mf_journal.specs.Chain.{link, text_of_line}
use Rattle.mf_journal.specs.Following.{FollowOn, BreaksFirst, head_of, head_after, line_of}
use Rattle.mf_journal.specs.declared.following.Break.{Break}
use Rattle.mf_journal.specs.declared.following.Break.TheVariants.{Number, Day, Chain}
use Rattle.mf_journal.specs.declared.following.Head.{Head}
use Rattle.mf_journal.specs.declared.following.KeptRow.{KeptRow}
use Rattle.mf_store_schema.specs.Fields.{IsNumber, CanHold}
use Rattle.mf_store_schema.specs.Tables as table
use Rattle.mf_store_journal.specs.Rows.{filed_kept, filed_at, filed_after, filed_beginning, head_with}
use Rattle.mf_store_journal.specs.Rows.{head_with_all, journal_rows_in, HasPlace, IsLineRow}
use Rattle.mf_store_journal.specs.Checking.{IsFlaw, IsFound}
use Rattle.mf_store_journal.specs.Written.{CanBeLines, DaysRise, HasRoom, KeepsTo}
use Rattle.mf_store_journal.specs.declared.checking.Flaw.{Flaw}
use Rattle.mf_store_journal.specs.declared.checking.Flaw.TheVariants.{Broken, NoLine}
use Rattle.mf_store_journal.specs.declared.checking.Found.{Found}
use Rattle.mf_store_journal.specs.declared.checking.Found.TheVariants.{Nothing, NoBeginning, Whole, Flawed}
use Rattle.mf_store_journal.specs.declared.journal.Journal.{Journal}
use Rattle.mf_store_journal.proofs.RowsLemmas.{follow_rows, head_in, head_made, line_in, lines_back}

-- ---- rows that were found whole

room_of : (k : KeptRow) → HasPlace k → HasRoom (line_of k)
room_of k place = record {
  day = place.day;
  office = place.office;
  staff = place.staff;
  named_office = place.named_office;
  named_loan = place.named_loan;
}

rooms_of : (ks : List KeptRow) → AllByRecursion HasPlace ks → AllByRecursion HasRoom (map line_of ks)
rooms_of [] all = tt
rooms_of (k ∷ ks) all = (room_of k all.0, rooms_of ks all.1)

days_rise : (h : Head) (ks : List KeptRow) → FollowOn h ks → DaysRise h.day (map line_of ks)
days_rise h [] on = tt
days_rise h (k ∷ ks) on = (on.0.1, days_rise (head_of k) ks on.1)

-- the last number is that of where the rows begin and as many more
numbers_of : (h : Head) (ks : List KeptRow) → h.number < 2 ^ 32 → FollowOn h ks → AllByRecursion HasPlace ks
    → h.number + length (map line_of ks) < 2 ^ 32
numbers_of h [] low on all = omega (arith, low)
numbers_of h (k ∷ ks) low on all =
    let more = numbers_of (head_of k) ks (all.0).number on.1 all.1 in
    let next : k.number ≡ suc h.number = on.0.0 in
    omega (arith, more, next)

-- they are those of a journal that the program can have written
pub keeps_to : (trees : Trees) (lines : List Filed) (journal : Journal) → KeepsLines table.journal (trees 23) lines
    → IsFound lines (Whole journal) → KeepsTo journal trees
keeps_to trees lines journal keeps (rows, are, can, follow) =
    let both = follow_rows journal.begins follow.kept follow.follow in
    record {
      lines = map line_of follow.kept;
      keeps = record {
        lines_can_be = record {
          can_begin = can;
          days = days_rise journal.begins follow.kept follow.follow;
          room = rooms_of follow.kept follow.room;
          numbers = numbers_of journal.begins follow.kept can.number follow.follow follow.room;
        };
        keeps = subst (λ ls. KeepsLines table.journal (trees 23) ls)
            (are ∙ ap (λ rs. filed_beginning journal.begins ∷ rs) (follow.rows_are ∙ both.0)) keeps;
      };
      stands = follow.stands ∙ both.1;
    }

-- ---- one journal has the rows

behind_first : (a b : Filed) (xs ys : List Filed) → a ∷ xs ≡ b ∷ ys → (a ≡ b) × (xs ≡ ys)
behind_first a b xs ys same = (cc, cc)

one_beginning : (g h : Head) → filed_beginning g ≡ filed_beginning h → g ≡ h
one_beginning g h same = ap head_in same

pub only_journal : (begins : Head) (lines : List JournalLine) (journal : Journal)
    → IsFound (journal_rows_in begins (Some lines)) (Whole journal)
    → (journal.begins ≡ begins) × (journal.head ≡ head_with_all begins lines)
only_journal begins lines journal (rows, are, can, follow) =
    let parts = behind_first (filed_beginning begins) (filed_beginning journal.begins) (filed_after begins lines) rows
    are in
    let same : journal.begins ≡ begins = sym (one_beginning begins journal.begins parts.0) in
    let both = follow_rows journal.begins follow.kept follow.follow in
    let after : filed_after begins (map line_of follow.kept) ≡ filed_after begins lines =
    ap (λ (h : Head). filed_after h (map line_of follow.kept)) (sym same) ∙ sym both.0 ∙ sym follow.rows_are
    ∙ sym parts.1 in
    let one : map line_of follow.kept ≡ lines =
    sym (lines_back begins (map line_of follow.kept)) ∙ ap (map line_in) after ∙ lines_back begins lines in (
      same,
      follow.stands ∙ both.1 ∙ ap (λ (h : Head). head_with_all h (map line_of follow.kept)) same
          ∙ ap (head_with_all begins) one,
    )

-- ---- no flaw is found in a journal that the program can have written

-- the row after some of those of lines: where the journal stands before it, and its line
record IsNext (stands : Head) (line : Filed) : Type 0 where
  pub next : JournalLine
  pub is : line ≡ filed_at (head_with stands next) next
  pub day : stands.day ≤ next.day
  pub room : HasRoom next
  pub number : suc stands.number < 2 ^ 32

one_head_at : (g h : Head) (k l : JournalLine) → g.day ≡ k.day → l.day ≡ h.day → filed_at g k ≡ filed_at h l → g ≡ h
one_head_at g h k l of_g of_h same =
    ap (λ (d : ℕ). head_made g.number d g.chain) of_g ∙ ap head_in same
    ∙ ap (λ (d : ℕ). head_made h.number d h.chain) of_h

next_after : (h : Head) (ks : List KeptRow) (ls : List JournalLine) (line : Filed) (more : List Filed)
    → filed_after h ls ≡ map filed_kept ks ++ line ∷ more → DaysRise h.day ls → AllByRecursion HasRoom ls
    → h.number + length ls < 2 ^ 32 → IsNext (head_after h ks) line
next_after h [] [] line more are days room numbers = absurd (cc)
next_after h (k ∷ ks) [] line more are days room numbers = absurd (cc)
next_after h [] (l ∷ ls) line more are days room numbers = record {
  next = l;
  is = sym (behind_first (filed_at (head_with h l) l) line (filed_after (head_with h l) ls) more are).0;
  day = days.0;
  room = room.0;
  number = omega (arith, numbers);
}
next_after h (k ∷ ks) (l ∷ ls) line more are days room numbers =
    let parts = behind_first (filed_at (head_with h l) l) (filed_kept k) (filed_after (head_with h l) ls)
    (map filed_kept ks ++ line ∷ more) are in
    let same : head_with h l ≡ head_of k = one_head_at (head_with h l) (head_of k) l (line_of k) refl refl parts.0 in
    subst (λ (g : Head). IsNext (head_after g ks) line) same
    (next_after (head_with h l) ks ls line more parts.1 days.1 room.1 (omega (arith, numbers)))

-- the row of a line with room has the values of a line
line_is_row : (h : Head) (l : JournalLine) → HasRoom l → h.number < 2 ^ 32 → length h.chain ≡ 32
    → IsLineRow (shown_filed (filed_at h l))
line_is_row h l room low chain = record {
  fields = record {
    width = refl;
    values = (
      number h.number low,
      (
        number l.day room.day,
        (
          number l.office room.office,
          (
            number l.staff room.staff,
            (
              bytes l.told,
              (
                bytes l.method,
                (
                  bytes l.path,
                  (
                    bytes l.body,
                    (
                      number l.named_office room.named_office,
                      (number l.named_loan room.named_loan, (bytes h.chain, tt)),
                    ),
                  ),
                ),
              ),
            ),
          ),
        ),
      ),
    );
  };
  chain = (h.chain, refl, chain);
}
  where
    number : (n : ℕ) → n < 2 ^ 32 → IsNumber (Int (pos n))
    number n low = (n, refl, low)

    bytes : (b : List ℕ) → CanHold Bytes (Blob b)
    bytes b = (b, refl)

no_flaw : (stands : Head) (line : Filed) (flaw : Flaw) → IsNext stands line → IsFlaw stands line flaw → ⊥
no_flaw stands line (NoLine after) n (told, none) =
    none (subst (λ f. IsLineRow (shown_filed f)) (sym n.is)
    (line_is_row (head_with stands n.next) n.next n.room n.number
    (length-sha256 (stands.chain ++ text_of_line n.next))))
no_flaw stands line (Broken number break) n (k, is, told, breaks) = by break breaks
  where
    same : filed_kept k ≡ filed_at (head_with stands n.next) n.next
    same = sym is ∙ n.is

    head : head_of k ≡ head_with stands n.next
    head = one_head_at (head_of k) (head_with stands n.next) (line_of k) n.next refl refl same

    line_is : line_of k ≡ n.next
    line_is = ap line_in same

    number_is : k.number ≡ suc stands.number
    number_is = ap (λ (g : Head). g.number) head

    day_is : k.row.day ≡ n.next.day
    day_is = ap (λ (g : Head). g.day) head

    chain_is : k.chain ≡ link stands.chain (line_of k)
    chain_is = ap (λ (g : Head). g.chain) head ∙ ap (link stands.chain) (sym line_is)

    by : (break : Break) → BreaksFirst stands k break → ⊥
    by Number breaks = breaks number_is
    by Day breaks = let day = n.day in let early = breaks.1 in omega (arith, day, early, day_is)
    by Chain breaks = breaks.2 chain_is

-- what is found of a journal that the program can have written
module _ (begins : Head) (lines : List JournalLine) (can : CanBeLines begins lines) where
  abbrev rows : List Filed
  rows = journal_rows_in begins (Some lines)

  not_nothing : IsFound rows Nothing → ⊥
  not_nothing found = cc

  not_without : IsFound rows NoBeginning → ⊥
  not_without (line, more, are, none) =
      none begins can.can_begin
      (sym (behind_first (filed_beginning begins) line (filed_after begins lines) more are).0)

  not_flawed : (flaw : Flaw) → IsFound rows (Flawed flaw) → ⊥
  not_flawed flaw (h, rest, are, stops) =
      let parts = behind_first (filed_beginning begins) (filed_beginning h) (filed_after begins lines) rest are in
      let same : h ≡ begins = sym (one_beginning begins h parts.0) in
      let follow = stops.follow in
      let cut : filed_after begins lines ≡ map filed_kept follow.kept ++ stops.line ∷ stops.more =
      parts.1 ∙ stops.rows_are ∙ ap (λ before. before ++ stops.line ∷ stops.more) follow.rows_are in
      let stands : stops.stands ≡ head_after begins follow.kept =
      follow.stands ∙ ap (λ (g : Head). head_after g follow.kept) same in
      no_flaw stops.stands stops.line flaw (subst (λ (g : Head). IsNext g stops.line) (sym stands)
      (next_after begins follow.kept lines stops.line stops.more cut can.days can.room can.numbers)) stops.is

  -- so it is found whole
  pub no_other : (found : Found) → (found ≡ Nothing) ⊎ ((found ≡ NoBeginning) ⊎ ((flaw : Flaw)
      × (found ≡ Flawed flaw))) → IsFound rows found → ⊥
  no_other found (inl is) h = not_nothing (subst (IsFound rows) is h)
  no_other found (inr (inl is)) h = not_without (subst (IsFound rows) is h)
  no_other found (inr (inr (flaw, is))) h = not_flawed flaw (subst (IsFound rows) is h)

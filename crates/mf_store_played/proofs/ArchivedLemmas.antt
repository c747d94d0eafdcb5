-- The lines of archives and then a journal's own, played from a founding.
use Rattle.std.proofs.Common.{◌≡◌, ◌<◌, ◌≤◌, ◌+◌, ◌⊎◌, inl, inr, ◌++◌, ℕ, zero, suc, List, [], ◌∷◌, drop, length, map}
use Rattle.std.proofs.Common.{slice_get, Some, ◌↔◌, Bool, false, IsTrue, Ok, Err, IfOk, refl, sym, ap, ◌∙◌, subst}
use Rattle.std.proofs.Common.{arith, append-nil, append_assoc}
use Rattle.std.specs.Prelude.{Result, get_or, unwrap_or}
use Rattle.std.specs.List.{AllByRecursion}
use Rattle.std.proofs.lemmas.List.{length-append}
use Rattle.std.proofs.lemmas.Option.{unwrap_or-slice_get}
use Rattle.sqlite.specs.Effect.{Database}
use Rattle.sqlite.specs.Order.{Row}
use Rattle.sqlite.specs.Tree.{Trees}
use Rattle.mf_base.specs.declared.fault.Fault.{Fault}
use Rattle.mf_journal.specs.declared.following.Head.{Head}
use Rattle.mf_model.specs.Institution.{Institution, JournalLine}
use Rattle.mf_model.specs.Sound.{IsSound}
use Rattle.mf_model.specs.declared.store.InstitutionStore.{Ghosts}
use Rattle.mf_play.specs.Play.{PlaysTo, StopsAt}
use Rattle.mf_play.specs.declared.stop.Stop.{Stop}
use Rattle.mf_play.proofs.Lines.{joined, one_play, parted}
use Rattle.mf_store_sql.specs.Numbered.{shown_filed}
use Rattle.mf_store_archive.specs.Archived.{with_lines}
use Rattle.mf_store_archive.proofs.ArchivedLemmas.{heads_compose, number_after}
use Rattle.mf_store_archived.specs.Archives.{IsPart}
use Rattle.mf_store_archived.specs.Joining.{IsFirst, IsGap, LeadsOn, EndsWith}
use Rattle.mf_store_archived.specs.declared.archive.Archive.{Archive}
use Rattle.mf_store_archived.specs.declared.joining.Gap.{Gap}
use Rattle.mf_store_archived.specs.declared.joining.Gap.TheVariants.{Missing, Unjoined}
use Rattle.mf_store_archived.proofs.JoinLemmas.{first_once, one_reach}
use Rattle.mf_store_journal.specs.Rows.{filed_after, filed_beginning, head_with_all}
use Rattle.mf_store_journal.specs.Written.{KeepsJournalFrom}
use Rattle.mf_store_journal.specs.declared.journal.Journal.{Journal}
use Rattle.mf_store_schema.specs.declared.versions.Version.TheVariants.{Third}
use Rattle.mf_store_sound.specs.Held.{HoldsSoundAt}
use Rattle.mf_store_played.specs.Answer.{IsAnswer, IsAnswerOver}
use Rattle.mf_store_played.specs.Archived.{IsAnswerFrom, IsArchivedAnswer, IsArchivedAnswerOf, PlaysArchive}
use Rattle.mf_store_played.specs.Archived.{PlaysArchives}
use Rattle.mf_store_played.specs.Played.{CameToByNumber, IsFounding, founded}
use Rattle.mf_store_played.specs.declared.played.Played.{Played}
use Rattle.mf_store_played.specs.declared.played.Played.TheVariants.{Leads, NoFounding, Stops, Differs, OtherCopy}
use Rattle.mf_store_played.specs.declared.played.Played.TheVariants.{Lacks}
use Rattle.mf_store_played.proofs.OnceLemmas.{one_answer}
use Rattle.mf_store_played.proofs.PlayLemmas.{stops_within}

-- ---- places of a list

drop_at : {A : Type 0} (xs : List A) (k : ℕ) (x : A) → slice_get xs k ≡ Some x → drop k xs ≡ x ∷ drop (suc k) xs
drop_at [] k x there = absurd (cc)
drop_at (y ∷ ys) zero x there = let same : y ≡ x = cc in ap (λ z. z ∷ ys) same
drop_at (y ∷ ys) (suc k) x there = drop_at ys k x there

drop_next : {A : Type 0} (xs : List A) (k : ℕ) (x : A) → slice_get xs k ≡ Some x → drop k xs ≡ x ∷ drop (k + 1) xs
drop_next xs k x there =
    let one : suc k ≡ k + 1 = omega arith in
    subst (λ (n : ℕ). drop k xs ≡ x ∷ drop n xs) one (drop_at xs k x there)

drop_past : {A : Type 0} (xs : List A) (k : ℕ) → length xs ≤ k → drop k xs ≡ []
drop_past [] zero past = refl
drop_past [] (suc k) past = refl
drop_past (x ∷ xs) zero past = absurd (omega (arith, past))
drop_past (x ∷ xs) (suc k) past = drop_past xs k (omega (arith, past))

drop_none : {A : Type 0} (xs : List A) → drop 0 xs ≡ xs
drop_none [] = refl
drop_none (x ∷ xs) = refl

-- the item at a place, whatever stands in for one
pub indexed : {A : Type 0} (xs : List A) (place : ℕ) (x d item : A) → slice_get xs place ≡ Some x
    → item ≡ get_or xs place d → item ≡ x
indexed xs place x d item there is =
    is ∙ sym (unwrap_or-slice_get xs place d) ∙ ap (λ o. unwrap_or o d) there

behind : {A : Type 0} (P : A → Type 0) (before : List A) (x : A) (after : List A)
    → AllByRecursion P (before ++ x ∷ after) → P x
behind P [] x after all = all.0
behind P (y ∷ before) x after all = behind P before x after all.1

none_is_first : (P : Archive → Type 0) (archives : List Archive) (a : Archive)
    → AllByRecursion (λ (b : Archive). ¬ P b) archives → IsFirst P archives a → ⊥
none_is_first P archives a none first =
    behind (λ (b : Archive). ¬ P b) first.before a first.after
    (subst (AllByRecursion (λ (b : Archive). ¬ P b)) first.are none) first.holds

pub above_none : (n : ℕ) (has : Bool) → IsTrue has ↔ (n ≡ 0) → has ≡ false → 0 < n
above_none zero has told lacks = absurd (cc (told.1 refl))
above_none (suc n) has told lacks = omega arith

-- ---- heads

-- where archives lead on to, by their lines
pub leads_to : (archives : List Archive) (from : Head) (places : List ℕ) (to : Head) (lines : List JournalLine)
    → LeadsOn archives from places to lines → to ≡ head_with_all from lines
leads_to archives from [] to lines (same, none) = same ∙ ap (head_with_all from) (sym none)
leads_to archives from (place ∷ places) to lines (a, there, begins, first, part, rest, are, more) =
    leads_to archives a.ends places to rest more ∙ ap (λ (h : Head). head_with_all h rest) part.ends
    ∙ ap (λ (h : Head). head_with_all (head_with_all h first) rest) begins
    ∙ sym (heads_compose from first rest) ∙ ap (head_with_all from) (sym are)

-- ---- one archive

-- the rows behind the first
pub rows_behind : (a : Archive) (lines : List JournalLine) (first : Row) (rest : List Row)
    → IsPart a lines → a.rows.items ≡ first ∷ rest → rest ≡ map shown_filed (filed_after a.begins lines)
rows_behind a lines first rest part parts =
    behind first (shown_filed (filed_beginning a.begins)) rest (map shown_filed (filed_after a.begins lines))
    (sym parts ∙ part.tells.rows_are)
  where
    behind : (x y : Row) (xs ys : List Row) → x ∷ xs ≡ y ∷ ys → xs ≡ ys
    behind x y xs ys same = cc

-- there is a first
pub no_rows : (a : Archive) (lines : List JournalLine) (rest : List Row) → IsPart a lines → a.rows.items ≡ []
    → rest ≡ map shown_filed (filed_after a.begins lines)
no_rows a lines rest part none =
    let some : [] ≡ shown_filed (filed_beginning a.begins) ∷ map shown_filed (filed_after a.begins lines) =
    sym none ∙ part.tells.rows_are in
    absurd (cc)

-- ---- archive by archive

module _ {S : Type 0} (store : Ghosts S) where
  -- the lines of the first archives, played from an institution; the others lead on from where they end, and the store
  -- stands for what follows
  pub record Reached (archives : List Archive) (from to : Head) (lines : List JournalLine) (i : Institution)
      (left : List ℕ) (here : S) : Type 0 where
    pub now : Head
    pub done : List JournalLine
    pub rest : List JournalLine
    pub are : lines ≡ done ++ rest
    pub count : from.number + length done ≡ now.number
    pub leads : LeadsOn archives now left to rest
    pub reached : Institution
    pub plays : PlaysTo i done reached
    pub stands : store.stands here reached

  -- so far
  pub record Going (archives : List Archive) (places : List ℕ) (was here : S) (k : ℕ) : Type 0 where
    pub premise : store.clean here → store.clean was
    pub far : store.clean here → (from to : Head) (lines : List JournalLine) → LeadsOn archives from places to lines
        → (i : Institution) → store.stands was i → Reached archives from to lines i (drop k places) here

  pub going_first : (archives : List Archive) (places : List ℕ) (was : S) → Going archives places was was 0
  going_first archives places was = record {
    premise = λ ok. ok;
    far = λ ok from to lines leads i stands. record {
      now = from;
      done = [];
      rest = lines;
      are = refl;
      count = omega arith;
      leads = subst (λ ps. LeadsOn archives from ps to lines) (sym (drop_none places)) leads;
      reached = i;
      plays = refl;
      stands = stands;
    };
  }

  module _ (archives : List Archive) (places : List ℕ) (was here there : S) (k : ℕ)
      (going : Going archives places was here k) where
    -- all are played
    pub going_whole : length places ≤ k → PlaysArchives store archives places was here (Ok (Ok tt))
    going_whole past ok from to lines leads i stands =
        let r = going.far ok from to lines leads i stands in
        let over = subst (λ ps. LeadsOn archives r.now ps to r.rest) (drop_past places k past) r.leads in
        let all : r.done ≡ lines = sym (r.are ∙ ap (λ ls. r.done ++ ls) over.1 ∙ append-nil r.done) in
        (r.reached, subst (λ ls. PlaysTo i ls r.reached) all r.plays, r.stands)

    module _ (early : store.clean there → store.clean here) (place : ℕ) (at : slice_get places k ≡ Some place) where
      -- the archive that comes next
      record Next (now to : Head) (rest : List JournalLine) : Type 0 where
        pub a : Archive
        pub got : slice_get archives place ≡ Some a
        pub first : List JournalLine
        pub more : List JournalLine
        pub begins : a.begins ≡ now
        pub part : IsPart a first
        pub are : rest ≡ first ++ more
        pub leads : LeadsOn archives a.ends (drop (k + 1) places) to more

      next_is : (now to : Head) (rest : List JournalLine) → LeadsOn archives now (drop k places) to rest
          → Next now to rest
      next_is now to rest leads =
          let here = subst (λ ps. LeadsOn archives now ps to rest) (drop_next places k place at) leads in
          record {
            a = here.0;
            got = here.1;
            begins = here.2;
            first = here.3;
            part = here.4;
            more = here.5;
            are = here.6;
            leads = here.7;
          }

      -- it plays
      pub going_on : ((a : Archive) → slice_get archives place ≡ Some a → PlaysArchive store a here there (Ok (Ok tt)))
          → Going archives places was there (k + 1)
      going_on plays = record {
        premise = λ ok. going.premise (early ok);
        far = λ ok from to lines leads i stands.
            let r = going.far (early ok) from to lines leads i stands in
            let n = next_is r.now to r.rest r.leads in
            let came = plays n.a n.got ok n.first n.part r.reached r.stands in
            let both = length-append r.done n.first in
            let so_far = r.count in
            let ends : (n.a).ends.number ≡ r.now.number + length n.first =
            ap (λ (h : Head). h.number) (n.part).ends ∙ number_after (n.a).begins n.first
            ∙ ap (λ (h : Head). h.number + length n.first) n.begins in
            record {
              now = (n.a).ends;
              done = r.done ++ n.first;
              rest = n.more;
              are = r.are ∙ ap (λ ls. r.done ++ ls) n.are ∙ sym (append_assoc r.done n.first n.more);
              count = omega (arith, both, so_far, ends);
              leads = n.leads;
              reached = came.0;
              plays = joined i r.reached came.0 r.done n.first r.plays came.1;
              stands = came.2;
            };
      }

      -- a line of it doesn't
      pub going_stops : (number : ℕ) (why : Stop) → ((a : Archive) → slice_get archives place ≡ Some a
          → PlaysArchive store a here there (Ok (Err (number, why))))
          → PlaysArchives store archives places was there (Ok (Err (number, why)))
      going_stops number why plays ok from to lines leads i stands =
          let r = going.far (early ok) from to lines leads i stands in
          let n = next_is r.now to r.rest r.leads in
          let came = plays n.a n.got ok n.first n.part r.reached r.stands in
          let told = came.1 in
          let so_far = r.count in
          let begins : (n.a).begins.number ≡ r.now.number = ap (λ (h : Head). h.number) n.begins in (
            length r.done + came.0,
            omega (arith, told, so_far, begins),
            subst (λ ls. StopsAt i ls (length r.done + came.0) why) (ap (λ ls. r.done ++ ls) (sym n.are) ∙ sym r.are)
                (stops_within i r.reached r.done n.first n.more came.0 why r.plays came.2),
          )

-- ---- the answer

pub still_sound : (i : Institution) (lines : List JournalLine) → IsSound i → IsSound (with_lines lines i)
still_sound i lines s = record { catalogue = s.catalogue; tree = s.tree; each = s.each }

-- an answer for a journal that begins at no number
pub answer_from : (archives : List Archive) (start : Head) (lines : List JournalLine) (i : Institution)
    → start.number ≡ 0 → (played : Played) → IsAnswer start lines (with_lines lines i) played
    → IsAnswerFrom archives start lines i played
answer_from archives start lines i none (Leads head) told = (none, told)
answer_from archives start lines i none (NoFounding head) told = (none, told)
answer_from archives start lines i none (Stops number why) told = (none, told)
answer_from archives start lines i none (Differs d) told = (none, told)
answer_from archives start lines i none (OtherCopy head) told = absurd told
answer_from archives start lines i none (Lacks gap) told = absurd told

module _ (start : Head) (before lines : List JournalLine) (day : ℕ) (founds : IsFounding start day) where
  first_number : start.number ≡ 0
  first_number = ap (λ (h : Head). h.number) founds.is

  -- a line of an archive doesn't play
  pub stops_before : (w : Institution) (number : ℕ) (why : Stop) → (place : ℕ) → number ≡ start.number + place + 1
      → StopsAt (founded day) before place why → IsAnswer start (before ++ lines) w (Stops number why)
  stops_before w number why place told stops =
      let none = first_number in
      let same : length {A = JournalLine} [] + place ≡ place = omega arith in (
        day,
        founds,
        place,
        omega (arith, told, none),
        subst (λ n. StopsAt (founded day) (before ++ lines) n why) same
            (stops_within (founded day) (founded day) [] before lines place why refl stops),
      )

  module _ (begins : Head) (w j : Institution) (stands : begins ≡ head_with_all start before)
      (plays : PlaysTo (founded day) before j) where
    -- the lines of archives all play
    pub archived_answer : (played : Played) → IsAnswerOver j begins lines w played
        → IsAnswer start (before ++ lines) w played
    archived_answer (Leads head) told = (
      day,
      founds,
      joined (founded day) j w before lines plays told.0,
      told.1 ∙ ap (λ (h : Head). head_with_all h lines) stands ∙ sym (heads_compose start before lines),
    )
    archived_answer (Stops number why) told =
        let none = first_number in
        let at = told.1 in
        let here : begins.number ≡ start.number + length before =
        ap (λ (h : Head). h.number) stands ∙ number_after start before in (
          day,
          founds,
          length before + told.0,
          omega (arith, none, at, here),
          subst (λ ls. StopsAt (founded day) (before ++ ls) (length before + told.0) why) (append-nil lines)
              (stops_within (founded day) j before lines [] told.0 why plays told.2),
        )
    archived_answer (Differs d) told = (
      day,
      founds,
      told.0,
      joined (founded day) j told.0 before lines plays told.1,
      told.2,
      λ leads.
          let parts = parted (founded day) w before lines leads in
          let same = one_play (founded day) parts.0 j before parts.1 plays in
          told.3 (subst (λ m. PlaysTo m lines w) same parts.2),
    )
    archived_answer (NoFounding head) told = absurd told
    archived_answer (OtherCopy head) told = absurd told
    archived_answer (Lacks gap) told = absurd told

-- ---- of tables

abbrev AreArchivedAnswers : List Archive → Trees → Journal → Result Played Fault → Type 0
AreArchivedAnswers archives trees journal result = (held : HoldsSoundAt Third trees) (lines : List JournalLine)
    → held.institution.journal ≡ Some lines → KeepsJournalFrom journal.begins trees lines
    → journal.head ≡ head_with_all journal.begins lines
    → IfOk result (IsArchivedAnswer archives journal.begins lines held.institution)

-- the journal that was read is the one that is kept
pub archived_answer_of_one : (archives : List Archive) (trees : Trees) (journal : Journal) → ((begins : Head)
    (lines : List JournalLine) → KeepsJournalFrom begins trees lines → (journal.begins ≡ begins)
    × (journal.head ≡ head_with_all begins lines)) → (result : Result Played Fault)
    → AreArchivedAnswers archives trees journal result → IfOk result (IsArchivedAnswerOf archives trees)
archived_answer_of_one archives trees journal only (Err fault) told = tt
archived_answer_of_one archives trees journal only (Ok played) told = record {
  right = λ held begins lines is keeps.
      let one = only begins lines keeps in
      subst (λ h. IsArchivedAnswer archives h lines held.institution played) one.0
      (told held lines is (subst (λ h. KeepsJournalFrom h trees lines) (sym one.0) keeps)
      (one.1 ∙ ap (λ h. head_with_all h lines) (sym one.0)));
}

-- the answer of a call that came after another one that changed nothing
pub archived_answer_before : (archives : List Archive) (old mid : Database) → mid ≡ old → (journal : Journal)
    (result : Result Played Fault) → AreArchivedAnswers archives mid.trees journal result
    → AreArchivedAnswers archives old.trees journal result
archived_answer_before archives old mid same journal result told =
    subst (λ (d : Database). AreArchivedAnswers archives d.trees journal result) same told

-- ---- one answer alone

gaps : (from other to end : ℕ) → from ≡ other → to ≡ end
    → ◌≡◌ {A = Gap} (Missing from to) (Missing other end)
gaps from other to end one two = cc

unjoined : (from other to end : ℕ) → from ≡ other → to ≡ end
    → ◌≡◌ {A = Gap} (Unjoined from to) (Unjoined other end)
unjoined from other to end one two = cc

one_gap : (archives : List Archive) (h : Head) (a b : Gap) → IsGap archives h a → IsGap archives h b → a ≡ b
one_gap archives h (Missing from to) (Missing other end) x y =
    gaps from other to end (x.2 ∙ sym y.2) (x.0 ∙ sym y.0)
one_gap archives h (Missing from to) (Unjoined other end) x y =
    absurd (none_is_first (EndsWith h.number) archives y.1 x.1 y.2)
one_gap archives h (Unjoined from to) (Missing other end) x y =
    absurd (none_is_first (EndsWith h.number) archives x.1 y.1 x.2)
one_gap archives h (Unjoined from to) (Unjoined other end) x y =
    let same : x.1 ≡ y.1 = first_once (EndsWith h.number) archives x.1 y.1 x.2 y.2 in
    unjoined from other to end (x.3 ∙ ap (λ (a : Archive). suc a.begins.number) same ∙ sym y.3) (x.0 ∙ sym y.0)

module _ (archives : List Archive) (start : Head) (lines : List JournalLine) (i : Institution) where
  -- archives are missing, or all lines are there
  abbrev Two : Played → Type 0
  Two p = ((gap : Gap) × (p ≡ Lacks gap) × (0 < start.number) × IsGap archives start gap)
      ⊎ ((start.number ≡ 0) × IsAnswer start lines (with_lines lines i) p)

  either : (p : Played) → IsAnswerFrom archives start lines i p → Two p
  either (Leads h) told = inr told
  either (NoFounding h) told = inr told
  either (Stops n why) told = inr told
  either (Differs d) told = inr told
  either (OtherCopy h) told = inr told
  either (Lacks gap) told = inl (gap, refl, told.0, told.1)

  both : (a b : Played) → Two a → Two b → a ≡ b
  both a b (inl x) (inl y) = x.1 ∙ ap Lacks (one_gap archives start x.0 y.0 x.3 y.3) ∙ sym y.1
  both a b (inl x) (inr y) = let more = x.2 in let none = y.0 in absurd (omega (arith, more, none))
  both a b (inr x) (inl y) = let more = y.2 in let none = x.0 in absurd (omega (arith, more, none))
  both a b (inr x) (inr y) = one_answer start lines (with_lines lines i) a b x.1 y.1

  pub one_from : (a b : Played) → IsAnswerFrom archives start lines i a → IsAnswerFrom archives start lines i b → a ≡ b
  one_from a b x y = both a b (either a x) (either b y)

pub one_archived_answer : (archives : List Archive) (begins : Head) (lines : List JournalLine) (i : Institution)
    (a b : Played) → IsArchivedAnswer archives begins lines i a → IsArchivedAnswer archives begins lines i b → a ≡ b
one_archived_answer archives begins lines i a b x y =
    let same = one_reach archives begins x.start y.start x.before y.before x.reaches y.reaches in
    one_from archives x.start (x.before ++ lines) i a b x.right
    (subst (λ (h : Head). IsAnswerFrom archives h (x.before ++ lines) i b) (sym same.0)
    (subst (λ ls. IsAnswerFrom archives y.start (ls ++ lines) i b) (sym same.1) y.right))

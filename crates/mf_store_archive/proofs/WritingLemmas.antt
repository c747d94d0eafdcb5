-- From commits of an archive to what it has of a journal's lines.
use Rattle.std.proofs.Common.{◌≡◌, ◌∙◌, ◌⊎◌, inl, inr, ◌≤◌, ◌<◌, ℕ, Bool, true, false, List, [], ◌∷◌, ◌++◌, map, take}
use Rattle.std.proofs.Common.{drop}
use Rattle.std.proofs.Common.{Option, None, Some, IsTrue, Result, Ok, Err, refl, sym, ap, subst, arith, append_assoc}
use Rattle.std.proofs.Common.{append-nil}
use Rattle.std.specs.List.{AllByRecursion}
use Rattle.std.proofs.lemmas.List.{take-append-drop}
use Rattle.sqlite.specs.Effect.{Database}
use Rattle.sqlite.specs.Held.{Held, state}
use Rattle.sqlite.specs.Order.{Row}
use Rattle.sqlite.specs.State.{HasCleanDisk, Survives}
use Rattle.sqlite.specs.Tree.{Trees}
use Rattle.sqlite_keyed.proofs.ListLemmas.{all-append, all_map}
use Rattle.sqlite_trees.specs.declared.store.Store.{Ghosts}
use Rattle.mf_base.specs.declared.fault.Fault.{Fault}
use Rattle.mf_base.specs.declared.fault.Fault.TheVariants.{F20}
use Rattle.mf_model.specs.Institution.{JournalLine}
use Rattle.mf_journal.specs.Following.{line_of}
use Rattle.mf_journal.specs.declared.following.Head.{Head}
use Rattle.mf_journal.specs.declared.following.KeptRow.{KeptRow}
use Rattle.mf_store_sql.specs.Numbered.{Filed, shown_filed}
use Rattle.mf_store_sql.specs.Writes.{AllFit, IsSettled, MayHold, Serves, Turns, after_all}
use Rattle.mf_store_schema.proofs.CallLemmas.{only_faults_shut}
use Rattle.mf_store_schema.specs.Calls.{OnlyFaultsShut}
use Rattle.mf_store_schema.specs.Schemas.{IsUnchangedUnder}
use Rattle.mf_store_journal.specs.Reading.{IsKeeping, IsThird, page_above, page_size}
use Rattle.mf_store_journal.specs.Rows.{filed_after, filed_beginning, filed_kept, head_with_all, journal_rows_in}
use Rattle.mf_store_journal.specs.Written.{DaysRise}
use Rattle.mf_store_journal.proofs.CheckLemmas.{shown_once}
use Rattle.mf_store_journal.proofs.GoingLemmas.{keeping_after, still_unchanged, unchanged_itself}
use Rattle.mf_store_journal.proofs.RowsLemmas.{line_in}
use Rattle.mf_store_archive.specs.Archived.{archived}
use Rattle.mf_store_archive.specs.Filing.{FitsFiling, HoldsFiled, IsFiled, after_filing, archive_rows, filing_schema}
use Rattle.mf_store_archive.specs.Paging.{Ends, FilesMore, HoldsPart, IfLast, IsLater, IsPage, NoMoreUpTo}
use Rattle.mf_store_archive.specs.Writing.{CopiesPage, FilesRows, KeepsLinesOf, WritesArchive}
use Rattle.mf_store_archive.specs.declared.filing.Filing.{Filing}
use Rattle.mf_store_archive.specs.declared.filing.Filing.TheVariants.{Put}
use Rattle.mf_store_archive.specs.declared.paging.Page.{Page}
use Rattle.mf_store_archive.specs.declared.writing.Copied.{Copied}
use Rattle.mf_store_archive.proofs.ArchivedLemmas.{archived_are, heads_compose, rows_left, rows_of_both}
use Rattle.mf_store_archive.proofs.PagingLemmas.{IsFront, IsShownFront, behind_first, front, shown_front}

-- ---- one commit

pub puts_fit : (kept : List KeptRow) (rows : List Filed) → AllFit after_filing FitsFiling (map Put kept) (Some rows)
puts_fit [] rows = tt
puts_fit (k ∷ kept) rows = (refl, puts_fit kept (rows ++ filed_kept k ∷ []))

pub puts_become : (kept : List KeptRow) (rows : List Filed)
    → after_all after_filing (map Put kept) (Some rows) ≡ Some (rows ++ map filed_kept kept)
puts_become [] rows = ap Some (sym (append-nil rows))
puts_become (k ∷ kept) rows = puts_become kept (rows ++ filed_kept k ∷ [])
    ∙ ap Some (append_assoc rows (filed_kept k ∷ []) (map filed_kept kept))

module _ (writes : List Filing) (before after : Option (List Filed))
    (fits : AllFit after_filing FitsFiling writes before) (become : after_all after_filing writes before ≡ after)
    {A : Type 0} (g : Ghosts A) (old new : Held A)
    (was_open : HasCleanDisk (state g new) → IsTrue (state g new).is_open → IsTrue (state g old).is_open)
    (survives : Survives (state g old) (state g new) (MayHold (Serves filing_schema HoldsFiled) HoldsFiled
    (AllFit after_filing FitsFiling writes) (after_all after_filing writes) (state g old))) where
  files_stop : HasCleanDisk (state g new) → IsFiled g before old → (trees : Trees) → (state g new).may_leave trees
      → (state g old).may_leave trees ⊎ HoldsFiled trees after
  files_stop clean filed trees may = elim (survives.crash clean trees may) [
    | inl early ↦ inl early
    | inr wrote ↦ inr (subst (HoldsFiled trees) become (wrote.holds before (filed wrote.was_open) fits))
  ]

  pub filed_rows : (HasCleanDisk (state g new) → Turns (Serves filing_schema HoldsFiled)
      (AllFit after_filing FitsFiling writes) (after_all after_filing writes) (state g old).now (state g new).now)
      → (HasCleanDisk (state g new) → IsSettled (state g new)) → FilesRows g before after old new (Ok tt)
  filed_rows turns rests = record {
    premise = λ clean. omega (arith, survives.clean, clean);
    gives_up = tt;
    shuts = only_faults_shut (state g old) (state g new) survives;
    still_open = λ clean up. (rests clean).is_open;
    made = λ clean filed live. subst (Serves filing_schema HoldsFiled (state g new).now) become
        (turns clean before (filed (was_open clean live)) fits);
    same = λ clean. tt;
    stop = files_stop;
  }

  pub unfiled_rows : (HasCleanDisk (state g new) → IsTrue (state g new).is_open → (state g new).now
      ≡ (state g old).now) → FilesRows g before after old new (Err F20)
  unfiled_rows unmoved = record {
    premise = λ clean. omega (arith, survives.clean, clean);
    gives_up = refl;
    shuts = only_faults_shut (state g old) (state g new) survives;
    still_open = λ clean. tt;
    made = λ clean. tt;
    same = λ clean filed live. subst (λ (db : Database). Serves filing_schema HoldsFiled db before)
        (sym (unmoved clean live)) (filed (was_open clean live));
    stop = files_stop;
  }

-- nothing is to be put
pub files_none : {A : Type 0} (g : Ghosts A) (before after : Option (List Filed)) (h : Held A) → before ≡ after
    → FilesRows g before after h h (Ok tt)
files_none g before after h same = record {
  premise = λ clean. clean;
  gives_up = tt;
  shuts = λ faults few up. up;
  still_open = λ clean up. up;
  made = λ clean filed live. subst (Serves filing_schema HoldsFiled (state g h).now) same (filed live);
  same = λ clean. tt;
  stop = λ clean filed trees may. inl may;
}

-- ---- a page of lines

rows_nil : (xs : List Filed) → [] ≡ map shown_filed xs → xs ≡ []
rows_nil [] is = refl
rows_nil (x ∷ xs) is = absurd (cc)

-- what a page of the rows after a head is of the lines
module _ (day : ℕ) (begins head : Head) (first rest : List JournalLine) (stands : head ≡ head_with_all begins first)
    (rows : List Row) (shown : rows ≡ page_above head.number (journal_rows_in begins (Some (first ++ rest))))
    (page : Page) (is : IsPage day head rows page) where
  abbrev after : List Filed
  after = filed_after head rest

  pub rows_are : rows ≡ map shown_filed (take page_size after)
  rows_are = shown ∙ ap (λ (h : Head). page_above h.number (journal_rows_in begins (Some (first ++ rest)))) stands
      ∙ ap (λ rs. map shown_filed (take page_size rs)) (rows_left begins first rest)
      ∙ ap (λ (h : Head). map shown_filed (take page_size (filed_after h rest))) (sym stands)

  abbrev shown_part : IsShownFront is.kept (take page_size after) is.left
  shown_part = shown_front is.kept (take page_size after) is.left (sym rows_are ∙ is.rows_are)

  abbrev others : List Filed
  others = shown_part.left ++ drop page_size after

  split : after ≡ map filed_kept is.kept ++ others
  split = sym (take-append-drop page_size after) ∙ ap (λ rs. rs ++ drop page_size after) shown_part.lines_are
      ∙ append_assoc (map filed_kept is.kept) shown_part.left (drop page_size after)

  pub part : IsFront head is.kept rest others
  part = front head is.kept rest others split

  abbrev pub more : List JournalLine
  more = map line_of is.kept

  pub rows_more : journal_rows_in begins (Some first) ++ map filed_kept is.kept
      ≡ journal_rows_in begins (Some (first ++ more))
  rows_more = ap (λ rs. journal_rows_in begins (Some first) ++ rs) part.rows_are
      ∙ ap (λ (h : Head). journal_rows_in begins (Some first) ++ filed_after h more) stands
      ∙ ap (λ rs. filed_beginning begins ∷ rs) (sym (rows_of_both begins first more))

  pub head_is : page.head ≡ head_with_all begins (first ++ more)
  head_is = is.head_is ∙ part.head_is ∙ ap (λ (h : Head). head_with_all h more) stands
      ∙ sym (heads_compose begins first more)

  -- no row is left, so no line is
  no_rest : rows ≡ [] → NoMoreUpTo day part.rest
  no_rest none = go rest part.rest part.lines_are (rows_nil (take page_size after) (sym none ∙ rows_are))
    where
      go : (ls left : List JournalLine) → ls ≡ more ++ left → take page_size (filed_after head ls) ≡ []
          → NoMoreUpTo day left
      go ls [] are nil = tt
      go [] (l ∷ left) are nil = absurd (no_cons more l left are)
        where
          no_cons : (xs : List JournalLine) (l : JournalLine) (left : List JournalLine)
              → [] ≡ xs ++ l ∷ left → ⊥
          no_cons [] l left is = cc
          no_cons (x ∷ xs) l left is = cc
      go (k ∷ ls) (l ∷ left) are nil = absurd (cc)

  -- the next row is of a later day, so the next line is
  later_rest : IsLater day is.left → NoMoreUpTo day part.rest
  later_rest (k, others_left, are, late) = go shown_part.left (sym are ∙ shown_part.more_are) part.rest part.more_are
    where
      go : (left : List Filed) → shown_filed (filed_kept k) ∷ others_left ≡ map shown_filed left
          → (ls : List JournalLine) → left ++ drop page_size after ≡ filed_after (head_with_all head more) ls
          → NoMoreUpTo day ls
      go [] same ls from = absurd (cc)
      go (l ∷ left) same [] from = absurd (cc)
      go (l ∷ left) same (x ∷ ls) from =
          let first_is = behind_first (shown_filed (filed_kept k)) (shown_filed l) others_left (map shown_filed left)
          same in
          let row = behind_first l _ (left ++ drop page_size after) _ from in
          let line : line_of k ≡ x = ap line_in (shown_once (filed_kept k) l first_is.0 ∙ row.0) in
          subst (λ (y : JournalLine). day < y.day) line late

  pub ends : IfLast page.is_last day part.rest
  ends = go page.is_last is.ends
    where
      go : (b : Bool) → Ends day b rows is.left → IfLast b day part.rest
      go true (inl none) = no_rest none
      go true (inr later) = later_rest later
      go false whole = tt

  pub copied_more : {A : Type 0} (g : Ghosts A) (h : Held A)
      → IsFiled g (Some (journal_rows_in begins (Some first) ++ map filed_kept is.kept)) h
      → FilesMore g day begins first rest page.head page.is_last h
  copied_more g h filed = record {
    more = more;
    left = part.rest;
    rest_is = part.lines_are;
    up_to = all_map (λ (l : JournalLine). l.day ≤ day) line_of is.kept is.up_to;
    head_is = head_is;
    filed = λ live. subst (λ rs. Serves filing_schema HoldsFiled (state g h).now (Some rs)) rows_more (filed live);
    ends = ends;
  }

  pub holds_more : (trees : Trees)
      → HoldsFiled trees (Some (journal_rows_in begins (Some first) ++ map filed_kept is.kept))
      → HoldsPart begins (first ++ rest) trees
  holds_more trees holds = record {
    first = first ++ more;
    rest = part.rest;
    lines_are = ap (λ ls. first ++ ls) part.lines_are ∙ sym (append_assoc first more part.rest);
    holds = subst (λ rs. HoldsFiled trees (Some rs)) rows_more holds;
  }

-- ---- a page that is copied, or not

module _ {S A : Type 0} (f : Ghosts S) (g : Ghosts A) (day : ℕ) (head : Head) (was is : Held S)
    (kept : IsUnchangedUnder IsThird (state f was) (state f is)) where
  -- the archive was not written
  pub uncopied : (h : Held A) (fault : Fault) → fault ≡ F20 → CopiesPage f g day head was is h h (Err fault)
  uncopied h fault told = record {
    kept = kept;
    gives_up = told;
    premise = λ clean. clean;
    shuts = λ faults few up. up;
    still_open = λ clean. tt;
    more = λ clean good begins first rest stands keeps filed. tt;
    stop = λ clean good begins first rest stands keeps filed trees may. inl may;
  }

  module _ (rows : List Row) (shown : HasCleanDisk (state f is) → (lines : List Filed)
      → IsKeeping (state f was) lines → rows ≡ page_above head.number lines)
      (page : Page) (of : IsPage day head rows page) (old new : Held A) where
    abbrev Rows : Head → List JournalLine → List Filed
    Rows begins first = journal_rows_in begins (Some first)

    stops : ((begins : Head) (first : List JournalLine) → IsFiled g (archive_rows begins first) old
        → HasCleanDisk (state g new) → (trees : Trees) → (state g new).may_leave trees
        → (state g old).may_leave trees ⊎ HoldsFiled trees (Some (Rows begins first ++ map filed_kept of.kept)))
        → HasCleanDisk (state f is) → HasCleanDisk (state g new) → (begins : Head) (first rest : List JournalLine)
        → head ≡ head_with_all begins first → KeepsLinesOf begins (first ++ rest) (state f was)
        → IsFiled g (archive_rows begins first) old → (trees : Trees) → (state g new).may_leave trees
        → (state g old).may_leave trees ⊎ HoldsPart begins (first ++ rest) trees
    stops by clean good begins first rest stands keeps filed trees may = elim (by begins first filed good trees may) [
      | inl early ↦ inl early
      | inr holds ↦ inr (holds_more day begins head first rest stands rows
          (shown clean (Rows begins (first ++ rest)) keeps) page of trees holds)
    ]

    pub copies : ((begins : Head) (first : List JournalLine) → FilesRows g (Some (Rows begins first))
        (Some (Rows begins first ++ map filed_kept of.kept)) old new (Ok tt))
        → CopiesPage f g day head was is old new (Ok (record { head = page.head; is_last = page.is_last }))
    copies files = record {
      kept = kept;
      gives_up = tt;
      premise = (files head []).premise;
      shuts = (files head []).shuts;
      still_open = (files head []).still_open;
      more = λ clean good begins first rest stands keeps filed. copied_more day begins head first rest stands rows
          (shown clean (Rows begins (first ++ rest)) keeps) page of g new ((files begins first).made good filed);
      stop = stops (λ begins first filed good. (files begins first).stop good filed);
    }

    pub uncopied_rows : (fault : Fault) → ((begins : Head) (first : List JournalLine)
        → FilesRows g (Some (Rows begins first)) (Some (Rows begins first ++ map filed_kept of.kept)) old new
        (Err fault)) → CopiesPage f g day head was is old new (Err fault)
    uncopied_rows fault files = record {
      kept = kept;
      gives_up = (files head []).gives_up;
      premise = (files head []).premise;
      shuts = (files head []).shuts;
      still_open = λ clean. tt;
      more = λ clean good begins first rest stands keeps filed. tt;
      stop = stops (λ begins first filed good. (files begins first).stop good filed);
    }

-- ---- the pages, one after another

module _ {S A : Type 0} (f : Ghosts S) (g : Ghosts A) (day : ℕ) (begins : Head) where
  -- the archive has these first lines
  pub record CopiedSoFar (lines : List JournalLine) (head : Head) (h : Held A) : Type 0 where
    pub first : List JournalLine
    pub rest : List JournalLine
    pub lines_are : lines ≡ first ++ rest
    pub up_to : AllByRecursion (λ (l : JournalLine). l.day ≤ day) first
    pub head_is : head ≡ head_with_all begins first
    pub filed : IsFiled g (archive_rows begins first) h

  pub record Copying (was is : Held S) (old new : Held A) (head : Head) : Type 0 where
    pub kept : IsUnchangedUnder IsThird (state f was) (state f is)
    pub premise : HasCleanDisk (state g new) → HasCleanDisk (state g old)
    pub shuts : OnlyFaultsShut (state g old) (state g new)
    pub is_open : HasCleanDisk (state g new) → IsTrue (state g new).is_open
    pub so_far : HasCleanDisk (state f is) → HasCleanDisk (state g new) → (lines : List JournalLine)
        → KeepsLinesOf begins lines (state f was) → IsFiled g None old → CopiedSoFar lines head new
    pub stop : HasCleanDisk (state f is) → HasCleanDisk (state g new) → (lines : List JournalLine)
        → KeepsLinesOf begins lines (state f was) → IsFiled g None old → (trees : Trees)
        → (state g new).may_leave trees → (state g old).may_leave trees ⊎ HoldsPart begins lines trees

  -- the table is made
  pub copying_first : (h : Held S) (old new : Held A) → FilesRows g None (archive_rows begins []) old new (Ok tt)
      → (HasCleanDisk (state g new) → IsTrue (state g new).is_open) → Copying h h old new begins
  copying_first h old new files up = record {
    kept = unchanged_itself (state f h);
    premise = files.premise;
    shuts = files.shuts;
    is_open = up;
    so_far = λ clean good lines keeps none. record {
      first = [];
      rest = lines;
      lines_are = refl;
      up_to = tt;
      head_is = refl;
      filed = files.made good none;
    };
    stop = λ clean good lines keeps none trees may. elim (files.stop good none trees may) [
      | inl early ↦ inl early
      | inr holds ↦ inr (record { first = []; rest = lines; lines_are = refl; holds = holds })
    ];
  }

  -- it could not be made
  pub not_begun : (h : Held S) (old new : Held A) (fault : Fault)
      → FilesRows g None (archive_rows begins []) old new (Err fault)
      → WritesArchive f g day begins h h old new (Err fault)
  not_begun h old new fault files = record {
    kept = unchanged_itself (state f h);
    gives_up = files.gives_up;
    premise = files.premise;
    shuts = files.shuts;
    is_open = λ clean. tt;
    head = λ clean good lines keeps days none. tt;
    written = λ clean good lines keeps days none. tt;
    left = λ clean good lines keeps days none. tt;
    stop = λ clean good lines keeps none trees may. elim (files.stop good none trees may) [
      | inl early ↦ inl early
      | inr holds ↦ inr (record { first = []; rest = lines; lines_are = refl; holds = holds })
    ];
  }

  module _ (was mid is : Held S) (old now new : Held A) (head : Head) (so : Copying was mid old now head)
      (r : Result Copied Fault)
      (page : CopiesPage f g day head mid is now new r) where
    still_kept : IsUnchangedUnder IsThird (state f was) (state f is)
    still_kept = still_unchanged (state f was) (state f mid) (state f is) so.kept page.kept

    good_before : HasCleanDisk (state g new) → HasCleanDisk (state g now)
    good_before = page.premise

    clean_before : HasCleanDisk (state f is) → HasCleanDisk (state f mid)
    clean_before clean = page.kept.premise clean

    -- what the file keeps of the lines, at the page
    keeps_now : HasCleanDisk (state f is) → (lines : List JournalLine) → KeepsLinesOf begins lines (state f was)
        → KeepsLinesOf begins lines (state f mid)
    keeps_now clean lines keeps =
        keeping_after (state f was) (state f mid) (journal_rows_in begins (Some lines)) so.kept (clean_before clean)
        keeps

    stop_then : HasCleanDisk (state f is) → HasCleanDisk (state g new) → (lines : List JournalLine)
        → KeepsLinesOf begins lines (state f was) → IsFiled g None old → (trees : Trees)
        → (state g new).may_leave trees → (state g old).may_leave trees ⊎ HoldsPart begins lines trees
    stop_then clean good lines keeps none trees may =
        let far = so.so_far (clean_before clean) (good_before good) lines keeps none in
        elim (page.stop clean good begins far.first far.rest far.head_is (subst (λ ls. KeepsLinesOf begins ls
        (state f mid)) far.lines_are (keeps_now clean lines keeps)) far.filed trees may) [
          | inl early ↦ so.stop (clean_before clean) (good_before good) lines keeps none trees early
          | inr holds ↦ inr (subst (λ ls. HoldsPart begins ls trees) (sym far.lines_are) holds)
        ]

    shuts_then : OnlyFaultsShut (state g old) (state g new)
    shuts_then faults few up = page.shuts faults few (so.shuts faults few up)

  module _ (was mid is : Held S) (old now new : Held A) (head : Head) (so : Copying was mid old now head)
      (next : Copied) (page : CopiesPage f g day head mid is now new (Ok next)) where
    more_then : HasCleanDisk (state f is) → HasCleanDisk (state g new) → (lines : List JournalLine)
        → KeepsLinesOf begins lines (state f was) → (none : IsFiled g None old)
        → (far : CopiedSoFar lines head now) → FilesMore g day begins far.first far.rest next.head next.is_last new
    more_then clean good lines keeps none far =
        page.more clean good begins far.first far.rest far.head_is (subst (λ ls. KeepsLinesOf begins ls (state f mid))
        far.lines_are (keeps_now was mid is old now new head so (Ok next) page clean lines keeps)) far.filed

    far_then : HasCleanDisk (state f is) → HasCleanDisk (state g new) → (lines : List JournalLine)
        → KeepsLinesOf begins lines (state f was) → IsFiled g None old
        → (far : CopiedSoFar lines next.head new) × IfLast next.is_last day far.rest
    far_then clean good lines keeps none =
        let far = so.so_far (page.kept.premise clean) (page.premise good) lines keeps none in
        let it = more_then clean good lines keeps none far in (
          record {
            first = far.first ++ it.more;
            rest = it.left;
            lines_are = far.lines_are ∙ ap (λ ls. far.first ++ ls) it.rest_is
                ∙ sym (append_assoc far.first it.more it.left);
            up_to = all-append (λ (l : JournalLine). l.day ≤ day) far.first it.more far.up_to it.up_to;
            head_is = it.head_is;
            filed = it.filed;
          },
          it.ends,
        )

    pub copying_on : Copying was is old new next.head
    copying_on = record {
      kept = still_kept was mid is old now new head so (Ok next) page;
      premise = λ good. so.premise (page.premise good);
      shuts = shuts_then was mid is old now new head so (Ok next) page;
      is_open = λ good. page.still_open good (so.is_open (page.premise good));
      so_far = λ clean good lines keeps none. (far_then clean good lines keeps none).0;
      stop = stop_then was mid is old now new head so (Ok next) page;
    }

    pub copied_all : next.is_last ≡ true → ((trees : Trees) → IsTrue (state g new).is_open
        → (state g new).may_leave trees → trees ≡ (state g new).committed.trees)
        → (IsTrue (state g new).is_open → (state g new).now ≡ (state g new).committed)
        → WritesArchive f g day begins was is old new (Ok next.head)
    copied_all last settled rests = record {
      kept = copying_on.kept;
      gives_up = tt;
      premise = copying_on.premise;
      shuts = copying_on.shuts;
      is_open = copying_on.is_open;
      head = λ clean good lines keeps days none. let it = far_then clean good lines keeps none in
          (it.0).head_is ∙ ap (head_with_all begins) (all_of_them clean good lines keeps days none);
      written = filed_all;
      left = λ clean good lines keeps days none trees may.
          let up = copying_on.is_open good in
          let same : trees ≡ (state g new).now.trees = settled trees up may
          ∙ ap (λ (d : Database). d.trees) (sym (rests up)) in
          subst (λ ts. HoldsFiled ts (archive_rows begins (archived day lines))) (sym same)
          (filed_all clean good lines keeps days none up).holds;
      stop = copying_on.stop;
    }
      where
        all_of_them : (clean : HasCleanDisk (state f is)) (good : HasCleanDisk (state g new))
            (lines : List JournalLine) (keeps : KeepsLinesOf begins lines (state f was))
            → DaysRise begins.day lines → (none : IsFiled g None old)
            → (far_then clean good lines keeps none).0.first ≡ archived day lines
        all_of_them clean good lines keeps days none =
            let it = far_then clean good lines keeps none in
            let far = it.0 in
            sym (archived_are day begins.day far.first far.rest far.up_to
            (subst (λ (b : Bool). IfLast b day far.rest) last it.1)
            (subst (DaysRise begins.day) far.lines_are days)) ∙ ap (archived day) (sym far.lines_are)

        filed_all : HasCleanDisk (state f is) → HasCleanDisk (state g new) → (lines : List JournalLine)
            → KeepsLinesOf begins lines (state f was) → DaysRise begins.day lines → IsFiled g None old
            → IsFiled g (archive_rows begins (archived day lines)) new
        filed_all clean good lines keeps days none live =
            subst (λ ls. Serves filing_schema HoldsFiled (state g new).now (archive_rows begins ls))
            (all_of_them clean good lines keeps days none) ((far_then clean good lines keeps none).0.filed live)

  -- a page could not be copied
  pub not_copied : (was mid is : Held S) (old now new : Held A) (head : Head) → Copying was mid old now head
      → (fault : Fault) → CopiesPage f g day head mid is now new (Err fault)
      → WritesArchive f g day begins was is old new (Err fault)
  not_copied was mid is old now new head so fault page = record {
    kept = still_kept was mid is old now new head so (Err fault) page;
    gives_up = page.gives_up;
    premise = λ good. so.premise (page.premise good);
    shuts = shuts_then was mid is old now new head so (Err fault) page;
    is_open = λ good. tt;
    head = λ clean good lines keeps days none. tt;
    written = λ clean good lines keeps days none. tt;
    left = λ clean good lines keeps days none. tt;
    stop = stop_then was mid is old now new head so (Err fault) page;
  }

  -- the pages had no end
  pub endless : (was is : Held S) (old new : Held A) (head : Head) → Copying was is old new head
      → WritesArchive f g day begins was is old new (Err F20)
  endless was is old new head so = record {
    kept = so.kept;
    gives_up = refl;
    premise = so.premise;
    shuts = so.shuts;
    is_open = λ good. tt;
    head = λ clean good lines keeps days none. tt;
    written = λ clean good lines keeps days none. tt;
    left = λ clean good lines keeps days none. tt;
    stop = so.stop;
  }

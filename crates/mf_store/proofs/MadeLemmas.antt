-- From writes that were made with the line of their request, or not, to the commit.
use Rattle.std.proofs.Common.{◌≡◌, ◌∙◌, ◌++◌, ℕ, List, [], ◌∷◌, Option, None, Some, Result, Ok, Err, IsTrue}
use Rattle.std.proofs.Common.{refl, inr, sym, ap, subst}
use Rattle.std.proofs.lemmas.List.{append_assoc, map-append}
use Rattle.std.specs.Prelude.{is_ok}
use Rattle.sqlite.specs.Held.{Held}
use Rattle.sqlite_trees.specs.declared.store.Store.{Ghosts}
use Rattle.mf_base.specs.declared.fault.Fault.{Fault}
use Rattle.mf_base.specs.declared.fault.Fault.TheVariants.{F20}
use Rattle.mf_office.specs.declared.account.Account.{Account}
use Rattle.mf_account.specs.Change.{KeptAccount}
use Rattle.mf_model.specs.declared.commit.Commit.{Commit}
use Rattle.mf_model.specs.Institution.{Institution, JournalLine, Noted, after, noted_line, with_line, Change}
use Rattle.mf_model.specs.Institution.{Catalogue_becomes, Rows_become, Office_added}
use Rattle.mf_model.specs.Store.{IsAdmitted, account_at, after_commit, change_of}
use Rattle.mf_store_schema.specs.declared.writes.StoreWrite.{StoreWrite}
use Rattle.mf_store_commits.specs.Becoming.{Becomes, SpareMeta}
use Rattle.mf_store_noted.specs.Becoming.{BecomesBeside, BecomesKept}
use Rattle.mf_store_noted.specs.Kept.{IsJournalOf, IsToday, begins_of, journal_at}
use Rattle.mf_store_noted.specs.Tabled.{IsTabled, LeavesTables}
use Rattle.mf_store_noted.specs.Writing.{MakesWrites, day_at, noted_after, with_line_after}
use Rattle.mf_store_journal.specs.Index.{AreOfFirst, index_entry, index_of}
use Rattle.mf_store_journal.specs.declared.index.IndexEntry.{IndexEntry}
use Rattle.mf_store_journal.specs.declared.journal.Journal.{Journal}
use Rattle.mf_store_noted.specs.declared.journal.Place.{Place}
use Rattle.mf_store_noted.proofs.BesideLemmas.{becomes_beside, begun_of}
use Rattle.mf_store.specs.Facts.{Facts, KnownStore, AreTrueOf}
use Rattle.mf_store.specs.Learning.{Tells}
use Rattle.mf_store.specs.declared.known.News.TheVariants as news
use Rattle.mf_store.specs.Stands.{StandsFor, IsClean, Leaves, Stays, MakesCommit, WritesNoted}
use Rattle.mf_store.proofs.KeptLemmas.{account_told, shuts_alike, tabled}

-- ---- writes beside a journal, wherever it begins

pub beside : {writes : List StoreWrite} {i j : Institution} → j.catalogue.day ≡ i.catalogue.day → j.journal ≡ i.journal
    → SpareMeta writes → Becomes writes i j → BecomesBeside writes i j
beside {writes} {i} {j} day same spare becomes =
    λ journal begun. becomes_beside journal writes i j becomes spare day same

-- ---- the line

-- the line of the next place is that of the business day
line_is : (place : Option Place) (noted : Noted) (i j : Institution) → IsJournalOf (journal_at place) i
    → IsToday place i → with_line_after (noted_line (day_at place) noted) i j ≡ noted_after noted i j
line_is None noted i j none today =
    ap (λ (q : Option (List _)). record j { journal = q }) (ap (with_line (noted_line 0 noted)) none
    ∙ sym (ap (with_line (noted_line i.catalogue.day noted)) none))
line_is (Some place) noted i j stands today = ap (λ (d : ℕ). with_line_after (noted_line d noted) i j) today

-- what holds of the first lines holds of them where there is one more
first_noted : (line : JournalLine) (entries : List IndexEntry) (kept : Option (List JournalLine))
    → AreOfFirst entries kept → AreOfFirst entries (with_line line kept)
first_noted line entries None first = first
first_noted line entries (Some lines) first = (
  first.0 ++ index_entry line ∷ [],
  map-append index_entry lines (line ∷ []) ∙ ap (λ es. es ++ index_entry line ∷ []) first.1
      ∙ append_assoc entries first.0 (index_entry line ∷ []),
)

-- a change is none of the journal
journal_stays : (change : Change) (i : Institution) → (after change i).journal ≡ i.journal
journal_stays (Catalogue_becomes catalogue) i = refl
journal_stays (Rows_become x rows) i = refl
journal_stays (Office_added number parent name) i = refl

true_noted : (f : Facts) (noted : Noted) (i j : Institution) → j.journal ≡ i.journal → AreTrueOf f j
    → AreTrueOf f (noted_after noted i j)
true_noted f noted i j same t = record {
  counts = t.counts;
  catalogue = t.catalogue;
  day = t.day;
  roles = t.roles;
  keys = t.keys;
  products = t.products;
  accounts = t.accounts;
  index = first_noted (noted_line i.catalogue.day noted) f.index i.journal
      (t.index.0, sym (ap index_of same) ∙ t.index.1);
}

module _ {S : Type 0} (g : Ghosts S) where
  stands_known : (k : KnownStore S) (e : Facts) (i : Institution) → IsTabled g k.journal k.connection i → AreTrueOf e i
      → StandsFor g (record k { known = e }) i
  stands_known k e i t known =
      record { sound = t.kept.sound; serves = t.kept.serves; journal = t.keeps; knows = known }

  -- ---- from the writes to what the store stands for

  module _ (first mid : KnownStore S) (place : Option Place) (noted : Noted) (writes : List StoreWrite) (new : Held S)
      (kept : Stays g first mid) (here : journal_at place ≡ mid.journal)
      (today : IsClean g mid → (i : Institution) → StandsFor g first i → IsToday place i) where
    tabled_at : IsClean g mid → (i : Institution) → StandsFor g first i
        → IsTabled g (journal_at place) mid.connection i
    tabled_at clean i s =
        subst (λ j. IsTabled g j mid.connection i) (sym here) (tabled g mid i (kept.same clean i s))

    same_line : (clean : IsClean g mid) (i j : Institution) → StandsFor g first i
        → with_line_after (noted_line (day_at place) noted) i j ≡ noted_after noted i j
    same_line clean i j s = line_is place noted i j (tabled_at clean i s).keeps (today clean i s)

    become : (clean : IsClean g mid) (i j : Institution) → StandsFor g first i → BecomesBeside writes i j
        → BecomesKept (begins_of (journal_at place)) writes i j
    become clean i j s b =
        b (begins_of (journal_at place)) (begun_of (journal_at place) i (tabled_at clean i s).keeps)

    pub written : (next : Option Journal) → MakesWrites g (journal_at place) writes (noted_line (day_at place) noted)
        mid.connection new (Ok next)
        → WritesNoted g writes noted first (record { connection = new; known = mid.known; journal = next }) (Ok tt)
    written next m = record {
      premise = λ clean. kept.premise (m.premise clean);
      gives_up = tt;
      shuts = λ n o. shuts_alike g mid.connection new m.shuts n (kept.shuts n o);
      stays_open = m.is_open;
      known = λ clean i s. (kept.same (m.premise clean) i s).knows;
      made = λ clean i j s b. let good = m.premise clean in subst (IsTabled g next new) (same_line good i j s)
          (m.made clean i j (tabled_at good i s) (become good i j s b));
      left = λ clean i j s b. let good = m.premise clean in subst (λ k. LeavesTables g new (k ∷ []))
          (same_line good i j s) (m.left clean i j (tabled_at good i s) (become good i j s b));
      same = λ clean. tt;
      stop = λ clean i j is s b l. let good = m.premise clean in subst (λ k. LeavesTables g new (k ∷ is))
          (same_line good i j s)
          (m.stop clean i j is (tabled_at good i s) (become good i j s b) (kept.stop good is l));
    }

    pub unwritten : (fault : Fault) → MakesWrites g (journal_at place) writes (noted_line (day_at place) noted)
        mid.connection new (Err fault)
        → WritesNoted g writes noted first (record { connection = new; known = mid.known; journal = mid.journal })
        (Err fault)
    unwritten fault m = record {
      premise = λ clean. kept.premise (m.premise clean);
      gives_up = m.gives_up;
      shuts = λ n o. shuts_alike g mid.connection new m.shuts n (kept.shuts n o);
      stays_open = λ clean. tt;
      known = λ clean i s. (kept.same (m.premise clean) i s).knows;
      made = λ clean. tt;
      left = λ clean. tt;
      same = λ clean i s. let good = m.premise clean in
          let t = subst (λ j. IsTabled g j new i) here (m.same clean i (tabled_at good i s)) in record {
            sound = t.kept.sound;
            serves = t.kept.serves;
            journal = t.keeps;
            knows = (kept.same good i s).knows;
          };
      stop = λ clean i j is s b l. let good = m.premise clean in subst (λ k. LeavesTables g new (k ∷ is))
          (same_line good i j s)
          (m.stop clean i j is (tabled_at good i s) (become good i j s b) (kept.stop good is l));
    }

  -- where no place was found for the line
  pub unplaced : (first mid : KnownStore S) (writes : List StoreWrite) (noted : Noted) (fault : Fault)
      → Stays g first mid → fault ≡ F20 → WritesNoted g writes noted first mid (Err fault)
  unplaced first mid writes noted fault kept gives_up = record {
    premise = kept.premise;
    gives_up = gives_up;
    shuts = kept.shuts;
    stays_open = λ clean. tt;
    known = λ clean i s. (kept.same clean i s).knows;
    made = λ clean. tt;
    left = λ clean. tt;
    same = kept.same;
    stop = λ clean i j is s b l. let left = kept.stop clean is l in
        record { ours = left.ours; whole = λ good trees may. inr (left.whole good trees may) };
  }

  -- ---- from what the store stands for to the commit

  module _ (commit : Commit) (first mid now : KnownStore S) (writes : List StoreWrite) (noted : Noted)
      (kept : Stays g first mid)
      (becomes : IsClean g mid → (i : Institution) → StandsFor g first i → IsAdmitted commit i
      → BecomesBeside writes i (after_commit commit i)) where
    stops : {r : Result (Unit {0}) Fault} → WritesNoted g writes noted mid now r → IsClean g now → (i : Institution)
        (is : List Institution) → StandsFor g first i → IsAdmitted commit i → Leaves g first is
        → Leaves g now (noted_after noted i (after_commit commit i) ∷ is)
    stops w clean i is s admitted l = let good = w.premise clean in
        w.stop clean i (after_commit commit i) is (kept.same good i s) (becomes good i s admitted)
        (kept.stop good is l)

    -- the writes were made, and e is known then
    pub committed : (e : Facts) → WritesNoted g writes noted mid now (Ok tt)
        → ((i : Institution) → AreTrueOf now.known i → IsAdmitted commit i → StandsFor g first i → IsClean g mid
        → AreTrueOf e (after_commit commit i))
        → MakesCommit g commit noted first (record now { known = e }) (Ok tt)
    committed e w learns = record {
      commits = record {
        premise = λ clean. kept.premise (w.premise clean);
        made = λ clean i s admitted. let good = w.premise clean in stands_known now e
            (noted_after noted i (after_commit commit i))
            (w.made clean i (after_commit commit i) (kept.same good i s) (becomes good i s admitted))
            (true_noted e noted i (after_commit commit i) (journal_stays (change_of commit i) i)
            (learns i (w.known clean i (kept.same good i s)) admitted s good));
        kept = λ clean i s admitted. let good = w.premise clean in
            w.left clean i (after_commit commit i) (kept.same good i s) (becomes good i s admitted);
        same = λ clean i s. tt;
        gives_up = tt;
        stop = stops w;
      };
      shuts = λ n o. w.shuts n (kept.shuts n o);
      stays_open = w.stays_open;
    }

    -- they weren't, and what is known then is so in the institution of before
    pub uncommitted : (e : Facts) (fault : Fault) → WritesNoted g writes noted mid now (Err fault)
        → ((i : Institution) → AreTrueOf now.known i → AreTrueOf e i)
        → MakesCommit g commit noted first (record now { known = e }) (Err fault)
    uncommitted e fault w still = record {
      commits = record {
        premise = λ clean. kept.premise (w.premise clean);
        made = λ clean i s admitted. tt;
        kept = λ clean i s admitted. tt;
        same = λ clean i s. let t = w.same clean i (kept.same (w.premise clean) i s) in
            record { sound = t.sound; serves = t.serves; journal = t.journal; knows = still i t.knows };
        gives_up = w.gives_up;
        stop = stops w;
      };
      shuts = λ n o. w.shuts n (kept.shuts n o);
      stays_open = λ clean. tt;
    }

  -- a commit that may change a loan's account, which is known then where the commit was made
  pub account_commits : (commit : Commit) (loan : Account) (account : KeptAccount) (old now : KnownStore S) (e : Facts)
      (writes : List StoreWrite) (noted : Noted) (r : Result (Unit {0}) Fault)
      → Stays g old old
      → ((i : Institution) → Tells (news.Account loan) i (after_commit commit i))
      → ((i : Institution) → IsAdmitted commit i → account_at loan (after_commit commit i) ≡ Some account)
      → ((i j : Institution) → AreTrueOf now.known i → Tells (news.Account loan) i j
      → (IsTrue (is_ok r) → account_at loan j ≡ Some account) → AreTrueOf e j)
      → ((i : Institution) → StandsFor g old i → IsAdmitted commit i → BecomesBeside writes i (after_commit commit i))
      → WritesNoted g writes noted old now r → MakesCommit g commit noted old (record now { known = e }) r
  account_commits commit loan account old now e writes noted (Ok tt) same tells is learns becomes w =
      committed commit old old now writes noted same (λ clean. becomes) e w
      (λ i known admitted s clean. learns i (after_commit commit i) known (tells i) (λ _. is i admitted))
  account_commits commit loan account old now e writes noted (Err fault) same tells is learns becomes w =
      uncommitted commit old old now writes noted same (λ clean. becomes) e fault w
      (λ i known. learns i i known (account_told loan i) (λ made. absurd (cc)))

-- A store that begins a journal, from what the connection shows.
use Rattle.std.proofs.Common.{◌≡◌, ◌∙◌, Option, None, Some, Ok, Err, IsSome}
use Rattle.std.proofs.Common.{refl, sym, ap, subst, true≢false, ℕ}
use Rattle.std.specs.Option.{is_some}
use Rattle.sqlite.specs.Held.{Held}
use Rattle.sqlite_trees.specs.declared.store.Store.{Ghosts}
use Rattle.mf_base.specs.declared.fault.Fault.{Fault}
use Rattle.mf_model.specs.Institution.{Institution}
use Rattle.mf_store_values.specs.Flat.{tables_of}
use Rattle.mf_store_journal.specs.Index.{index_of}
use Rattle.mf_store_journal.specs.declared.journal.Journal.{Journal}
use Rattle.mf_store_noted.specs.Kept.{IsJournalOf, journaled}
use Rattle.mf_store_noted.specs.Tabled.{IsTabled}
use Rattle.mf_store_noted.specs.Upgrading.{GetsJournal, upgrading}
use Rattle.mf_store.specs.Facts.{Facts, KnownStore, AreTrueOf}
use Rattle.mf_store.specs.Beginning.{BeginsJournal}
use Rattle.mf_store.specs.Stands.{StandsFor, IsClean, Stays}
use Rattle.mf_store.proofs.KeptLemmas.{shuts_alike, tabled}

-- what is known doesn't speak of a journal that has no line
true_journaled : (f : Facts) (i : Institution) → i.journal ≡ None → AreTrueOf f i → AreTrueOf f (journaled i)
true_journaled f i none t = record {
  counts = t.counts;
  catalogue = t.catalogue;
  day = t.day;
  roles = t.roles;
  keys = t.keys;
  products = t.products;
  accounts = t.accounts;
  index = (t.index.0, sym (ap index_of none) ∙ t.index.1);
}

never_some : {A P : Type 0} (o : Option A) → o ≡ None → IsSome o → P
never_some o none some = absurd (true≢false (sym some ∙ ap is_some none))

module _ {S : Type 0} (g : Ghosts S) where
  -- one that keeps a journal
  pub keeps_it : (k : KnownStore S) → IsSome k.journal → BeginsJournal g k k (Ok tt)
  keeps_it k some = record {
    premise = λ clean. clean;
    gives_up = tt;
    shuts = λ n o. o;
    stays_open = λ clean live. live;
    kept = λ again. (refl, refl);
    made = λ clean i s none. contrary i s none;
    begins = λ clean i s none. contrary i s none;
    fits = λ clean i s none. contrary i s none;
    left = λ clean i s none. contrary i s none;
    same = λ clean. tt;
    stop = λ clean i is s none l. contrary i s none;
  }
    where
      contrary : {P : Type 0} (i : Institution) → StandsFor g k i → i.journal ≡ None → P
      contrary i s none = go k.journal some s.journal
        where
          go : {P : Type 0} (o : Option Journal) → IsSome o
              → IsJournalOf o i → P
          go None is has = absurd (true≢false (sym is))
          go (Some j) is has = absurd (let never : None ≡ Some has.0 = sym none ∙ has.1 in cc)

  module _ (old mid : KnownStore S) (new : Held S) (day : ℕ) (stays : Stays g old mid) (none : old.journal ≡ None)
      (today : IsClean g mid → (i : Institution) → StandsFor g old i → day ≡ i.catalogue.day) where
    tabled_mid : IsClean g mid → (i : Institution) → StandsFor g old i → IsTabled g None mid.connection i
    tabled_mid clean i s = subst (λ j. IsTabled g j mid.connection i) (stays.journal ∙ none)
        (tabled g mid i (stays.same clean i s))

    -- the journal began
    pub began : (journal : Journal) → GetsJournal g day mid.connection new (Ok journal)
        → BeginsJournal g old (record { connection = new; known = mid.known; journal = Some journal }) (Ok tt)
    began journal gets = record {
      premise = λ clean. stays.premise (gets.premise clean);
      gives_up = tt;
      shuts = λ n o. shuts_alike g mid.connection new gets.shuts n (stays.shuts n o);
      stays_open = λ clean live. gets.is_open clean;
      kept = λ some. never_some old.journal none some;
      made = λ clean i s no.
          let good = gets.premise clean in
          let t = gets.made clean i (tabled_mid good i s) (sym (today good i s)) in
          record {
            sound = t.kept.sound;
            serves = t.kept.serves;
            journal = t.keeps;
            knows = true_journaled mid.known i no (stays.same good i s).knows;
          };
      begins = λ clean i s no. let good = gets.premise clean in
          ap Some (gets.begins clean i (tabled_mid good i s) ∙ ap (λ d. upgrading d (tables_of i)) (today good i s));
      fits = λ clean i s no. let good = gets.premise clean in gets.fits clean i (tabled_mid good i s);
      left = λ clean i s no. let good = gets.premise clean in
          gets.left clean i (tabled_mid good i s) (sym (today good i s));
      same = λ clean. tt;
      stop = λ clean i is s no l. let good = gets.premise clean in
          gets.stop clean i is (tabled_mid good i s) (sym (today good i s)) (stays.stop good is l);
    }

    -- it did not
    pub not_begun : (fault : Fault) → GetsJournal g day mid.connection new (Err fault)
        → BeginsJournal g old (record { connection = new; known = mid.known; journal = mid.journal }) (Err fault)
    not_begun fault gets = record {
      premise = λ clean. stays.premise (gets.premise clean);
      gives_up = gets.gives_up;
      shuts = λ n o. shuts_alike g mid.connection new gets.shuts n (stays.shuts n o);
      stays_open = λ clean live. tt;
      kept = λ some. never_some old.journal none some;
      made = λ clean. tt;
      begins = λ clean. tt;
      fits = λ clean. tt;
      left = λ clean. tt;
      same = λ clean i s.
          let good = gets.premise clean in
          let t = subst (λ j. IsTabled g j new i) (sym (stays.journal ∙ none))
          (gets.same clean i (tabled_mid good i s)) in
          record {
            sound = t.kept.sound;
            serves = t.kept.serves;
            journal = t.keeps;
            knows = (stays.same good i s).knows;
          };
      stop = λ clean i is s no l. let good = gets.premise clean in
          gets.stop clean i is (tabled_mid good i s) (sym (today good i s)) (stays.stop good is l);
    }

-- What a store stands for, with what it knows, after a query and after a commit.
use Rattle.std.proofs.Common.{◌≡◌, ◌≢◌, ◌-◌, ◌∷◌, ℕ, zero, suc, Bool, true, false, true≢false, cond}
use Rattle.std.proofs.Common.{List, [], take, Option, None, Some, Result, Ok, Err, OnOk, OnErr, IsSome, IsTrue, IfErr}
use Rattle.std.proofs.Common.{IsOk, refl, sym, ap, ap₂, ◌∙◌, subst, arith, nat_eq, ◌==◌}
use Rattle.std.specs.Option.{is_some, option_map, option_map_or}
use Rattle.std.specs.Prelude.{IfSome}
use Rattle.std.specs.Map.{keys_of, lookup, lookup_entry, remove_entry}
use Rattle.std.specs.List.{IsDistinct}
use Rattle.std.proofs.lemmas.Map.{lookup-remove_entry}
use Rattle.std.proofs.lemmas.Bool.{false_from_ne_true}
use Rattle.std.proofs.lemmas.Bool.Decides.{nat_tests}
use Rattle.std.specs.Prelude.{◌&&◌, not}
use Rattle.std.specs.Cmp.{IsEquivalence, nat_eq_equiv}
use Rattle.lru.specs.LruCache.{LruCache, lru_cache, put_entries}
use Rattle.lru.proofs.CallerLemmas.{Contains-lookup_entry, lookup-put_entries}
use Rattle.sqlite.specs.Held.{Held, state}
use Rattle.sqlite_trees.specs.declared.store.Store.{Ghosts}
use Rattle.mf_model.specs.Institution.{Institution, Office, office_at}
use Rattle.mf_model.specs.Tree.{is_there, parent_of}
use Rattle.mf_office.specs.Keys.{key_of}
use Rattle.sqlite_keyed.proofs.SliceLemmas.{is_some-map}
use Rattle.mf_model.specs.declared.store.Counts.{Counts}
use Rattle.mf_office.specs.declared.account.Account.{Account}
use Rattle.mf_account.specs.Change.{KeptAccount}
use Rattle.mf_base.specs.declared.fault.Fault.{Fault}
use Rattle.mf_base.specs.declared.fault.Fault.TheVariants.{F20}
use Rattle.mf_model.specs.Store.{account_at, counts_at, catalogue_counts}
use Rattle.mf_store.specs.Facts.{Facts, KnownStore, AreTrueOf, account_key, same_key, nothing_known}
use Rattle.mf_store.proofs.CatalogueLemmas.{some_is}
use Rattle.mf_store.specs.Learning.{Tells, counts_told, catalogue_told, day_told}
use Rattle.mf_store.specs.declared.known.News.{News}
use Rattle.mf_store.specs.declared.known.News.TheVariants.{OfficeCounts, BusinessDay}
use Rattle.mf_store.specs.declared.known.News.TheVariants as news
use Rattle.mf_store_noted.specs.Kept.{begins_of}
use Rattle.mf_store_noted.specs.Tabled.{IsTabled, HasGoodDisk, LeavesTables}
use Rattle.mf_store_journal.specs.Index.{index_of}
use Rattle.mf_store_journal.specs.declared.journal.Journal.{Journal}
use Rattle.mf_store_noted.proofs.TurnedLemmas.{unchanged_stays}
use Rattle.mf_store_schema.specs.Calls.{IsAsBefore, OnlyFaultsShut}
use Rattle.mf_store.specs.Stands.{StandsFor, IsClean, IsOpen, IsOpenUntil, Stays, AsksTables, MayAskTables}

module _ {S : Type 0} (g : Ghosts S) where
  pub tabled : (k : KnownStore S) (i : Institution) → StandsFor g k i → IsTabled g k.journal k.connection i
  tabled k i s = record { kept = record { sound = s.sound; serves = s.serves }; keeps = s.journal }

  pub stays_same : (h : KnownStore S) → Stays g h h
  stays_same h = record { premise = λ c. c; journal = refl; shuts = λ n o. o; same = λ c i s. s; stop = λ c is l. l }

  pub stays_then : (a b c : KnownStore S) → Stays g a b → Stays g b c → Stays g a c
  stays_then a b c p q = record {
    premise = λ clean. p.premise (q.premise clean);
    journal = q.journal ∙ p.journal;
    shuts = λ n o. q.shuts n (p.shuts n o);
    same = λ clean i s. q.same clean i (p.same (q.premise clean) i s);
    stop = λ clean is l. q.stop clean is (p.stop (q.premise clean) is l);
  }

-- ---- a cache after `put`

module _ {K V : Type 0} (eq : K → K → Bool) (exact : (a b : K) → eq a b ≡ true → a ≡ b) where
  other_kept : (x y : K) (es : List (K × V)) → x ≢ y → lookup (eq y) (remove_entry (eq x) es) ≡ lookup (eq y) es
  other_kept x y [] ne = refl
  other_kept x y (e ∷ es) ne =
      let apart : eq x e.0 ≡ true → eq y e.0 ≡ false = λ is. false_from_ne_true (eq y e.0)
      (λ also. ne (exact x e.0 is ∙ sym (exact y e.0 also))) in
      grind (arith, apart, other_kept x y es ne)

  taken_there : (n : ℕ) (y : K) (es : List (K × V)) (v : V) → lookup (eq y) (take n es) ≡ Some v → lookup (eq y) es
      ≡ Some v
  taken_there zero y es v h = absurd (let k : None ≡ Some v = h in cc)
  taken_there (suc n) y [] v h = h
  taken_there (suc n) y (e ∷ es) v h = grind (arith, taken_there n y es v)

  -- what is found of another key was found before
  put_other : (c : LruCache K V) (x : K) (v : V) (y : K) (w : V) → x ≢ y → lookup (eq y) (put_entries eq c x v) ≡ Some w
      → lookup (eq y) c.entries ≡ Some w
  put_other c x v y w ne = go (lookup_entry (eq x) c.entries) refl
    where
      apart : eq y x ≡ false
      apart = false_from_ne_true (eq y x) (λ also. ne (sym (exact y x also)))

      go : (o : Option (K × V)) → lookup_entry (eq x) c.entries ≡ o
          → lookup (eq y) (option_map_or (λ e. (e.0, v) ∷ remove_entry (eq x) c.entries) o ((x, v)
          ∷ take (c.cap - 1) c.entries)) ≡ Some w → lookup (eq y) c.entries ≡ Some w
      go None e h = taken_there (c.cap - 1) y c.entries w (rw apart at h)
      go (Some f) e h =
          let key : eq x f.0 ≡ true = (Contains-lookup_entry (eq x) c.entries f e).1 in
          let other : eq y f.0 ≡ false =
          false_from_ne_true (eq y f.0) (λ also. ne (exact x f.0 key ∙ sym (exact y f.0 also))) in
          sym (other_kept x y c.entries ne) ∙ (rw other at h)

pub nat_exact : (a b : ℕ) → nat_eq a b ≡ true → a ≡ b
nat_exact a b is = grind (arith, nat_tests)

pub key_exact : (a b : ℕ × ℕ) → same_key a b ≡ true → a ≡ b
key_exact a b is =
    let office : a.0 ≡ b.0 = grind (arith, nat_tests) in
    let staff : a.1 ≡ b.1 = grind (arith, nat_tests) in
    ap₂ (λ x y. (x, y)) office staff

pub key_laws : IsEquivalence same_key
key_laws = record {
  refl = λ x. grind (arith, nat_tests);
  symm = λ x y. ap₂ (λ a b. a && b) (nat_eq_equiv.symm x.0 y.0) (nat_eq_equiv.symm x.1 y.1);
  congr = λ x y z is. ap (λ k. same_key k z) (key_exact x y is);
}

-- what holds of each key and its value does so once a value is kept under x, or could not be
pub put_true : {K V R E : Type 0} (eq : K → K → Bool) (exact : (a b : K) → eq a b ≡ true → a ≡ b)
    (laws : IsEquivalence eq) (P : K → V → Type 0) (old new : LruCache K V) (x : K) (v : V) (r : Result R E)
    → OnOk r (new ≡ lru_cache (put_entries eq old x v) old.cap) → OnErr r (new ≡ old) → P x v
    → ((y : K) (w : V) → (x ≡ y → IsOk r → ⊥) → lookup (eq y) old.entries ≡ Some w → P y w)
    → (y : K) (w : V) → lookup (eq y) new.entries ≡ Some w → P y w
put_true {K} {V} eq exact laws P old new x v (Ok o) ok err here before y w h = go (eq x y) refl
  where
    found : lookup (eq y) (put_entries eq old x v) ≡ Some w
    found = sym (ap (λ (n : LruCache K V). lookup (eq y) n.entries) ok) ∙ h

    go : (b : Bool) → eq x y ≡ b → P y w
    go true e =
        let same : x ≡ y = exact x y e in
        let is : w ≡ v = some_is (sym (lookup-put_entries eq old x v laws)
        ∙ (λ k. lookup (eq (same k)) (put_entries eq old x v)) ∙ found) in
        subst (λ z. P z w) same (subst (P x) (sym is) here)
    go false e = let ne : x ≢ y = (λ same. true≢false (sym (laws.refl x) ∙ ap (eq x) same ∙ e)) in
        before y w (λ same is. ne same) (put_other eq exact old x v y w ne found)
put_true {K} {V} eq exact laws P old new x v (Err e) ok err here before y w h = before y w
    (λ same is. true≢false (sym is)) (sym (ap (λ (n : LruCache K V). lookup (eq y) n.entries) err) ∙ h)

-- what is known of the offices' rows, once one office's were kept, or could not be
pub counts_learnt : {E : Type 0} (old new : LruCache ℕ Counts) (x : ℕ) (v : Counts) (r : Result (Option Counts) E)
    (i j : Institution)
    → OnOk r (new ≡ lru_cache (put_entries nat_eq old x v) old.cap) → OnErr r (new ≡ old)
    → (IsSome (lookup (nat_eq x) old.entries) → IsOk r)
    → ((y : ℕ) (c : Counts) → lookup (nat_eq y) old.entries ≡ Some c → c ≡ counts_at y i)
    → ((y : ℕ) → counts_at y j ≡ cond (x == y) v (counts_at y i))
    → (y : ℕ) (c : Counts) → lookup (nat_eq y) new.entries ≡ Some c → c ≡ counts_at y j
counts_learnt old new x v r i j ok err there known told =
    put_true nat_eq nat_exact nat_eq_equiv (λ y c. c ≡ counts_at y j) old new x v r ok err
    (sym (told x ∙ told_where x true (grind (arith, nat_tests))))
    (λ y c other h. known y c h ∙ sym (told y ∙ told_where y false (apart y c other h)))
  where
    told_where : (y : ℕ) (b : Bool) → (x == y) ≡ b → cond (x == y) v (counts_at y i) ≡ cond b v (counts_at y i)
    told_where y b e = ap (λ t. cond t v (counts_at y i)) e

    apart : (y : ℕ) (c : Counts) → (x ≡ y → IsOk r → ⊥) → lookup (nat_eq y) old.entries ≡ Some c → (x == y) ≡ false
    apart y c other h = let ne : x ≢ y = λ same. other same (there (subst (λ o. IsSome o)
        (sym ((λ k. lookup (nat_eq (same k)) old.entries) ∙ h)) refl)) in grind (arith, nat_tests)

-- what is known stays so where the accounts are others that are so
pub accounts_become : (f : Facts) (i : Institution) (accounts : List ((ℕ × ℕ) × KeptAccount)) → AreTrueOf f i
    → ((a : Account) (x : KeptAccount) → lookup (same_key (account_key a)) accounts ≡ Some x → account_at a i ≡ Some x)
    → AreTrueOf (record f { accounts = accounts }) i
accounts_become f i accounts known so = record {
  counts = known.counts;
  catalogue = known.catalogue;
  day = known.day;
  roles = known.roles;
  keys = known.keys;
  products = known.products;
  accounts = so;
  index = known.index;
}

-- the accounts, once one was kept, or could not be
pub accounts_learnt : {R E : Type 0} (old new : LruCache (ℕ × ℕ) KeptAccount) (loan : Account) (account : KeptAccount)
    (r : Result R E) (i : Institution)
    → OnOk r (new ≡ lru_cache (put_entries same_key old (account_key loan) account) old.cap) → OnErr r (new ≡ old)
    → account_at loan i ≡ Some account
    → ((a : Account) (x : KeptAccount) → lookup (same_key (account_key a)) old.entries ≡ Some x → account_at a i
    ≡ Some x)
    → (a : Account) (x : KeptAccount) → lookup (same_key (account_key a)) new.entries ≡ Some x → account_at a i ≡ Some x
accounts_learnt old new loan account r i ok err so known a =
    put_true same_key key_exact key_laws (λ k x. account_at (record { office = k.0; number = k.1 }) i ≡ Some x) old new
    (account_key loan) account r ok err so (λ k x other. known (record { office = k.0; number = k.1 }) x)
    (account_key a)

-- what holds of what is kept holds of what is read of it
pub found_true : {R V : Type 0} (read : R → V) (P : V → Type 0) (kept : Option V) (r : Option R) → option_map read r
    ≡ kept → ((v : V) → kept ≡ Some v → P v) → IfSome r (λ x. P (read x))
found_true read P kept None is so = tt
found_true read P kept (Some x) is so = so (read x) (sym is)

-- an office whose key is known is there
pub key_there : (f : Facts) (i : Institution) (x : ℕ) (kept : Option (List ℕ)) → AreTrueOf f i
    → lookup (nat_eq x) f.keys ≡ kept → IsTrue (is_some kept) → is_there i.offices x ≡ true
key_there f i x None known is some = absurd (true≢false (sym some))
key_there f i x (Some k) known is some =
    sym (is_some-map (λ (o : Office). key_of (parent_of i.offices) o.number) (office_at x i.offices))
    ∙ ap is_some (known.keys x k is)

-- what is found once a key is taken out
taken_out : {V : Type 0} (old new : LruCache (ℕ × ℕ) V) (k : ℕ × ℕ) (cap : ℕ) → IsDistinct same_key (keys_of
    old.entries) → new ≡ lru_cache (remove_entry (same_key k) old.entries) cap → (q : ℕ × ℕ)
    → lookup (same_key q) new.entries ≡ cond (same_key k q) None (lookup (same_key q) old.entries)
taken_out {V} old new k cap apart is q =
    ap (λ (n : LruCache (ℕ × ℕ) V). lookup (same_key q) n.entries) is ∙ lookup-remove_entry key_laws (same_key k)
    (λ x y e. ap (λ z. same_key z y) (key_exact k x e)) q old.entries apart

-- the accounts that are left are so
pub accounts_left : (old new : LruCache (ℕ × ℕ) KeptAccount) (k : ℕ × ℕ) (cap : ℕ) (i : Institution)
    → IsDistinct same_key (keys_of old.entries) → new ≡ lru_cache (remove_entry (same_key k) old.entries) cap
    → ((a : Account) (x : KeptAccount) → lookup (same_key (account_key a)) old.entries ≡ Some x → account_at a i
    ≡ Some x)
    → (a : Account) (x : KeptAccount) → lookup (same_key (account_key a)) new.entries ≡ Some x → account_at a i ≡ Some x
accounts_left old new k cap i apart is known a x h =
    let left : cond (same_key k (account_key a)) None (lookup (same_key (account_key a)) old.entries) ≡ Some x =
    sym (taken_out old new k cap apart is (account_key a)) ∙ h in
    known a x (grind (arith, left))

-- and that one is none of them
pub account_gone : (old new : LruCache (ℕ × ℕ) KeptAccount) (k : ℕ × ℕ) (cap : ℕ)
    → IsDistinct same_key (keys_of old.entries) → new ≡ lru_cache (remove_entry (same_key k) old.entries) cap
    → lookup (same_key k) new.entries ≡ None
account_gone old new k cap apart is = taken_out old new k cap apart is k
    ∙ ap (λ b. cond b None (lookup (same_key k) old.entries)) (key_laws.refl k)

-- nothing is found once all is forgotten
pub forgotten : {K V : Type 0} (test : K → Bool) (new : LruCache K V) (cap : ℕ) (v : V) (P : Type 0)
    → new ≡ lru_cache [] cap → lookup test new.entries ≡ Some v → P
forgotten {K} {V} test new cap v P e h =
    absurd (let never : None ≡ Some v = sym (ap (λ (c : LruCache K V). lookup test c.entries) e) ∙ h in cc)

-- ---- the store's calls

-- what is known stays so where the account of a loan may be another, of which nothing is known
pub account_still : (loan : Account) (f : Facts) (i j : Institution)
    → lookup (same_key (account_key loan)) f.accounts ≡ None → AreTrueOf f i → Tells (news.Account loan) i j
    → AreTrueOf f j
account_still loan f i j gone k t = record {
  counts = λ x c e. k.counts x c e ∙ sym (t.counts x);
  catalogue = λ c e. k.catalogue c e ∙ sym t.catalogue;
  day = λ d e. k.day d e ∙ sym t.day;
  roles = λ c r e. t.roles c r (k.roles c r e);
  keys = λ x l e. t.keys x l (k.keys x l e);
  products = λ n p e. t.products refl n p (k.products n p e);
  accounts = λ a x e. t.accounts a x (another a x e) (k.accounts a x e);
  index = (k.index.0, ap index_of t.journal ∙ k.index.1);
}
  where
    another : (a : Account) (x : KeptAccount) → lookup (same_key (account_key a)) f.accounts ≡ Some x
        → not (same_key (account_key loan) (account_key a)) ≡ true
    another a x e = ap not (false_from_ne_true (same_key (account_key loan) (account_key a)) (λ is.
        let never : None ≡ Some x = sym gone ∙ ap (λ k. lookup (same_key k) f.accounts)
        (key_exact (account_key loan) (account_key a) is) ∙ e in cc))

-- news of an institution that stays
told : (n : News) (i : Institution) → ((x : ℕ) → counts_at x i ≡ counts_told n x (counts_at x i)) → catalogue_counts i
    ≡ catalogue_told n (catalogue_counts i) → i.catalogue.day ≡ day_told n i.catalogue.day → Tells n i i
told n i counts catalogue day = record {
  counts = counts;
  catalogue = catalogue;
  day = day;
  roles = λ c r h. h;
  keys = λ x k h. h;
  products = λ t n p h. h;
  accounts = λ a x t h. h;
  journal = refl;
}

-- a loan's account may be another, though it isn't
pub account_told : (loan : Account) (i : Institution) → Tells (news.Account loan) i i
account_told loan i = told (news.Account loan) i (λ x. refl) refl refl

-- what holds anyway holds where a call answers
pub any_ok : {A E : Type 0} (r : Result A E) (P : Type 0) → P → OnOk r P
any_ok (Ok x) P p = p
any_ok (Err e) P p = tt

module _ {S : Type 0} (g : Ghosts S) where
  pub shuts_alike : (old new : Held S) → OnlyFaultsShut (state g old) (state g new) → (n : ℕ) → IsOpenUntil g n old
      → IsOpenUntil g n new
  unfolding IsOpenUntil
  shuts_alike old new h n o = (o.0, h n o.0 o.1)

  -- the tables stay, and what is known
  pub known_stays : (old new : Held S) (f : Facts) (j : Option Journal) → IsAsBefore (state g old) (state g new)
      → Stays g (record { connection = old; known = f; journal = j }) (record {
        connection = new;
        known = f;
        journal = j;
      })
  known_stays old new f j u =
      let t = unchanged_stays g old new u in
      record {
        premise = t.premise;
        journal = refl;
        shuts = shuts_alike old new t.shuts;
        same = λ clean i s. let k = t.same clean (begins_of j) i (record { sound = s.sound; serves = s.serves }) in
            record { sound = k.sound; serves = k.serves; journal = s.journal; knows = s.knows };
        stop = t.stop;
      }

  pub known_asks : {R : Type 0} (old new : Held S) (f : Facts) (j : Option Journal) (r : Result R Fault)
      → IsAsBefore (state g old) (state g new) → IfErr r (λ fault. fault ≡ F20)
      → (HasGoodDisk g new → OnOk r (IsTrue (state g new).is_open))
      → AsksTables g (record { connection = old; known = f; journal = j }) (record {
        connection = new;
        known = f;
        journal = j;
      }) r
  known_asks old new f j r u gives_up is_open =
      record { kept = known_stays old new f j u; gives_up = gives_up; stays_open = is_open }

  -- nothing is known at first
  pub first_known : (h : Held S) (f : Facts) (j : Option Journal) (i : Institution) → f ≡ nothing_known
      → IsTabled g j h i → StandsFor g (record { connection = h; known = f; journal = j }) i
  first_known h f j i is t = record {
    sound = t.kept.sound;
    serves = t.kept.serves;
    journal = t.keeps;
    knows = subst (λ k. AreTrueOf k i) (sym is) (record {
      counts = λ x c e. absurd (let k : None ≡ Some c = e in cc);
      catalogue = λ c e. absurd (let k : None ≡ Some c = e in cc);
      day = λ d e. absurd (let k : None ≡ Some d = e in cc);
      roles = λ c r e. absurd (let k : None ≡ Some r = e in cc);
      keys = λ x l e. absurd (let k : None ≡ Some l = e in cc);
      products = λ n p e. absurd (let k : None ≡ Some p = e in cc);
      accounts = λ a x e. absurd (let k : None ≡ Some x = e in cc);
      index = (index_of i.journal, refl);
    });
  }

  pub clean_before : (mid new : Held S) → new ≡ mid → HasGoodDisk g new → HasGoodDisk g mid
  clean_before mid new tables clean = subst (λ h. HasGoodDisk g h) tables clean

  -- what is known beside the same tables is less
  pub learnt_stays : (old new : KnownStore S) → new.connection ≡ old.connection → new.journal ≡ old.journal
      → ((i : Institution) → StandsFor g old i → StandsFor g new i) → Stays g old new
  learnt_stays old new tables journal same = record {
    premise = λ clean. clean_before old.connection new.connection tables clean;
    journal = journal;
    shuts = λ n o. subst (λ h. IsOpenUntil g n h) (sym tables) o;
    same = λ clean i s. same i s;
    stop = λ clean is l. subst (λ h. LeavesTables g h is) (sym tables) l;
  }

  -- a call that answers with what was read, and takes it in
  pub learnt_asks : {R : Type 0} {x : R} (old mid new : KnownStore S) (IsSo : Institution → Type 0) → Stays g old mid
      → (IsClean g mid → IsOpen g old → IsOpen g mid) → ((i : Institution) → StandsFor g mid i → IsSo i
      → StandsFor g new i)
      → new.connection ≡ mid.connection → new.journal ≡ mid.journal
      → (IsClean g mid → (i : Institution) → StandsFor g old i → IsSo i)
      → MayAskTables g old new (Ok x)
  learnt_asks old mid new IsSo kept is_open learns tables journal told = record {
    kept = record {
      premise = λ clean. kept.premise (now clean);
      journal = journal ∙ kept.journal;
      shuts = λ n o. subst (λ h. IsOpenUntil g n h) (sym tables) (kept.shuts n o);
      same = λ clean i s. learns i (kept.same (now clean) i s) (told (now clean) i s);
      stop = λ clean is l. subst (λ h. LeavesTables g h is) (sym tables) (kept.stop (now clean) is l);
    };
    gives_up = tt;
    stays_open = λ clean up. subst (λ h. IsTrue (state g h).is_open) (sym tables) (is_open (now clean) up);
  }
    where
      now : IsClean g new → IsClean g mid
      now = clean_before _ _ tables

-- ---- what is read is so

pub tells_counts : (x : ℕ) (c : Counts) (i : Institution) → c ≡ counts_at x i → Tells (OfficeCounts x c) i i
tells_counts x c i is = told (OfficeCounts x c) i (λ y. go y (x == y) refl) refl refl
  where
    go : (y : ℕ) (b : Bool) → (x == y) ≡ b → counts_at y i ≡ cond b c (counts_at y i)
    go y true e = let same : x ≡ y = grind (arith, nat_tests) in sym (is ∙ ap (λ z. counts_at z i) same)
    go y false e = refl

pub tells_day : (d : ℕ) (i : Institution) → d ≡ i.catalogue.day → Tells (BusinessDay d) i i
tells_day d i is = told (BusinessDay d) i (λ x. refl) refl (sym is)

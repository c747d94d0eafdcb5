-- Two runs that take the same repayments with receipts leave each loan alike.
use Rattle.std.proofs.Common.{◌≡◌, ℕ, Bool, true, false, List, [], ◌∷◌, ◌++◌, map, Option, Some, None, refl, sym, ap}
use Rattle.std.proofs.Common.{◌∙◌, subst}
use Rattle.std.specs.Prelude.{not, ◌&&◌, ◌||◌, nat_lt, if◌then◌else◌, option_map}
use Rattle.std.specs.List.{AllByRecursion, list_any}
use Rattle.std.proofs.lemmas.List.{map-append}
use Rattle.std.proofs.lemmas.List.Folds.{list_any-append}
use Rattle.mf_catalog.specs.declared.terms.Terms.{Terms}
use Rattle.mf_office.specs.declared.account.Account.{Account}
use Rattle.mf_alloc.specs.Sums.{is_open}
use Rattle.mf_account.specs.declared.entry.Entry.{Entry}
use Rattle.mf_account.specs.declared.entry.Kind.TheVariants.{Repay}
use Rattle.mf_account.specs.Account.{status_of}
use Rattle.mf_account.specs.Balance.{balances_by, balances_of}
use Rattle.mf_account.specs.Effect.{State}
use Rattle.mf_account.specs.Kinds.{is_write_off}
use Rattle.mf_account.specs.Loan.{DisbursedLoan, IsSoundDisbursed, fee_of_loan, state_of_loan, status_of_loan}
use Rattle.mf_statement.specs.Lines.{instalments_from, instalments_of}
use Rattle.mf_model.specs.declared.loan.Loan.{Loan}
use Rattle.mf_model.specs.declared.loan.Statement.{Statement}
use Rattle.mf_model.specs.Accounts.{account_in, instalments_in, no_balances, of_account, running_from, running_loan}
use Rattle.mf_model.specs.Accounts.{statement, statement_with, terms_in}
use Rattle.mf_model.specs.declared.request.Request.{Request}
use Rattle.mf_model.specs.declared.request.Request.TheVariants as request
use Rattle.mf_model.specs.declared.request.LoanRequest.TheVariants as asks
use Rattle.mf_model.specs.Institution.{Institution, Catalogue, Ledger}
use Rattle.mf_model.specs.Run.{Line, last}
use Rattle.mf_model.specs.Sound.{IsSound, AreInRange}
use Rattle.mf_model.specs.Stages.{disbursed_on, stage_number}
use Rattle.mf_model.specs.Store.{account_of, instalments_at, ledger_at, statement_at}
use Rattle.mf_model.proofs.Lasting.{account_of_loan}
use Rattle.mf_model.proofs.SoundLemmas.{last_sound}
use Rattle.mf_guarantees.specs.Reorder.{AreInAnyOrder, AreReshuffled, what_counts}
use Rattle.mf_guarantees.specs.Sheets.{AreTheSame, OnlyReceipts, taken_in}
use Rattle.mf_guarantees.proofs.ReshuffleLemmas.{reshuffled_same}
use Rattle.mf_guarantees.proofs.SheetLemmas.{Collects, IsCollected, bare, collects, one_of, with_more}
use Rattle.mf_guarantees.proofs.ShuffleLemmas.{IsAmong, OnlyRepay, shuffled, shuffled_behind}

-- ---- the entries

is_repay : (loan : Account) (ls : List Line) (i : Institution) (e : Entry) → IsCollected loan ls i e → e.kind ≡ Repay
is_repay loan ls i e w = ap (λ (x : Entry). x.kind) w.entry_is

all_repay : (loan : Account) (ls : List Line) (i : Institution) (es : List Entry)
    → AllByRecursion (IsCollected loan ls i) es → OnlyRepay es
all_repay loan ls i [] all = tt
all_repay loan ls i (e ∷ es) all = (is_repay loan ls i e all.0, all_repay loan ls i es all.1)

bare_repay : (es : List Entry) → OnlyRepay es → OnlyRepay (map bare es)
bare_repay [] all = tt
bare_repay (e ∷ es) all = (all.0, bare_repay es all.1)

-- what was made by a repayment of one run was made by one of the other
in_both : (loan : Account) (ls ks : List Line) (i : Institution) (c : Collects loan ls i) (d : Collects loan ks i)
    → AreTheSame (taken_in ls i) (taken_in ks i) → (z : Entry) → IsAmong z (map bare c.news)
    → IsAmong z (map bare d.news)
in_both loan ls ks i c d same z among =
    let one = one_of (IsCollected loan ls i) z c.news c.each among in
    let w = one.1 in
    subst (λ (x : Entry). IsAmong x (map bare d.news)) (sym (one.2 ∙ w.entry_is))
    (d.all w.asked w.receipt (same.first (request.Loan loan (asks.Repay w.asked)) w.taken) w.receipt_is w.free)

turned : (xs ys : List Request) → AreTheSame xs ys → AreTheSame ys xs
turned xs ys same = record { first = same.second; second = same.first }

counts_bare : (es : List Entry) → map what_counts (map bare es) ≡ map what_counts es
counts_bare [] = refl
counts_bare (e ∷ es) = ap (λ (xs : List Entry). what_counts e ∷ xs) (counts_bare es)

in_any_order : (loan : Account) (ls ks : List Line) (i : Institution) (c : Collects loan ls i) (d : Collects loan ks i)
    → AreTheSame (taken_in ls i) (taken_in ks i) → (es : List Entry) → AreInAnyOrder (es ++ c.news) (es ++ d.news)
in_any_order loan ls ks i c d same es =
    let xs : List Entry = map bare c.news in
    let ys : List Entry = map bare d.news in
    let order : AreReshuffled xs ys =
    shuffled xs ys c.once d.once (bare_repay c.news (all_repay loan ls i c.news c.each))
    (bare_repay d.news (all_repay loan ks i d.news d.each)) (in_both loan ls ks i c d same)
    (in_both loan ks ls i d c (turned (taken_in ls i) (taken_in ks i) same)) in
    let counted = λ (more : List Entry). ap (λ (zs : List Entry). map what_counts es ++ zs) (counts_bare more)
    ∙ sym (map-append what_counts es more) in
    subst (λ (zs : List Entry). AreReshuffled zs (map what_counts (es ++ d.news))) (counted c.news)
    (subst (AreReshuffled (map what_counts es ++ map what_counts xs)) (counted d.news)
    (shuffled_behind (map what_counts es) order))

-- ---- the status

abbrev writes_off : Entry → Bool
writes_off e = not e.reversed && is_write_off e.kind

none_written_off : (es : List Entry) → OnlyRepay es → list_any writes_off es ≡ false
none_written_off [] all = refl
none_written_off (e ∷ es) all = go e.reversed (is_write_off e.kind) (ap is_write_off all.0) (none_written_off es all.1)
  where
    go : (a b : Bool) → b ≡ false → list_any writes_off es ≡ false → ((not a && b) || list_any writes_off es) ≡ false
    go true b is rest = rest
    go false b is rest = ap (λ c. c || list_any writes_off es) is ∙ rest

written_off_alike : (es xs ys : List Entry) → OnlyRepay xs → OnlyRepay ys
    → list_any writes_off (es ++ xs) ≡ list_any writes_off (es ++ ys)
written_off_alike es xs ys first second =
    list_any-append writes_off es xs
    ∙ ap (λ b. list_any writes_off es || b) (none_written_off xs first ∙ sym (none_written_off ys second))
    ∙ sym (list_any-append writes_off es ys)

status_alike : (es fs : List Entry) (s : State) → list_any writes_off es ≡ list_any writes_off fs
    → status_of es s ≡ status_of fs s
status_alike es fs s same = ap (λ b. if b then 601
    else (if list_any is_open s.rows then 300 else (if nat_lt 0 s.overpaid then 700 else 600))) same

-- ---- what is shown

abbrev IsSoundOf : Catalogue → Ledger → Type 0
IsSoundOf k l = (a : DisbursedLoan) → account_in k l ≡ Some a → IsSoundDisbursed a

abbrev shown_with : Loan → Option DisbursedLoan → Statement
shown_with loan o = statement_with loan (of_account (stage_number loan.stage) status_of_loan o)
    (of_account no_balances balances_of o)

record AreShownAlike (loan : Loan) (o p : Option DisbursedLoan) : Type 0 where
  shown : shown_with loan o ≡ shown_with loan p
  rows : of_account [] instalments_of o ≡ of_account [] instalments_of p

module _ (k : Catalogue) (l : Ledger) (xs ys : List Entry) (first : IsSoundOf k (with_more xs l))
    (second : IsSoundOf k (with_more ys l)) (order : AreInAnyOrder (l.entries ++ xs) (l.entries ++ ys))
    (off : list_any writes_off (l.entries ++ xs) ≡ list_any writes_off (l.entries ++ ys)) where
  accounts_alike : (d : Option ℕ) (t : Option Terms) → disbursed_on l.loan.stage ≡ d → terms_in k l.loan.product ≡ t
      → AreShownAlike l.loan (running_from l.loan (l.entries ++ xs) d t) (running_from l.loan (l.entries ++ ys) d t)
  accounts_alike None t e f = record { shown = refl; rows = refl }
  accounts_alike (Some day) None e f = record { shown = refl; rows = refl }
  accounts_alike (Some day) (Some terms) e f =
      let a : DisbursedLoan = running_loan l.loan (l.entries ++ xs) day terms in
      let b : DisbursedLoan = running_loan l.loan (l.entries ++ ys) day terms in
      let is = λ (es : List Entry). ap (λ d. running_from l.loan es d (terms_in k l.loan.product)) e
      ∙ ap (running_from l.loan es (Some day)) f in
      let state : state_of_loan b ≡ state_of_loan a =
      reshuffled_same a (l.entries ++ ys) (first a (is (l.entries ++ xs)))
      (second b (is (l.entries ++ ys))).entries.numbers order in
      let status : status_of_loan a ≡ status_of_loan b =
      ap (status_of (l.entries ++ xs)) (sym state)
      ∙ status_alike (l.entries ++ xs) (l.entries ++ ys) (state_of_loan b) off in
      let balances : balances_of a ≡ balances_of b = ap (balances_by (fee_of_loan a)) (sym state) in
      record {
        shown = (λ i. statement_with l.loan (status i) (balances i));
        rows = ap (λ (s : State). instalments_from 1 s.rows) (sym state);
      }

  abbrev both_accounts : AreShownAlike l.loan (account_in k (with_more xs l)) (account_in k (with_more ys l))
  both_accounts = accounts_alike (disbursed_on l.loan.stage) (terms_in k l.loan.product) refl refl

-- ---- two runs

module _ (i : Institution) (ls ks : List Line) (loan : Account) (s : IsSound i) (first_range : AreInRange ls)
    (second_range : AreInRange ks) (first_only : OnlyReceipts ls i) (second_only : OnlyReceipts ks i)
    (same : AreTheSame (taken_in ls i) (taken_in ks i)) where
  one : Collects loan ls i
  one = collects loan ls i s first_range first_only

  other : Collects loan ks i
  other = collects loan ks i s second_range second_only

  sound_of : (ms : List Line) (l : Ledger) (news : List Entry) → AreInRange ms
      → (last ms i).catalogue ≡ i.catalogue
      → ledger_at loan (last ms i) ≡ Some (with_more news l) → IsSoundOf i.catalogue (with_more news l)
  sound_of ms l news range k there a is =
      account_of_loan (last ms i) loan a (last_sound ms i s range)
      (ap (account_of (last ms i).catalogue) there ∙ ap (λ (c : Catalogue). account_in c (with_more news l)) k ∙ is)

  both_ledgers : (l : Ledger) → ledger_at loan i ≡ Some l → AreShownAlike l.loan
      (account_in i.catalogue (with_more one.news l)) (account_in i.catalogue (with_more other.news l))
  both_ledgers l e =
      both_accounts i.catalogue l one.news other.news
      (sound_of ls l one.news first_range one.catalogue (one.ledger ∙ ap (option_map (with_more one.news)) e))
      (sound_of ks l other.news second_range other.catalogue
      (other.ledger ∙ ap (option_map (with_more other.news)) e))
      (in_any_order loan ls ks i one other same l.entries)
      (written_off_alike l.entries one.news other.news (all_repay loan ls i one.news one.each)
      (all_repay loan ks i other.news other.each))

  pub statements_alike : statement_at loan (last ls i) ≡ statement_at loan (last ks i)
  statements_alike =
      ap (λ (k : Catalogue). option_map (statement k) (ledger_at loan (last ls i))) one.catalogue
      ∙ ap (option_map (statement i.catalogue)) one.ledger
      ∙ go (ledger_at loan i) refl
      ∙ sym (ap (λ (k : Catalogue). option_map (statement k) (ledger_at loan (last ks i))) other.catalogue
      ∙ ap (option_map (statement i.catalogue)) other.ledger)
    where
      go : (o : Option Ledger) → ledger_at loan i ≡ o
          → option_map (statement i.catalogue) (option_map (with_more one.news) o)
          ≡ option_map (statement i.catalogue) (option_map (with_more other.news) o)
      go None e = refl
      go (Some l) e = ap Some (both_ledgers l e).shown

  pub instalments_alike : instalments_at loan (last ls i) ≡ instalments_at loan (last ks i)
  instalments_alike =
      ap (λ (k : Catalogue). option_map (instalments_in k) (ledger_at loan (last ls i))) one.catalogue
      ∙ ap (option_map (instalments_in i.catalogue)) one.ledger
      ∙ go (ledger_at loan i) refl
      ∙ sym (ap (λ (k : Catalogue). option_map (instalments_in k) (ledger_at loan (last ks i))) other.catalogue
      ∙ ap (option_map (instalments_in i.catalogue)) other.ledger)
    where
      go : (o : Option Ledger) → ledger_at loan i ≡ o
          → option_map (instalments_in i.catalogue) (option_map (with_more one.news) o)
          ≡ option_map (instalments_in i.catalogue) (option_map (with_more other.news) o)
      go None e = refl
      go (Some l) e = ap Some (both_ledgers l e).rows

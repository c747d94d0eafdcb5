-- Names matter to no reply but those that show one.
use Rattle.std.proofs.Common.{◌≡◌, ℕ, zero, suc, Bool, true, false, cond, List, [], ◌∷◌, ◌++◌, map, length, Option}
use Rattle.std.proofs.Common.{Some, None, Result, Ok, Err, refl, sym, ap, ap₂, ◌∙◌}
use Rattle.std.specs.Prelude.{◌-◌, ◌==◌, ◌&&◌, ◌||◌, not, nat_lt, is_some, option_map, slice_get}
use Rattle.std.proofs.lemmas.List.{length-map, map-append}
use Rattle.std.proofs.lemmas.Option.{slice_get-map}
use Rattle.mf_base.specs.declared.fault.Fault.{Fault}
use Rattle.mf_base.specs.declared.fault.Fault.TheVariants.{F3, F4, F16, F18, F20}
use Rattle.mf_catalog.specs.Product.{lending}
use Rattle.mf_catalog.specs.declared.product.Product.{Product}
use Rattle.mf_office.specs.Tree.{is_within, is_at_or_below, option_any}
use Rattle.mf_office.specs.declared.account.Account.{Account}
use Rattle.mf_office.specs.declared.caller.Caller.{Caller}
use Rattle.mf_office.specs.declared.staff.Role.{Role}
use Rattle.mf_model.specs.Arrears.{arrears_line, list_arrears}
use Rattle.mf_model.specs.Calls.{Call}
use Rattle.mf_model.specs.Desk.{Outcome, Plan, On_catalogue, On_office, On_all_seen, On_new_office, add_office}
use Rattle.mf_model.specs.Desk.{carried_out, change_in, in_office, meets, need, of_office, on_office, outcome, plan}
use Rattle.mf_model.specs.Desk.{reply, reply_in, sent_by, staff_at, where_permitted}
use Rattle.mf_model.specs.Institution.{Institution, Catalogue, Office, Rows, Staff, Ledger, Change, Catalogue_becomes}
use Rattle.mf_model.specs.Institution.{Rows_become, Office_added, Noted, after, after_line, after_maybe, item_numbered}
use Rattle.mf_model.specs.Institution.{new_office, office_at, product_in, with_office, with_rows}
use Rattle.mf_model.specs.Loans.{LedgerChange, in_loan, lend, loan_added, new_loan, of_loan, on_loan, submit}
use Rattle.mf_model.specs.Offices.{add_client, add_staff, list_offices, office_shown, show_client}
use Rattle.mf_model.specs.Catalogue.{on_catalogue}
use Rattle.mf_model.specs.Outcomes.{next_of, unless_refused, where_found, with_found, with_value}
use Rattle.mf_model.specs.Run.{Line, answer, answers, change_of_line, last, next, noted_of}
use Rattle.mf_model.specs.Tree.{is_there, offices_where, parent_of, seen_by, seen_office}
use Rattle.mf_model.specs.declared.reply.LoanReply.{LoanReply}
use Rattle.mf_model.specs.declared.reply.Reply.{Reply}
use Rattle.mf_model.specs.declared.reply.Reply.TheVariants as reply_of
use Rattle.mf_model.specs.declared.request.Application.{Application}
use Rattle.mf_model.specs.declared.request.LoanRequest.{LoanRequest}
use Rattle.mf_model.specs.declared.request.LoanRequest.TheVariants as loan_request
use Rattle.mf_model.specs.declared.request.OfficeRequest.{OfficeRequest}
use Rattle.mf_model.specs.declared.request.OfficeRequest.TheVariants.{AddStaff, AddClient, ShowClient, SubmitLoan}
use Rattle.mf_model.specs.declared.request.OfficeRequest.TheVariants.{ListLoans}
use Rattle.mf_model.specs.declared.request.Request.{Request}
use Rattle.mf_model.specs.declared.request.Request.TheVariants as request
use Rattle.mf_unnamed.specs.Unnamed.{no_name, reply_shows, shows_name, unnamed, unnamed_answer, unnamed_asked}
use Rattle.mf_unnamed.specs.Unnamed.{unnamed_call, unnamed_line, unnamed_office, unnamed_reply, unnamed_request}
use Rattle.mf_unnamed.specs.Unnamed.{unnamed_rows, unnamed_staff}

-- ---- what is told and changed, without names

-- of an office's rows
abbrev unnamed_told : Result (Reply × Option Rows) Fault → Result (Reply × Option Rows) Fault
unnamed_told (Err e) = Err e
unnamed_told (Ok r) = Ok (unnamed_reply r.0, option_map unnamed_rows r.1)

abbrev unnamed_change : Change → Change
unnamed_change (Catalogue_becomes k) = Catalogue_becomes k
unnamed_change (Rows_become x rows) = Rows_become x (unnamed_rows rows)
unnamed_change (Office_added number parent name) = Office_added number parent name

abbrev unnamed_outcome : Outcome → Outcome
unnamed_outcome (Err e) = Err e
unnamed_outcome (Ok r) = Ok (unnamed_reply r.0, option_map unnamed_change r.1)

-- ---- the tree of offices

parent_same : (fs : List Office) (x : ℕ) → parent_of (map unnamed_office fs) x ≡ parent_of fs x
parent_same [] x = refl
parent_same (f ∷ fs) x = ap (λ p. cond (f.number == x) f.parent p) (parent_same fs x)

above_agree : (b : Bool) (q : Option ℕ) (f g : ℕ → Bool) → ((z : ℕ) → f z ≡ g z)
    → (b || option_any q f) ≡ (b || option_any q g)
above_agree b None f g k = refl
above_agree b (Some z) f g k = ap (λ c. b || c) (k z)

within_same : (n : ℕ) (fs : List Office) (x y : ℕ)
    → is_within n (parent_of (map unnamed_office fs)) x y ≡ is_within n (parent_of fs) x y
unfolding is_within
within_same zero fs x y = refl
within_same (suc n) fs x y =
    ap (λ q. (x == y) || option_any q (λ z. is_within n (parent_of (map unnamed_office fs)) z y)) (parent_same fs x)
    ∙ above_agree (x == y) (parent_of fs x) (λ z. is_within n (parent_of (map unnamed_office fs)) z y)
    (λ z. is_within n (parent_of fs) z y) (λ z. within_same n fs z y)

below_same : (fs : List Office) (x y : ℕ)
    → is_at_or_below (parent_of (map unnamed_office fs)) x y ≡ is_at_or_below (parent_of fs) x y
unfolding is_at_or_below
below_same fs x y = within_same 5 fs x y

office_same : (x : ℕ) (fs : List Office) → office_at x (map unnamed_office fs)
    ≡ option_map unnamed_office (office_at x fs)
office_same x [] = refl
office_same x (f ∷ fs) = go (f.number == x) (office_same x fs)
  where
    go : (b : Bool) → office_at x (map unnamed_office fs) ≡ option_map unnamed_office (office_at x fs)
        → cond b (Some (unnamed_office f)) (office_at x (map unnamed_office fs))
        ≡ option_map unnamed_office (cond b (Some f) (office_at x fs))
    go true rest = refl
    go false rest = rest

there_same : (fs : List Office) (x : ℕ) → is_there (map unnamed_office fs) x ≡ is_there fs x
there_same fs x = ap is_some (office_same x fs) ∙ go (office_at x fs)
  where
    go : (o : Option Office) → is_some (option_map unnamed_office o) ≡ is_some o
    go None = refl
    go (Some f) = refl

where_same : (p q : ℕ → Bool) → ((x : ℕ) → p x ≡ q x) → (fs : List Office)
    → offices_where p (map unnamed_office fs) ≡ map unnamed_office (offices_where q fs)
where_same p q k [] = refl
where_same p q k (f ∷ fs) =
    ap (λ b. cond b (unnamed_office f ∷ offices_where p (map unnamed_office fs))
    (offices_where p (map unnamed_office fs))) (k f.number) ∙ go (q f.number) (where_same p q k fs)
  where
    go : (b : Bool) → offices_where p (map unnamed_office fs) ≡ map unnamed_office (offices_where q fs)
        → cond b (unnamed_office f ∷ offices_where p (map unnamed_office fs))
        (offices_where p (map unnamed_office fs))
        ≡ map unnamed_office (cond b (f ∷ offices_where q fs) (offices_where q fs))
    go true rest = ap (λ gs. unnamed_office f ∷ gs) rest
    go false rest = rest

seen_same : (o : ℕ) (fs : List Office) → seen_by o (map unnamed_office fs) ≡ map unnamed_office (seen_by o fs)
seen_same o fs =
    where_same (λ x. is_at_or_below (parent_of (map unnamed_office fs)) x o)
    (λ x. is_at_or_below (parent_of fs) x o) (λ x. below_same fs x o) fs

seen_office_same : (o x : ℕ) (i : Institution)
    → seen_office o x (unnamed i) ≡ option_map unnamed_office (seen_office o x i)
seen_office_same o x i =
    ap₂ (λ b f. cond b f None) (below_same i.offices x o) (office_same x i.offices)
    ∙ go (is_at_or_below (parent_of i.offices) x o)
  where
    go : (b : Bool) → cond b (option_map unnamed_office (office_at x i.offices)) None
        ≡ option_map unnamed_office (cond b (office_at x i.offices) None)
    go true = refl
    go false = refl

numbered_same : {X Y : Type 0} (f : X → Y) (xs : List X) (n : ℕ)
    → item_numbered (map f xs) n ≡ option_map f (item_numbered xs n)
numbered_same f xs n = go (n == 0)
  where
    go : (b : Bool) → cond b None (slice_get (map f xs) (n - 1)) ≡ option_map f (cond b None (slice_get xs (n - 1)))
    go true = refl
    go false = slice_get-map f xs (n - 1)

staff_same : (i : Institution) (c : Caller) → staff_at (unnamed i) c ≡ option_map unnamed_staff (staff_at i c)
staff_same i c =
    ap (λ (o : Option Office). elim o [ None ↦ None | Some f ↦ item_numbered f.rows.staff c.staff ])
    (office_same c.office i.offices) ∙ go (office_at c.office i.offices)
  where
    go : (o : Option Office)
        → elim (option_map unnamed_office o) [ None ↦ None | Some f ↦ item_numbered f.rows.staff c.staff ]
        ≡ option_map unnamed_staff (elim o [ None ↦ None | Some f ↦ item_numbered f.rows.staff c.staff ])
    go None = refl
    go (Some f) = numbered_same unnamed_staff f.rows.staff c.staff

-- ---- requests on an office

map_twice : {X : Type 0} (f : X → X) → ((x : X) → f (f x) ≡ f x) → (xs : List X) → map f (map f xs) ≡ map f xs
map_twice f k [] = refl
map_twice f k (x ∷ xs) = ap₂ (λ y ys. y ∷ ys) (k x) (map_twice f k xs)

-- rows of these staff and clients
abbrev rows_with : Rows → List Staff → List (List ℕ) → Rows
rows_with rows staff clients = record { staff = staff; clients = clients; loans = rows.loans }

rows_twice : (rows : Rows) → unnamed_rows (unnamed_rows rows) ≡ unnamed_rows rows
rows_twice rows =
    ap₂ (rows_with rows) (map_twice unnamed_staff (λ s. refl) rows.staff) (map_twice no_name (λ n. refl) rows.clients)

reply_twice : (r : Reply) → unnamed_reply (unnamed_reply r) ≡ unnamed_reply r
reply_twice (reply_of.OfficeMade x) = refl
reply_twice (reply_of.Offices x) = refl
reply_twice (reply_of.StaffMade x) = refl
reply_twice (reply_of.ClientMade x) = refl
reply_twice (reply_of.ClientShown x y) = refl
reply_twice (reply_of.DayShown x) = refl
reply_twice (reply_of.DaySet x) = refl
reply_twice (reply_of.ChargeMade x) = refl
reply_twice (reply_of.ChargeShown x) = refl
reply_twice (reply_of.ProductMade x) = refl
reply_twice (reply_of.ProductShown x) = refl
reply_twice (reply_of.ProductRetired x) = refl
reply_twice (reply_of.LoanMade x) = refl
reply_twice (reply_of.Loan x y) = refl
reply_twice (reply_of.LoansShown x) = refl
reply_twice (reply_of.ArrearsShown x) = refl

-- a reply with what becomes of rows
abbrev told_with : Reply → Option Rows → Result (Reply × Option Rows) Fault
told_with r rows = Ok (r, rows)

maybe_twice : (o : Option Rows) → option_map unnamed_rows (option_map unnamed_rows o) ≡ option_map unnamed_rows o
maybe_twice None = refl
maybe_twice (Some rows) = ap Some (rows_twice rows)

told_twice : (r : Result (Reply × Option Rows) Fault) → unnamed_told (unnamed_told r) ≡ unnamed_told r
told_twice (Err e) = refl
told_twice (Ok r) = ap₂ told_with (reply_twice r.0) (maybe_twice r.1)

-- what is the same without names on one side is so on both
both : (r q : Result (Reply × Option Rows) Fault) → unnamed_told r ≡ q → unnamed_told r ≡ unnamed_told q
both r q same = sym (told_twice r) ∙ ap unnamed_told same

-- a new member of staff
abbrev staff_told : ℕ → Rows → List Staff → ℕ → Result (Reply × Option Rows) Fault
staff_told office rows staff n =
    told_with (reply_of.StaffMade (record { office = office; staff = n }))
    (Some (rows_with rows staff (map no_name rows.clients)))

staff_added_same : (office : ℕ) (name : List ℕ) (role : Role) (rows : Rows)
    → unnamed_told (add_staff office name role rows) ≡ add_staff office [] role (unnamed_rows rows)
staff_added_same office name role rows =
    go (next_of (length rows.staff) 9999)
    ∙ ap (λ n. with_value (next_of n 9999) made) (sym (length-map rows.staff unnamed_staff))
  where
    new : Staff
    new = record { name = []; role = role }

    made : ℕ → Reply × Option Rows
    made n = (
      reply_of.StaffMade (record { office = office; staff = n }),
      Some (rows_with rows
          (map unnamed_staff rows.staff ++ new ∷ []) (map no_name rows.clients)),
    )

    go : (r : Result ℕ Fault) → unnamed_told (with_value r (λ n. (
      reply_of.StaffMade (record { office = office; staff = n }),
      Some (rows_with rows (rows.staff ++ record { name = name; role = role } ∷ []) rows.clients),
    )))
        ≡ with_value r made
    go (Err e) = refl
    go (Ok n) =
        ap (λ staff. staff_told office rows staff n)
        (map-append unnamed_staff rows.staff (record { name = name; role = role } ∷ []))

client_added_same : (office : ℕ) (name : List ℕ) (rows : Rows)
    → unnamed_told (add_client office name rows) ≡ add_client office [] (unnamed_rows rows)
client_added_same office name rows =
    go (next_of (length rows.clients) 999999)
    ∙ ap (λ n. with_value (next_of n 999999) made) (sym (length-map rows.clients no_name))
  where
    made : ℕ → Reply × Option Rows
    made n = (
      reply_of.ClientMade (record { office = office; number = n }),
      Some (rows_with rows
          (map unnamed_staff rows.staff) (map no_name rows.clients ++ [] ∷ [])),
    )

    go : (r : Result ℕ Fault) → unnamed_told (with_value r (λ n. (
      reply_of.ClientMade (record { office = office; number = n }),
      Some (rows_with rows rows.staff (rows.clients ++ name ∷ [])),
    ))) ≡ with_value r made
    go (Err e) = refl
    go (Ok n) =
        ap (λ clients. told_with (reply_of.ClientMade (record { office = office; number = n }))
        (Some (rows_with rows (map unnamed_staff rows.staff) clients))) (map-append no_name rows.clients (name ∷ []))

client_shown_same : (office n : ℕ) (rows : Rows)
    → unnamed_told (show_client office n rows) ≡ show_client office n (unnamed_rows rows)
client_shown_same office n rows =
    go (item_numbered rows.clients n) ∙ ap (λ (o : Option (List ℕ)). with_found o shown)
    (sym (numbered_same no_name rows.clients n))
  where
    shown : List ℕ → Reply × Option Rows
    shown name = (reply_of.ClientShown (record { office = office; number = n }) name, None)

    go : (o : Option (List ℕ)) → unnamed_told (with_found o shown) ≡ with_found (option_map no_name o) shown
    go None = refl
    go (Some name) = refl

lent_same : (office : ℕ) (asked : Application) (product : Option Product) (rows : Rows)
    → unnamed_told (lend office asked product rows) ≡ lend office asked product (unnamed_rows rows)
lent_same office asked None rows = refl
lent_same office asked (Some p) rows =
    go (lending p asked.principal asked.periods) (next_of (length rows.loans) 999999)
  where
    made : Rows → ℕ → Reply × Option Rows
    made to n = (reply_of.LoanMade (record { office = office; number = n }), Some (loan_added (new_loan asked) to))

    go : (r : Result (Unit {0}) Fault) (n : Result ℕ Fault)
        → unnamed_told (unless_refused r (with_value n (made rows)))
        ≡ unless_refused r (with_value n (made (unnamed_rows rows)))
    go (Err e) n = refl
    go (Ok u) (Err e) = refl
    go (Ok u) (Ok n) = refl

submitted_same : (office : ℕ) (asked : Application) (k : Catalogue) (rows : Rows)
    → unnamed_told (submit office asked k rows) ≡ submit office asked k (unnamed_rows rows)
submitted_same office asked k rows =
    go (item_numbered rows.clients asked.client)
    ∙ ap (λ (o : Option (List ℕ)). where_found o (λ name. lend office asked (product_in k asked.product)
    (unnamed_rows rows))) (sym (numbered_same no_name rows.clients asked.client))
  where
    go : (o : Option (List ℕ))
        → unnamed_told (where_found o (λ name. lend office asked (product_in k asked.product) rows))
        ≡ where_found (option_map no_name o) (λ name. lend office asked (product_in k asked.product)
        (unnamed_rows rows))
    go None = refl
    go (Some name) = lent_same office asked (product_in k asked.product) rows

on_office_same : (asked : OfficeRequest) (office : ℕ) (k : Catalogue) (rows : Rows)
    → unnamed_told (on_office asked office k rows)
    ≡ unnamed_told (on_office (unnamed_asked asked) office k (unnamed_rows rows))
on_office_same (AddStaff name role) office k rows = both _ _ (staff_added_same office name role rows)
on_office_same (AddClient name) office k rows = both _ _ (client_added_same office name rows)
on_office_same (ShowClient client) office k rows = both _ _ (client_shown_same office client rows)
on_office_same (SubmitLoan asked) office k rows = both _ _ (submitted_same office asked k rows)
on_office_same (ListLoans after) office k rows = refl

-- ---- requests on a loan

on_loan_same : (asked : LoanRequest) (c : Caller) (k : Catalogue) (rows : Rows) (n : ℕ) (l : Ledger)
    → on_loan asked c k (unnamed_rows rows) n l ≡ on_loan asked c k rows n l
on_loan_same loan_request.Show c k rows n l = refl
on_loan_same loan_request.ShowInstalments c k rows n l = refl
on_loan_same loan_request.ShowEntries c k rows n l = refl
on_loan_same (loan_request.Take step) c k rows n l = refl
on_loan_same (loan_request.Repay asked) c k rows n l = refl
on_loan_same (loan_request.ChargeFee charge due) c k rows n l = refl
on_loan_same (loan_request.Post asked) c k rows n l = refl
on_loan_same (loan_request.Reverse seq) c k rows n l = refl

of_loan_same : (account : Account) (rows : Rows) (r : Result (LoanReply × Option LedgerChange) Fault)
    → unnamed_told (of_loan account rows r) ≡ of_loan account (unnamed_rows rows) r
of_loan_same account rows (Err e) = refl
of_loan_same account rows (Ok (told, None)) = refl
of_loan_same account rows (Ok (told, Some change)) = refl

in_loan_same : (account : Account) (asked : LoanRequest) (c : Caller) (k : Catalogue) (rows : Rows)
    → unnamed_told (in_loan account (on_loan asked c k rows account.number) rows)
    ≡ unnamed_told (in_loan account (on_loan asked c k (unnamed_rows rows) account.number) (unnamed_rows rows))
in_loan_same account asked c k rows = both _ _ (go (item_numbered rows.loans account.number))
  where
    go : (o : Option Ledger)
        → unnamed_told (where_found o (λ l. of_loan account rows (on_loan asked c k rows account.number l)))
        ≡ where_found o (λ l. of_loan account (unnamed_rows rows)
        (on_loan asked c k (unnamed_rows rows) account.number l))
    go None = refl
    go (Some l) =
        of_loan_same account rows (on_loan asked c k rows account.number l)
        ∙ ap (of_loan account (unnamed_rows rows)) (sym (on_loan_same asked c k rows account.number l))

-- ---- plans

of_office_same : (x : ℕ) (r : Result (Reply × Option Rows) Fault)
    → unnamed_outcome (of_office x r) ≡ of_office x (unnamed_told r)
of_office_same x (Err e) = refl
of_office_same x (Ok (r, None)) = refl
of_office_same x (Ok (r, Some rows)) = refl

in_office_same : (x : ℕ) (k : Catalogue) (act other : Catalogue → Office → Result (Reply × Option Rows) Fault)
    → ((f : Office) → unnamed_told (act k f) ≡ unnamed_told (other k (unnamed_office f))) → (o : Option Office)
    → unnamed_outcome (in_office x act k o) ≡ unnamed_outcome (in_office x other k (option_map unnamed_office o))
in_office_same x k act other same None = refl
in_office_same x k act other same (Some f) =
    of_office_same x (act k f) ∙ ap (of_office x) (same f) ∙ sym (of_office_same x (other k (unnamed_office f)))

offices_shown : (fs : List Office) → map office_shown fs ≡ map office_shown (map unnamed_office fs)
offices_shown [] = refl
offices_shown (f ∷ fs) = ap (λ os. office_shown f ∷ os) (offices_shown fs)

arrears_shown : (k : Catalogue) (fs : List Office) → map (arrears_line k) fs
    ≡ map (arrears_line k) (map unnamed_office fs)
arrears_shown k [] = refl
arrears_shown k (f ∷ fs) = ap (λ ls. arrears_line k f ∷ ls) (arrears_shown k fs)

added_same : (o number parent : ℕ) (name : List ℕ) (fs : List Office)
    → add_office o number parent name (map unnamed_office fs) ≡ add_office o number parent name fs
added_same o number parent name fs =
    ap (λ b. by b (is_there (map unnamed_office fs) number)
    (is_within 4 (parent_of (map unnamed_office fs)) parent 1))
    (ap₂ (λ a b. not (a && b)) (there_same fs parent) (below_same fs parent o))
    ∙ ap₂ (by (not (is_there fs parent && is_at_or_below (parent_of fs) parent o))) (there_same fs number)
    (within_same 4 fs parent 1)
  where
    by : Bool → Bool → Bool → Outcome
    by a b c = cond a (Err F4) (cond b (Err F16) (cond c
        (Ok (reply_of.OfficeMade number, Some (Office_added number parent name))) (Err F18)))

-- what is needed is the same
need_same : (r : Request) → need (unnamed_request r) ≡ need r
need_same (request.Unreadable flaw) = refl
need_same (request.Catalogue asked) = refl
need_same (request.Office office (AddStaff name role)) = refl
need_same (request.Office office (AddClient name)) = refl
need_same (request.Office office (ShowClient client)) = refl
need_same (request.Office office (SubmitLoan asked)) = refl
need_same (request.Office office (ListLoans after)) = refl
need_same (request.Loan loan asked) = refl
need_same request.SeenOffices = refl
need_same request.SeenArrears = refl
need_same (request.NewOffice number parent name) = refl

-- of a plan that may be carried out, by a caller who may be known
permitted : (c : Caller) (r : Request) (p q : Plan) (i : Institution)
    → unnamed_outcome (carried_out c p i) ≡ unnamed_outcome (carried_out c q (unnamed i))
    → unnamed_outcome (where_permitted c r p (staff_at i c) i)
    ≡ unnamed_outcome (where_permitted c (unnamed_request r) q (staff_at (unnamed i) c) (unnamed i))
permitted c r p q i same =
    go (staff_at i c)
    ∙ ap (λ o. unnamed_outcome (where_permitted c (unnamed_request r) q o (unnamed i))) (sym (staff_same i c))
  where
    by_test : (b : Bool) → unnamed_outcome (cond b (carried_out c p i) (Err F3))
        ≡ unnamed_outcome (cond b (carried_out c q (unnamed i)) (Err F3))
    by_test true = same
    by_test false = refl

    go : (o : Option Staff) → unnamed_outcome (where_permitted c r p o i)
        ≡ unnamed_outcome (where_permitted c (unnamed_request r) q (option_map unnamed_staff o) (unnamed i))
    go None = refl
    go (Some s) =
        by_test (meets (need r) s.role c.office)
        ∙ ap (λ n. unnamed_outcome (cond (meets n s.role c.office) (carried_out c q (unnamed i)) (Err F3)))
        (sym (need_same r))

sent_same : (c : Option Caller) (r : Request) (i : Institution)
    → unnamed_outcome (sent_by c r (plan r) i)
    ≡ unnamed_outcome (sent_by c (unnamed_request r) (plan (unnamed_request r)) (unnamed i))
sent_same None (request.Unreadable flaw) i = refl
sent_same None (request.Catalogue asked) i = refl
sent_same None (request.Office office asked) i = refl
sent_same None (request.Loan loan asked) i = refl
sent_same None request.SeenOffices i = refl
sent_same None request.SeenArrears i = refl
sent_same None (request.NewOffice number parent name) i = refl
sent_same (Some c) (request.Unreadable flaw) i = refl
sent_same (Some c) (request.Catalogue asked) i =
    permitted c (request.Catalogue asked) (On_catalogue (on_catalogue asked)) (On_catalogue (on_catalogue asked)) i refl
sent_same (Some c) (request.Office office asked) i =
    permitted c (request.Office office asked) (On_office office (λ caller k f. on_office asked office k f.rows))
    (On_office office (λ caller k f. on_office (unnamed_asked asked) office k f.rows)) i
    (in_office_same office i.catalogue (λ k f. on_office asked office k f.rows)
    (λ k f. on_office (unnamed_asked asked) office k f.rows)
    (λ f. on_office_same asked office i.catalogue f.rows) (seen_office c.office office i)
    ∙ ap (λ o. unnamed_outcome (in_office office (λ k (f : Office). on_office (unnamed_asked asked) office k f.rows)
    i.catalogue o)) (sym (seen_office_same c.office office i)))
sent_same (Some c) (request.Loan loan asked) i =
    permitted c (request.Loan loan asked)
    (On_office loan.office (λ caller k f. in_loan loan (on_loan asked caller k f.rows loan.number) f.rows))
    (On_office loan.office (λ caller k f. in_loan loan (on_loan asked caller k f.rows loan.number) f.rows)) i
    (in_office_same loan.office i.catalogue (λ k f. in_loan loan (on_loan asked c k f.rows loan.number) f.rows)
    (λ k f. in_loan loan (on_loan asked c k f.rows loan.number) f.rows)
    (λ f. in_loan_same loan asked c i.catalogue f.rows) (seen_office c.office loan.office i)
    ∙ ap (λ o. unnamed_outcome (in_office loan.office (λ k (f : Office). in_loan loan
    (on_loan asked c k f.rows loan.number) f.rows) i.catalogue o)) (sym (seen_office_same c.office loan.office i)))
sent_same (Some c) request.SeenOffices i =
    permitted c request.SeenOffices (On_all_seen list_offices) (On_all_seen list_offices) i
    (ap (λ os. unnamed_outcome (Ok (reply_of.Offices os, None))) (offices_shown (seen_by c.office i.offices)
    ∙ ap (map office_shown) (sym (seen_same c.office i.offices))))
sent_same (Some c) request.SeenArrears i =
    permitted c request.SeenArrears (On_all_seen list_arrears) (On_all_seen list_arrears) i
    (ap (λ ls. unnamed_outcome (Ok (reply_of.ArrearsShown ls, None)))
    (arrears_shown i.catalogue (seen_by c.office i.offices)
    ∙ ap (map (arrears_line i.catalogue)) (sym (seen_same c.office i.offices))))
sent_same (Some c) (request.NewOffice number parent name) i =
    permitted c (request.NewOffice number parent name) (On_new_office number parent name)
    (On_new_office number parent name) i
    (ap unnamed_outcome (sym (added_same c.office number parent name i.offices)))

-- ---- calls

outcome_same : (call : Call) (i : Institution)
    → unnamed_outcome (outcome call i) ≡ unnamed_outcome (outcome (unnamed_call call) (unnamed i))
outcome_same call i = sent_same call.caller call.request i

reply_in_same : (o : Outcome) → unnamed_answer (reply_in o) ≡ reply_in (unnamed_outcome o)
reply_in_same (Err e) = refl
reply_in_same (Ok r) = refl

change_in_same : (o : Outcome) → option_map unnamed_change (change_in o) ≡ change_in (unnamed_outcome o)
change_in_same (Err e) = refl
change_in_same (Ok r) = refl

-- the answer to a line, and what it changes, without names, are those of the line and the institution without names
answer_same : (l : Line) (i : Institution) → unnamed_answer (answer l i)
    ≡ unnamed_answer (answer (unnamed_line l) (unnamed i))
answer_same l i = go l.given_up
  where
    go : (b : Bool) → unnamed_answer (cond b (Err F20) (reply l.call i))
        ≡ unnamed_answer (cond b (Err F20) (reply (unnamed_call l.call) (unnamed i)))
    go true = refl
    go false =
        reply_in_same (outcome l.call i) ∙ ap reply_in (outcome_same l.call i)
        ∙ sym (reply_in_same (outcome (unnamed_call l.call) (unnamed i)))

change_same : (l : Line) (i : Institution) → option_map unnamed_change (change_of_line l i)
    ≡ option_map unnamed_change (change_of_line (unnamed_line l) (unnamed i))
change_same l i = go l.given_up
  where
    go : (b : Bool) → option_map unnamed_change (cond b None (change_in (outcome l.call i)))
        ≡ option_map unnamed_change (cond b None (change_in (outcome (unnamed_call l.call) (unnamed i))))
    go true = refl
    go false =
        change_in_same (outcome l.call i) ∙ ap change_in (outcome_same l.call i)
        ∙ sym (change_in_same (outcome (unnamed_call l.call) (unnamed i)))

-- ---- what follows

rows_put : (x : ℕ) (rows : Rows) (fs : List Office)
    → map unnamed_office (with_rows x rows fs) ≡ with_rows x (unnamed_rows rows) (map unnamed_office fs)
rows_put x rows [] = refl
rows_put x rows (f ∷ fs) = ap₂ (λ g gs. g ∷ gs) (go (f.number == x)) (rows_put x rows fs)
  where
    go : (b : Bool) → unnamed_office (record f { rows = cond b rows f.rows })
        ≡ record (unnamed_office f) { rows = cond b (unnamed_rows rows) (unnamed_rows f.rows) }
    go true = refl
    go false = refl

office_put : (number parent : ℕ) (name : List ℕ) (fs : List Office)
    → map unnamed_office (with_office (new_office number parent name) fs)
    ≡ with_office (new_office number parent name) (map unnamed_office fs)
office_put number parent name [] = refl
office_put number parent name (f ∷ fs) = go (nat_lt number f.number) (office_put number parent name fs)
  where
    new : Office
    new = new_office number parent name

    go : (b : Bool) → map unnamed_office (with_office new fs) ≡ with_office new (map unnamed_office fs)
        → map unnamed_office (cond b (new ∷ f ∷ fs) (f ∷ with_office new fs))
        ≡ cond b (new ∷ unnamed_office f ∷ map unnamed_office fs)
        (unnamed_office f ∷ with_office new (map unnamed_office fs))
    go true rest = refl
    go false rest = ap (λ gs. unnamed_office f ∷ gs) rest

-- an institution of these offices
abbrev offices_of : Catalogue → List Office → Institution
offices_of k fs = record { catalogue = k; offices = fs; journal = None }

after_same : (c : Change) (i : Institution) → unnamed (after c i) ≡ after (unnamed_change c) (unnamed i)
after_same (Catalogue_becomes k) i = refl
after_same (Rows_become x rows) i = ap (offices_of i.catalogue) (rows_put x rows i.offices)
after_same (Office_added number parent name) i = ap (offices_of i.catalogue) (office_put number parent name i.offices)

line_same : (noted : Noted) (c : Option Change) (i : Institution)
    → unnamed (after_line noted c i) ≡ after_maybe (option_map unnamed_change c) (unnamed i)
line_same noted None i = refl
line_same noted (Some c) i = after_same c i

pub next_same : (i j : Institution) (l m : Line) → unnamed i ≡ unnamed j → unnamed_line l ≡ unnamed_line m
    → unnamed (next l i) ≡ unnamed (next m j)
next_same i j l m is_i is_l =
    line_same (noted_of l.call i) (change_of_line l i) i
    ∙ ap₂ after_maybe (change_same l i
    ∙ ap₂ (λ x y. option_map unnamed_change (change_of_line x y)) is_l is_i ∙ sym (change_same m j)) is_i
    ∙ sym (line_same (noted_of m.call j) (change_of_line m j) j)

pub answer_of_both : (i j : Institution) (l m : Line) → unnamed i ≡ unnamed j → unnamed_line l ≡ unnamed_line m
    → unnamed_answer (answer l i) ≡ unnamed_answer (answer m j)
answer_of_both i j l m is_i is_l =
    answer_same l i ∙ ap₂ (λ x y. unnamed_answer (answer x y)) is_l is_i ∙ sym (answer_same m j)

-- ---- answers that show no name

plain : (r : Reply) → reply_shows r ≡ false → unnamed_reply r ≡ r
plain (reply_of.OfficeMade x) h = refl
plain (reply_of.Offices x) h = refl
plain (reply_of.StaffMade x) h = refl
plain (reply_of.ClientMade x) h = refl
plain (reply_of.ClientShown x y) h = cc
plain (reply_of.DayShown x) h = refl
plain (reply_of.DaySet x) h = refl
plain (reply_of.ChargeMade x) h = refl
plain (reply_of.ChargeShown x) h = refl
plain (reply_of.ProductMade x) h = refl
plain (reply_of.ProductShown x) h = refl
plain (reply_of.ProductRetired x) h = refl
plain (reply_of.LoanMade x) h = refl
plain (reply_of.Loan x y) h = refl
plain (reply_of.LoansShown x) h = refl
plain (reply_of.ArrearsShown x) h = refl

shows_same : (r : Reply) → reply_shows (unnamed_reply r) ≡ reply_shows r
shows_same (reply_of.OfficeMade x) = refl
shows_same (reply_of.Offices x) = refl
shows_same (reply_of.StaffMade x) = refl
shows_same (reply_of.ClientMade x) = refl
shows_same (reply_of.ClientShown x y) = refl
shows_same (reply_of.DayShown x) = refl
shows_same (reply_of.DaySet x) = refl
shows_same (reply_of.ChargeMade x) = refl
shows_same (reply_of.ChargeShown x) = refl
shows_same (reply_of.ProductMade x) = refl
shows_same (reply_of.ProductShown x) = refl
shows_same (reply_of.ProductRetired x) = refl
shows_same (reply_of.LoanMade x) = refl
shows_same (reply_of.Loan x y) = refl
shows_same (reply_of.LoansShown x) = refl
shows_same (reply_of.ArrearsShown x) = refl

plain_answer : (a : Result Reply Fault) → shows_name a ≡ false → unnamed_answer a ≡ a
plain_answer (Err e) h = refl
plain_answer (Ok r) h = ap Ok (plain r h)

answer_shows : (a : Result Reply Fault) → shows_name (unnamed_answer a) ≡ shows_name a
answer_shows (Err e) = refl
answer_shows (Ok r) = shows_same r

pub same_unless : (a b : Result Reply Fault) → unnamed_answer a ≡ unnamed_answer b → shows_name a ≡ false → a ≡ b
same_unless a b same none =
    sym (plain_answer a none) ∙ same
    ∙ plain_answer b (sym (answer_shows b) ∙ ap shows_name (sym same) ∙ answer_shows a ∙ none)

-- ---- runs

abbrev is_cons : {X : Type 0} → List X → Bool
is_cons [] = false
is_cons (x ∷ xs) = true

pub runs_same : (i j : Institution) (ls ms : List Line) → unnamed i ≡ unnamed j
    → map unnamed_line ls ≡ map unnamed_line ms
    → (map unnamed_answer (answers ls i) ≡ map unnamed_answer (answers ms j))
    × (unnamed (last ls i) ≡ unnamed (last ms j))
runs_same i j [] [] is_i are = (refl, is_i)
runs_same i j [] (m ∷ ms) is_i are = let none : false ≡ true = ap is_cons are in cc
runs_same i j (l ∷ ls) [] is_i are = let none : true ≡ false = ap is_cons are in cc
runs_same i j (l ∷ ls) (m ∷ ms) is_i are =
    let first : unnamed_line l ≡ unnamed_line m = cc in
    let others : map unnamed_line ls ≡ map unnamed_line ms = cc in
    let rest = runs_same (next l i) (next m j) ls ms (next_same i j l m is_i first) others in
    (ap₂ (λ a more. a ∷ more) (answer_of_both i j l m is_i first) rest.0, rest.1)

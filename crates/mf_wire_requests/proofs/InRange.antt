-- The request of any bytes has its members in range.
use Rattle.std.proofs.Common.{◌≡◌, ℕ, nat_le, Bool, true, false, cond, List, [], ◌∷◌, Option, Some, None, sym, subst}
use Rattle.std.specs.Prelude.{◌&&◌, IfSome, codes, is_some, length, map}
use Rattle.std.specs.Option.{option_map, option_and_then}
use Rattle.matchit.specs.Router.{RouteOf}
use Rattle.serde_json.specs.Data.{Data}
use Rattle.mf_base.specs.declared.day.Freq.{Freq}
use Rattle.mf_office.specs.Numbers.{IsNumberUpTo}
use Rattle.mf_office.specs.Texts.{IsAccount, caller_of}
use Rattle.mf_office.specs.declared.account.Account.{Account}
use Rattle.mf_office.specs.declared.staff.Role.{Role}
use Rattle.mf_account.specs.Receipts.{IsReceipt}
use Rattle.mf_catalog.specs.Limits.{greatest_amount, greatest_rate, most_grace, most_periods, longest_step}
use Rattle.mf_catalog.specs.Limits.{greatest_value}
use Rattle.mf_catalog.specs.declared.charge.ChargeKind.{ChargeKind}
use Rattle.mf_catalog.specs.declared.charge.Calc.{Calc}
use Rattle.mf_catalog.specs.declared.terms.Method.{Method}
use Rattle.mf_catalog.specs.declared.terms.StrategyName.{StrategyName}
use Rattle.mf_model.specs.Sound.{IsName, AreMembers, IsInRange, IsLoanInRange, AreInRange}
use Rattle.mf_model.specs.Run.{Line}
use Rattle.mf_model.specs.Calls.{Call}
use Rattle.mf_model.specs.declared.request.CatalogueRequest.TheVariants as catalogue
use Rattle.mf_model.specs.declared.request.Flaw.TheVariants.{Malformed}
use Rattle.mf_model.specs.declared.request.LoanRequest.{LoanRequest}
use Rattle.mf_model.specs.declared.request.LoanRequest.TheVariants.{Take, Repay, ChargeFee, Post, Reverse}
use Rattle.mf_model.specs.declared.request.LoanStep.TheVariants.{Disburse}
use Rattle.mf_model.specs.declared.request.OfficeRequest.TheVariants.{AddStaff, AddClient, ShowClient, SubmitLoan}
use Rattle.mf_model.specs.declared.request.OfficeRequest.TheVariants.{ListLoans}
use Rattle.mf_model.specs.declared.request.Posting.TheVariants.{Penalty, Waiver}
use Rattle.mf_model.specs.declared.request.Request.{Request}
use Rattle.mf_model.specs.declared.request.Request.TheVariants.{Unreadable, Catalogue, Office, Loan, NewOffice}
use Rattle.mf_model.specs.declared.waivable.Waivable.{Waivable}
use Rattle.mf_wire_requests.specs.declared.request.products.Step.{Step}
use Rattle.mf_wire_requests.specs.declared.request.products.Planning.{Planning}
use Rattle.mf_wire_requests.specs.declared.request.products.Bounds.{Bounds}
use Rattle.mf_wire_requests.specs.declared.request.products.Charged.{Charged}
use Rattle.mf_wire_requests.specs.declared.routes.Endpoint.{Endpoint}
use Rattle.mf_wire_requests.specs.declared.routes.Endpoint.TheVariants as endpoint
use Rattle.mf_wire_requests.specs.declared.routes.LoanEndpoint.{LoanEndpoint}
use Rattle.mf_wire_requests.specs.declared.routes.LoanEndpoint.TheVariants as on_loan
use Rattle.mf_wire_requests.specs.declared.routes.Methods.{Methods}
use Rattle.mf_wire_requests.specs.Bodies.{json_of, name_at, office_number_at, within, number_at, optional_receipt_at}
use Rattle.mf_wire_requests.specs.Bodies.{account_number_at, day_at}
use Rattle.mf_wire_requests.specs.CatalogueRequests.{day_request, new_charge_request}
use Rattle.mf_wire_requests.specs.LoanRequests.{new_loan_request, loans_request, disbursement_request}
use Rattle.mf_wire_requests.specs.LoanRequests.{repayment_request, fee_request, instalment_at}
use Rattle.mf_wire_requests.specs.LoanRequests.{penalty_request, waiver_request, reversal_request, loan_request}
use Rattle.mf_wire_requests.specs.LoanRequests.{request_on_loan}
use Rattle.mf_wire_requests.specs.Named.{role_at, kind_at, calc_at, method_at, freq_at, strategy_at, waivable_at}
use Rattle.mf_wire_requests.specs.OfficeRequests.{new_office_request, new_staff_request, new_client_request}
use Rattle.mf_wire_requests.specs.OfficeRequests.{client_request}
use Rattle.mf_wire_requests.specs.PathParts.{PathParts, number_in, account_number_in}
use Rattle.mf_wire_requests.specs.ProductRequests.{step_at, planning_at, bounds_at, charged_at, members_of}
use Rattle.mf_wire_requests.specs.ProductRequests.{new_product_request}
use Rattle.mf_wire_requests.specs.ProductRequests.{IsDueStepInRange, IsPlanningInRange, AreBoundsInRange}
use Rattle.mf_wire_lines.specs.Cut.{longest_line}
use Rattle.mf_wire_requests.specs.RequestLine.{Parts, parts_in, is_token}
use Rattle.mf_wire_requests.specs.Requests.{method_of, endpoint_of, request_at, or_malformed, asked_at, asked_on}
use Rattle.mf_wire_requests.specs.Requests.{asked_by, asked_in, request_of, call_of_parts, call_in}
use Rattle.mf_wire_requests.specs.Routes.{route_at, parts_on}
use Rattle.mf_wire_requests.proofs.Ranges.{IsWithin, IsEntered, IsOfNineDigits, name_range, office_range, within_range}
use Rattle.mf_wire_requests.proofs.Ranges.{number_range, receipt_range, account_range, day_range, number_in_range}
use Rattle.mf_wire_requests.proofs.Ranges.{account_in_range}

-- what bodies ask, whatever JSON they are
of_body : {A : Type 0} (P : A → Type 0) (asks : Data → Option A) → ((d : Data) → IfSome (asks d) P) → (o : Option Data)
    → IfSome (option_and_then asks o) P
of_body P asks h None = tt
of_body P asks h (Some d) = h d

-- ---- offices, staff and clients

new_office_in_range : (d : Data) → IfSome (new_office_request d) IsInRange
new_office_in_range d = step (office_number_at (codes "number") d) (office_number_at (codes "parent") d)
    (name_at (codes "name") d)
    (office_range (codes "number") d) (office_range (codes "parent") d) (name_range (codes "name") d)
  where
    step : (number parent : Option ℕ) (name : Option (List ℕ)) → IfSome number (IsNumberUpTo 9999)
        → IfSome parent (IsNumberUpTo 9999) → IfSome name IsName
        → IfSome (option_and_then (λ n. option_and_then (λ p. option_map (λ t. NewOffice n p t) name) parent) number)
        IsInRange
    step None parent name h k l = tt
    step (Some n) None name h k l = tt
    step (Some n) (Some p) None h k l = tt
    step (Some n) (Some p) (Some t) h k l = (h, k, l)

new_staff_in_range : (d : Data) → IfSome (new_staff_request d) IsInRange
new_staff_in_range d = step (office_number_at (codes "office") d) (role_at (codes "role") d) (name_at (codes "name") d)
    (office_range (codes "office") d) (name_range (codes "name") d)
  where
    step : (office : Option ℕ) (role : Option Role) (name : Option (List ℕ)) → IfSome office (IsNumberUpTo 9999)
        → IfSome name IsName
        → IfSome (option_and_then (λ o. option_and_then (λ r. option_map (λ t. Office o (AddStaff t r)) name) role)
        office) IsInRange
    step None role name h k = tt
    step (Some o) None name h k = tt
    step (Some o) (Some r) None h k = tt
    step (Some o) (Some r) (Some t) h k = (h, k)

new_client_in_range : (d : Data) → IfSome (new_client_request d) IsInRange
new_client_in_range d = step (office_number_at (codes "office") d) (name_at (codes "name") d)
    (office_range (codes "office") d)
    (name_range (codes "name") d)
  where
    step : (office : Option ℕ) (name : Option (List ℕ)) → IfSome office (IsNumberUpTo 9999) → IfSome name IsName
        → IfSome (option_and_then (λ o. option_map (λ t. Office o (AddClient t)) name) office) IsInRange
    step None name h k = tt
    step (Some o) None h k = tt
    step (Some o) (Some t) h k = (h, k)

client_in_range : (parts : PathParts) → IfSome (client_request parts) IsInRange
client_in_range parts = step (account_number_in (codes "client") parts) (account_in_range (codes "client") parts)
  where
    step : (client : Option Account) → IfSome client IsAccount
        → IfSome (option_map (λ c. Office c.office (ShowClient c.number)) client) IsInRange
    step None h = tt
    step (Some c) h = (h.0, h.1)

-- ---- the business day, charges and products

later_day_in_range : (d : Data) → IfSome (day_request d) IsInRange
later_day_in_range d = step (day_at (codes "day") d) (day_range (codes "day") d)
  where
    step : (day : Option ℕ) → IfSome day IsEntered → IfSome (option_map (λ x. Catalogue (catalogue.SetDay x)) day)
        IsInRange
    step None h = tt
    step (Some x) h = h

new_charge_in_range : (d : Data) → IfSome (new_charge_request d) IsInRange
new_charge_in_range d =
    step (kind_at (codes "kind") d) (calc_at (codes "calc") d) (λ calc. number_at 1 (greatest_value calc)
    (codes "value") d) (name_at (codes "name") d)
    (λ calc. number_range 1 (greatest_value calc) (codes "value") d) (name_range (codes "name") d)
  where
    named : (kind : ChargeKind) (calc : Calc) (value : ℕ) (name : Option (List ℕ))
        → IsWithin 1 (greatest_value calc) value → IfSome name IsName
        → IfSome (option_map (λ t. Catalogue (catalogue.AddCharge t kind calc value)) name) IsInRange
    named kind calc value None h l = tt
    named kind calc value (Some t) h l = (l, record { some = h.0; most = h.1 })

    valued : (kind : ChargeKind) (calc : Calc) (value : Option ℕ) (name : Option (List ℕ))
        → IfSome value (IsWithin 1 (greatest_value calc)) → IfSome name IsName
        → IfSome (option_and_then (λ v. option_map (λ t. Catalogue (catalogue.AddCharge t kind calc v)) name) value)
        IsInRange
    valued kind calc None name h l = tt
    valued kind calc (Some v) name h l = named kind calc v name h l

    step : (kind : Option ChargeKind) (calc : Option Calc) (value : Calc → Option ℕ) (name : Option (List ℕ))
        → ((c : Calc) → IfSome (value c) (IsWithin 1 (greatest_value c))) → IfSome name IsName
        → IfSome (option_and_then (λ k. option_and_then (λ c. option_and_then
        (λ v. option_map (λ t. Catalogue (catalogue.AddCharge t k c v)) name) (value c)) calc) kind) IsInRange
    step None calc value name h l = tt
    step (Some k) None value name h l = tt
    step (Some k) (Some c) value name h l = valued k c (value c) name (h c) l

step_in_range : (d : Data) → IfSome (step_at d) IsDueStepInRange
step_in_range d = step (freq_at (codes "frequency") d)
  where
    named : (freq : Freq) (every : Option ℕ) → IfSome every (IsWithin 1 (longest_step freq))
        → IfSome (option_map (λ n. let s : Step = record { freq = freq; every = n } in s) every) IsDueStepInRange
    named freq None h = tt
    named freq (Some n) h = record { some = h.0; longest = h.1 }

    step : (freq : Option Freq) → IfSome (option_and_then (λ f. option_map (λ n. let s : Step = record {
      freq = f;
      every = n;
    } in s) (number_at 1 (longest_step f) (codes "every") d)) freq) IsDueStepInRange
    step None = tt
    step (Some f) =
        named f (number_at 1 (longest_step f) (codes "every") d) (number_range 1 (longest_step f) (codes "every") d)

planning_in_range : (d : Data) → IfSome (planning_at d) IsPlanningInRange
planning_in_range d =
    step (method_at (codes "method") d) (number_at 0 greatest_rate (codes "rate") d) (step_at d)
    (number_at 0 most_grace (codes "principal_grace") d) (number_at 0 most_grace (codes "interest_grace") d)
    (strategy_at (codes "strategy") d)
    (number_range 0 greatest_rate (codes "rate") d) (step_in_range d)
    (number_range 0 most_grace (codes "principal_grace") d) (number_range 0 most_grace (codes "interest_grace") d)
  where
    step : (method : Option Method) (rate : Option ℕ) (by : Option Step) (principal interest : Option ℕ)
        (strategy : Option StrategyName)
        → IfSome rate (IsWithin 0 greatest_rate) → IfSome by IsDueStepInRange → IfSome principal (IsWithin 0 most_grace)
        → IfSome interest (IsWithin 0 most_grace)
        → IfSome (option_and_then (λ m.
        option_and_then (λ r. option_and_then (λ s. option_and_then (λ p. option_and_then (λ i. option_map (λ y.
        let planning : Planning = record {
          method = m;
          rate = r;
          step = s;
          principal_grace = p;
          interest_grace = i;
          strategy = y;
        } in planning)
        strategy) interest) principal) by) rate) method) IsPlanningInRange
    step None rate by principal interest strategy h k l n = tt
    step (Some m) None by principal interest strategy h k l n = tt
    step (Some m) (Some r) None principal interest strategy h k l n = tt
    step (Some m) (Some r) (Some s) None interest strategy h k l n = tt
    step (Some m) (Some r) (Some s) (Some p) None strategy h k l n = tt
    step (Some m) (Some r) (Some s) (Some p) (Some i) None h k l n = tt
    step (Some m) (Some r) (Some s) (Some p) (Some i) (Some y) h k l n =
        record { rate = h.1; step = k; principal_grace = l.1; interest_grace = n.1 }

bounds_in_range : (d : Data) → IfSome (bounds_at d) AreBoundsInRange
bounds_in_range d =
    step (number_at 1 greatest_amount (codes "min_principal") d) (number_at 1 greatest_amount (codes "max_principal") d)
    (number_at 1 most_periods (codes "min_periods") d) (number_at 1 most_periods (codes "max_periods") d)
    (number_range 1 greatest_amount (codes "min_principal") d) (number_range 1 greatest_amount (codes "max_principal")
    d) (number_range 1 most_periods (codes "min_periods") d) (number_range 1 most_periods (codes "max_periods") d)
  where
    step : (a b p q : Option ℕ) → IfSome a (IsWithin 1 greatest_amount) → IfSome b (IsWithin 1 greatest_amount)
        → IfSome p (IsWithin 1 most_periods) → IfSome q (IsWithin 1 most_periods)
        → IfSome (option_and_then (λ least. option_and_then (λ most. option_and_then (λ few. option_map (λ many.
        let bounds : Bounds = record {
          min_principal = least;
          max_principal = most;
          min_periods = few;
          max_periods = many;
        } in bounds) q) p) b) a) AreBoundsInRange
    step None b p q h k l n = tt
    step (Some x) None p q h k l n = tt
    step (Some x) (Some y) None q h k l n = tt
    step (Some x) (Some y) (Some z) None h k l n = tt
    step (Some x) (Some y) (Some z) (Some w) h k l n = record {
      some_min_principal = h.0;
      most_min_principal = h.1;
      some_max_principal = k.0;
      most_max_principal = k.1;
      some_min_periods = l.0;
      most_min_periods = l.1;
      some_max_periods = n.0;
      most_max_periods = n.1;
    }

members_in_range : (name : List ℕ) (planning : Planning) (bounds : Bounds) (charged : Charged) → IsName name
    → IsPlanningInRange planning → AreBoundsInRange bounds → AreMembers (members_of name planning bounds charged)
members_in_range name planning bounds charged n p b = record {
  name = n;
  limits = record {
    rate = p.rate;
    some_step = p.step.some;
    longest_step = p.step.longest;
    principal_grace = p.principal_grace;
    interest_grace = p.interest_grace;
    some_min_principal = b.some_min_principal;
    most_min_principal = b.most_min_principal;
    some_max_principal = b.some_max_principal;
    most_max_principal = b.most_max_principal;
    some_min_periods = b.some_min_periods;
    most_min_periods = b.most_min_periods;
    some_max_periods = b.some_max_periods;
    most_max_periods = b.most_max_periods;
  };
}

new_product_in_range : (d : Data) → IfSome (new_product_request d) IsInRange
new_product_in_range d = step (planning_at d) (bounds_at d) (charged_at d) (name_at (codes "name") d)
    (planning_in_range d) (bounds_in_range d) (name_range (codes "name") d)
  where
    step : (planning : Option Planning) (bounds : Option Bounds) (charged : Option Charged) (name : Option (List ℕ))
        → IfSome planning IsPlanningInRange → IfSome bounds AreBoundsInRange → IfSome name IsName
        → IfSome (option_and_then
        (λ p. option_and_then (λ b. option_and_then (λ c. option_map
        (λ t. Catalogue (catalogue.AddProduct (members_of t p b c))) name) charged) bounds) planning) IsInRange
    step None bounds charged name h k l = tt
    step (Some p) None charged name h k l = tt
    step (Some p) (Some b) None name h k l = tt
    step (Some p) (Some b) (Some c) None h k l = tt
    step (Some p) (Some b) (Some c) (Some t) h k l = members_in_range t p b c l h k

charge_in_range : (parts : PathParts) → IfSome (option_map (λ charge. Catalogue (catalogue.ShowCharge charge))
    (number_in (codes "charge") parts)) IsInRange
charge_in_range parts = step (number_in (codes "charge") parts) (number_in_range (codes "charge") parts)
  where
    step : (charge : Option ℕ) → IfSome charge IsOfNineDigits
        → IfSome (option_map (λ n. Catalogue (catalogue.ShowCharge n)) charge) IsInRange
    step None h = tt
    step (Some n) h = h

product_in_range : (parts : PathParts) → IfSome (option_map (λ product. Catalogue (catalogue.ShowProduct product))
    (number_in (codes "product") parts)) IsInRange
product_in_range parts = step (number_in (codes "product") parts) (number_in_range (codes "product") parts)
  where
    step : (product : Option ℕ) → IfSome product IsOfNineDigits
        → IfSome (option_map (λ n. Catalogue (catalogue.ShowProduct n)) product) IsInRange
    step None h = tt
    step (Some n) h = h

retired_in_range : (parts : PathParts) → IfSome (option_map (λ product. Catalogue (catalogue.RetireProduct product))
    (number_in (codes "product") parts)) IsInRange
retired_in_range parts = step (number_in (codes "product") parts) (number_in_range (codes "product") parts)
  where
    step : (product : Option ℕ) → IfSome product IsOfNineDigits
        → IfSome (option_map (λ n. Catalogue (catalogue.RetireProduct n)) product) IsInRange
    step None h = tt
    step (Some n) h = h

-- ---- loans

new_loan_in_range : (d : Data) → IfSome (new_loan_request d) IsInRange
new_loan_in_range d =
    step (account_number_at (codes "client") d) (number_at 0 999999999 (codes "product") d)
    (number_at 1 greatest_amount (codes "principal") d) (number_at 1 most_periods (codes "periods") d)
    (account_range (codes "client") d) (number_range 0 999999999 (codes "product") d)
    (number_range 1 greatest_amount (codes "principal") d) (number_range 1 most_periods (codes "periods") d)
  where
    step : (client : Option Account) (product principal periods : Option ℕ)
        → IfSome client IsAccount → IfSome product (IsWithin 0 999999999)
        → IfSome principal (IsWithin 1 greatest_amount) → IfSome periods (IsWithin 1 most_periods)
        → IfSome (option_and_then (λ c. option_and_then (λ p. option_and_then (λ a. option_map (λ n.
        Office c.office (SubmitLoan (record { client = c.number; product = p; principal = a; periods = n }))) periods)
        principal) product) client) IsInRange
    step None product principal periods h k l n = tt
    step (Some c) None principal periods h k l n = tt
    step (Some c) (Some p) None periods h k l n = tt
    step (Some c) (Some p) (Some a) None h k l n = tt
    step (Some c) (Some p) (Some a) (Some m) h k l n = (h.0, (h.1, k.1, l, n))

loans_in_range : (parts : PathParts) → IfSome (loans_request parts) IsInRange
loans_in_range parts = step (number_in (codes "office") parts) (number_in (codes "after") parts)
    (number_in_range (codes "office") parts)
  where
    listed : (office : ℕ) (after : Option ℕ) → IsOfNineDigits office → IfSome after (IsWithin 0 999999)
        → IfSome (option_map (λ n. Office office (ListLoans n)) after) IsInRange
    listed office None h k = tt
    listed office (Some n) h k = (h, k.1)

    limited : (after : Option ℕ) → IfSome (option_and_then (within 0 999999) after) (IsWithin 0 999999)
    limited None = tt
    limited (Some n) = within_range 0 999999 n

    step : (office after : Option ℕ) → IfSome office IsOfNineDigits
        → IfSome (option_and_then (λ o. option_map (λ n. Office o (ListLoans n))
        (option_and_then (within 0 999999) after)) office) IsInRange
    step None after h = tt
    step (Some o) after h = listed o (option_and_then (within 0 999999) after) h (limited after)

disbursement_in_range : (d : Data) → IfSome (disbursement_request d) IsLoanInRange
disbursement_in_range d = step (day_at (codes "day") d) (day_range (codes "day") d)
  where
    step : (day : Option ℕ) → IfSome day IsEntered → IfSome (option_map (λ x. Take (Disburse x)) day) IsLoanInRange
    step None h = tt
    step (Some x) h = h

repayment_in_range : (d : Data) → IfSome (repayment_request d) IsLoanInRange
repayment_in_range d =
    step (number_at 1 greatest_amount (codes "amount") d) (day_at (codes "day") d)
    (optional_receipt_at (codes "receipt") d)
    (number_range 1 greatest_amount (codes "amount") d) (day_range (codes "day") d) (receipt_range (codes "receipt") d)
  where
    step : (amount day : Option ℕ) (receipt : Option (Option (List ℕ))) → IfSome amount (IsWithin 1 greatest_amount)
        → IfSome day IsEntered → IfSome receipt (λ r. IfSome r IsReceipt)
        → IfSome (option_and_then (λ a. option_and_then (λ x.
        option_map (λ r. Repay (record { amount = a; day = x; receipt = r })) receipt) day) amount) IsLoanInRange
    step None day receipt h k l = tt
    step (Some a) None receipt h k l = tt
    step (Some a) (Some x) None h k l = tt
    step (Some a) (Some x) (Some r) h k l = (h, k, l)

fee_in_range : (d : Data) → IfSome (fee_request d) IsLoanInRange
fee_in_range d = step (number_at 0 999999999 (codes "charge") d) (day_at (codes "due") d)
    (number_range 0 999999999 (codes "charge") d) (day_range (codes "due") d)
  where
    step : (charge due : Option ℕ) → IfSome charge (IsWithin 0 999999999) → IfSome due IsEntered
        → IfSome (option_and_then (λ c. option_map (λ x. ChargeFee c x) due) charge) IsLoanInRange
    step None due h k = tt
    step (Some c) None h k = tt
    step (Some c) (Some x) h k = (h.1, k)

penalty_in_range : (d : Data) → IfSome (penalty_request d) IsLoanInRange
penalty_in_range d = step (instalment_at d) (number_range 1 999999999 (codes "instalment") d)
  where
    step : (instalment : Option ℕ) → IfSome instalment (IsWithin 1 999999999)
        → IfSome (option_map (λ n. Post (Penalty n)) instalment) IsLoanInRange
    step None h = tt
    step (Some n) h = h

waiver_in_range : (d : Data) → IfSome (waiver_request d) IsLoanInRange
waiver_in_range d =
    step (instalment_at d) (waivable_at (codes "portion") d) (number_range 1 999999999 (codes "instalment") d)
  where
    step : (instalment : Option ℕ) (portion : Option Waivable) → IfSome instalment (IsWithin 1 999999999)
        → IfSome (option_and_then (λ n. option_map (λ p. Post (Waiver n p)) portion) instalment) IsLoanInRange
    step None portion h = tt
    step (Some n) None h = tt
    step (Some n) (Some p) h = h

reversal_in_range : (parts : PathParts) → IfSome (reversal_request parts) IsLoanInRange
reversal_in_range parts = step (number_in (codes "entry") parts) (number_in_range (codes "entry") parts)
  where
    step : (entry : Option ℕ) → IfSome entry IsOfNineDigits → IfSome (option_map (λ n. Reverse n) entry) IsLoanInRange
    step None h = tt
    step (Some n) h = h

loan_request_in_range : (which : LoanEndpoint) (parts : PathParts) (body : List ℕ)
    → IfSome (loan_request which parts body) IsLoanInRange
loan_request_in_range on_loan.Show parts body = tt
loan_request_in_range on_loan.ShowInstalments parts body = tt
loan_request_in_range on_loan.ShowEntries parts body = tt
loan_request_in_range (on_loan.Step step) parts body = tt
loan_request_in_range on_loan.Disburse parts body =
    of_body IsLoanInRange disbursement_request disbursement_in_range (json_of body)
loan_request_in_range on_loan.Repay parts body = of_body IsLoanInRange repayment_request repayment_in_range
    (json_of body)
loan_request_in_range on_loan.ChargeFee parts body = of_body IsLoanInRange fee_request fee_in_range (json_of body)
loan_request_in_range on_loan.ChargePenalty parts body = of_body IsLoanInRange penalty_request penalty_in_range
    (json_of body)
loan_request_in_range on_loan.Waive parts body = of_body IsLoanInRange waiver_request waiver_in_range (json_of body)
loan_request_in_range on_loan.WriteOff parts body = tt
loan_request_in_range on_loan.Refund parts body = tt
loan_request_in_range on_loan.Reverse parts body = reversal_in_range parts

loan_in_range : (which : LoanEndpoint) (parts : PathParts) (body : List ℕ)
    → IfSome (request_on_loan which parts body) IsInRange
loan_in_range which parts body = step (account_number_in (codes "loan") parts) (loan_request which parts body)
    (account_in_range (codes "loan") parts) (loan_request_in_range which parts body)
  where
    step : (loan : Option Account) (asked : Option LoanRequest) → IfSome loan IsAccount → IfSome asked IsLoanInRange
        → IfSome (option_and_then (λ l. option_map (λ a. Loan l a) asked) loan) IsInRange
    step None asked h k = tt
    step (Some l) None h k = tt
    step (Some l) (Some a) h k = (h, k)

-- ---- the request of an endpoint, of a method with a path and a body, and of a line

endpoint_in_range : (which : Endpoint) (parts : PathParts) (body : List ℕ) → IfSome (request_at which parts body)
    IsInRange
endpoint_in_range endpoint.ShowDay parts body = tt
endpoint_in_range endpoint.SetDay parts body = of_body IsInRange day_request later_day_in_range (json_of body)
endpoint_in_range endpoint.AddCharge parts body = of_body IsInRange new_charge_request new_charge_in_range
    (json_of body)
endpoint_in_range endpoint.ShowCharge parts body = charge_in_range parts
endpoint_in_range endpoint.AddProduct parts body = of_body IsInRange new_product_request new_product_in_range
    (json_of body)
endpoint_in_range endpoint.ShowProduct parts body = product_in_range parts
endpoint_in_range endpoint.RetireProduct parts body = retired_in_range parts
endpoint_in_range endpoint.ListOffices parts body = tt
endpoint_in_range endpoint.AddOffice parts body = of_body IsInRange new_office_request new_office_in_range
    (json_of body)
endpoint_in_range endpoint.AddStaff parts body = of_body IsInRange new_staff_request new_staff_in_range (json_of body)
endpoint_in_range endpoint.AddClient parts body = of_body IsInRange new_client_request new_client_in_range
    (json_of body)
endpoint_in_range endpoint.ShowClient parts body = client_in_range parts
endpoint_in_range endpoint.SubmitLoan parts body = of_body IsInRange new_loan_request new_loan_in_range (json_of body)
endpoint_in_range endpoint.ListLoans parts body = loans_in_range parts
endpoint_in_range endpoint.ShowArrears parts body = tt
endpoint_in_range (endpoint.OnLoan which) parts body = loan_in_range which parts body

asked_in_range : (which : Option Endpoint) (parts : PathParts) (body : List ℕ) → IsInRange (asked_at which parts body)
asked_in_range None parts body = tt
asked_in_range (Some which) parts body = read (request_at which parts body) (endpoint_in_range which parts body)
  where
    read : (o : Option Request) → IfSome o IsInRange → IsInRange (or_malformed o)
    read None h = tt
    read (Some request) h = h

pub request_in_range : (method path body : List ℕ) → IsInRange (request_of method path body)
unfolding request_of
request_in_range method path body = routed (route_at path)
  where
    routed : (o : Option (RouteOf Methods)) → IsInRange (asked_on o method path body)
    routed None = tt
    routed (Some route) = asked_in_range (endpoint_of route.value (method_of method)) (parts_on route path) body

sent_in_range : (caller method path body : List ℕ) → IsInRange (asked_by caller method path body)
sent_in_range caller method path body = either (is_some (caller_of caller) && is_token method)
  where
    either : (b : Bool) → IsInRange (cond b (request_of method path body) (Unreadable Malformed))
    either true = request_in_range method path body
    either false = tt

pub parts_in_range : (p : Parts) → IsInRange (call_of_parts p).request
parts_in_range p = sent_in_range p.caller p.method p.path p.body

pub maybe_in_range : (o : Option Parts) → IsInRange (asked_in o)
maybe_in_range None = tt
maybe_in_range (Some p) = sent_in_range p.caller p.method p.path p.body

pub line_in_range : (told : Bool) (line : List ℕ) → IsInRange (call_in told line).request
line_in_range told line = short (nat_le (length line) longest_line)
  where
    short : (b : Bool) → IsInRange (cond b (asked_in (parts_in told line)) (Unreadable Malformed))
    short true = maybe_in_range (parts_in told line)
    short false = tt

-- so do those of a run, whichever calls its lines are
pub calls_in_range : {L : Type 0} (call_by : L → Call) → ((l : L) → IsInRange (call_by l).request) → (run : List Line)
    (lines : List L) → map (λ l. l.call) run ≡ map call_by lines → AreInRange run
calls_in_range call_by h [] lines e = tt
calls_in_range call_by h (l ∷ run) [] e = absurd (cc)
calls_in_range call_by h (l ∷ run) (b ∷ lines) e =
    let head : l.call ≡ call_by b = cc in
    let rest : map (λ m. m.call) run ≡ map call_by lines = cc in
    (subst (λ (c : Call). IsInRange c.request) (sym head) (h b), calls_in_range call_by h run lines rest)

use Rattle.std.proofs.Common.{◌≡◌, ℕ, ◌+◌, Option, Some, None, refl, sym, ap, ◌∙◌, arith, codes}
use Rattle.std.specs.Prelude.{List, option_and_then, option_map}
use Rattle.std.specs.Float.Numeral.{scan_numeral}
use Rattle.std.specs.Fmt.{digits}
use Rattle.std.specs.Str.{is_utf8, chars}
use Rattle.std.proofs.Math.Utf8.{encode}
use Rattle.json.specs.Json.{value}
use Rattle.json.specs.Lex.{punctuate, lex}
use Rattle.json.specs.Text.{content}
use Rattle.json.specs.Word.{word, after_number}
use Rattle.matchit.specs.Route.{scan}
use Rattle.matchit.specs.Seek.{param_step, seek}
use Rattle.serde_json.specs.Read.{number_of}
use Rattle.mf_base.specs.Calendar.{day_of, date_of}
use Rattle.mf_base.specs.DayText.{day_text, last_entered_day}
use Rattle.mf_base.proofs.DayTextLemmas.{day_text-injective}
use Rattle.mf_office.specs.Texts.{account_of}
use Rattle.mf_office.specs.Tree.{is_within, is_at_or_below}
use Rattle.mf_model.specs.declared.request.LoanRequest.TheVariants.{Repay}
use Rattle.mf_model.specs.declared.request.Request.{Request}
use Rattle.mf_model.specs.declared.request.Request.TheVariants.{Loan}
use Rattle.mf_wire_requests.specs.Bodies.{day_named}
use Rattle.mf_wire_requests.specs.Requests.{or_malformed, request_of}
use Rattle.mf_wire_requests.specs.Routes.{with_route, desk_routes, route_at}
use Rattle.mf_wire_requests.proofs.DayTexts.{day_among_is}
use Rattle.mf_lists.specs.WorkedLists.{first_due, worked_day}
use Rattle.mf_lists.specs.WorkedTakings.{repaying}
use Rattle.mf_lists.proofs.laws.worked_takings.Goals as goal

-- ---- what the first line of a day asks

written : codes "2024-02-29" ≡ day_text first_due
unfolding day_text date_of
written = refl

dated : day_named (codes "2024-02-29") ≡ Some first_due
dated = sym (day_among_is (last_entered_day + 1) (codes "2024-02-29") (Some first_due) (omega arith, written)
    (λ other below same. ap (λ d. Some d) (day_text-injective first_due other (sym written ∙ same))))

abbrev asked_by : Option ℕ → Request
asked_by found = or_malformed (option_map (λ asked. Loan (record { office = 2; number = 3 }) asked)
    (option_and_then (λ day. Some (Repay (record { amount = 34505; day = day; receipt = None }))) found))

asks : request_of (codes "POST") (repaying worked_day).path (repaying worked_day).body
    ≡ asked_by (day_named (codes "2024-02-29"))
unfolding request_of route_at desk_routes with_route seek param_step scan account_of digits is_utf8 chars encode
    value punctuate lex content word after_number number_of scan_numeral
asks = refl

pub returns-clause-of_day : goal.returns-clause-of_day
returns-clause-of_day c = refl

pub returns-clause-asked : goal.returns-clause-asked
returns-clause-asked c = asks ∙ ap asked_by dated

pub returns-clause-repaid : goal.returns-clause-repaid
returns-clause-repaid c = refl

pub returns-clause-paid_out : goal.returns-clause-paid_out
unfolding day_of date_of
returns-clause-paid_out c = refl

pub returns-clause-reversed : goal.returns-clause-reversed
returns-clause-reversed c = refl

pub returns-clause-no_entry : goal.returns-clause-no_entry
returns-clause-no_entry c = refl

pub returns-clause-penalty : goal.returns-clause-penalty
returns-clause-penalty c = refl

pub returns-clause-all_kept : goal.returns-clause-all_kept
returns-clause-all_kept c = refl

pub returns-clause-refunded : goal.returns-clause-refunded
returns-clause-refunded c = refl

pub returns-clause-overpaid_again : goal.returns-clause-overpaid_again
returns-clause-overpaid_again c = refl

pub returns-clause-by_person : goal.returns-clause-by_person
returns-clause-by_person c = refl

pub returns-clause-none : goal.returns-clause-none
unfolding is_at_or_below is_within
returns-clause-none c = refl

pub returns-clause-beside : goal.returns-clause-beside
unfolding is_at_or_below is_within
returns-clause-beside c = refl

pub returns-clause-no_journal : goal.returns-clause-no_journal
unfolding is_at_or_below is_within
returns-clause-no_journal c = refl

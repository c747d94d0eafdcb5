-- A morning that plays, and lines that stop.
use Rattle.std.proofs.Common.{◌≡◌, ℕ, suc, List, Some, None, refl, ap, arith, codes}
use Rattle.std.specs.Prelude.{option_map}
use Rattle.std.specs.List.{AllByRecursion}
use Rattle.std.specs.Str.{is_utf8, chars}
use Rattle.std.specs.Float.Numeral.{scan_numeral}
use Rattle.std.specs.Fmt.{digits}
use Rattle.std.proofs.Math.Utf8.{encode}
use Rattle.json.specs.Json.{value}
use Rattle.json.specs.Lex.{punctuate, lex}
use Rattle.json.specs.Text.{content}
use Rattle.json.specs.Word.{word, after_number}
use Rattle.matchit.specs.Route.{scan}
use Rattle.matchit.specs.Seek.{param_step, seek}
use Rattle.serde_json.specs.Read.{number_of}
use Rattle.mf_base.specs.declared.fault.Fault.TheVariants.{F2}
use Rattle.mf_office.specs.Texts.{account_of}
use Rattle.mf_office.specs.Tree.{is_within, is_at_or_below}
use Rattle.mf_model.specs.Calls.{Call}
use Rattle.mf_model.specs.Institution.{Institution, JournalLine, Change, Rows_become, after_noted}
use Rattle.mf_model.specs.Offices.{client_added}
use Rattle.mf_model.specs.Run.{noted_of}
use Rattle.mf_model.specs.Store.{rows_at}
use Rattle.mf_model.specs.Unseen.{call_from}
use Rattle.mf_model.specs.WorkedRows.{enter_client, client_shown_request, account}
use Rattle.mf_model.specs.declared.reply.Names.{Names}
use Rattle.mf_model.specs.declared.reply.Reply.TheVariants.{ClientShown}
use Rattle.mf_wire_requests.specs.Requests.{request_of}
use Rattle.mf_wire_requests.specs.Routes.{with_route, desk_routes, route_at}
use Rattle.mf_play.specs.declared.stop.Stop.{Stop}
use Rattle.mf_play.specs.declared.stop.Stop.TheVariants.{NoRequest, OtherDay, Refused, ChangesNothing, NamesOther}
use Rattle.mf_play.specs.Play.{asked_by_text, text_told, call_told, IsPlayed, PlaysTo, StopsFor, StopsAt}
use Rattle.mf_play.specs.WorkedPlay.{opened, client_line, shown_line, morning, after_morning, stopping, morning_with}

-- what the lines ask
record Ask (day : ℕ) : Type 0 where
  pub amina : asked_by_text (text_told (client_line day (codes "Amina"))) ≡ Some (enter_client 1 (codes "Amina"))
  pub carla : asked_by_text (text_told (client_line day (codes "Carla"))) ≡ Some (enter_client 1 (codes "Carla"))
  pub shown : asked_by_text (text_told (shown_line day)) ≡ Some (client_shown_request 1 1)
  pub unread : asked_by_text (text_told (record (client_line day (codes "Carla")) { path = codes "/client" })) ≡ None

ask : (day : ℕ) → Ask day
unfolding request_of route_at desk_routes with_route seek param_step scan account_of digits is_utf8 chars encode
    value punctuate lex content word after_number number_of scan_numeral
ask day = record { amina = refl; carla = refl; shown = refl; unread = refl }

-- the request of a line, and who sends it
abbrev entering : ℕ → List ℕ → Call
entering day name =
    call_from (record { office = 1; staff = 1 }) (enter_client 1 name) (text_told (client_line day name))

told_entering : (day : ℕ) (name : List ℕ) → asked_by_text (text_told (client_line day name))
    ≡ Some (enter_client 1 name) → call_told (client_line day name) ≡ Some (entering day name)
told_entering day name e =
    ap (option_map (λ r. call_from (record { office = 1; staff = 1 }) r (text_told (client_line day name)))) e

-- the change that enters a client
abbrev entered : List ℕ → Institution → Change
entered name i = Rows_become 1 (client_added name (rows_at 1 i))

-- the institution after the first line
abbrev after_amina : ℕ → Institution
after_amina day = after_noted (noted_of (entering day (codes "Amina")) (opened day))
    (entered (codes "Amina") (opened day)) (opened day)

first : (day : ℕ) → IsPlayed (opened day) (client_line day (codes "Amina")) (after_amina day)
unfolding is_at_or_below is_within
first day = record {
  call = entering day (codes "Amina");
  told = told_entering day (codes "Amina") (ask day).amina;
  day = refl;
  change = entered (codes "Amina") (opened day);
  accepted = refl;
  names = refl;
  follows = refl;
}

second : (day : ℕ) → IsPlayed (after_amina day) (client_line day (codes "Carla")) (after_morning day)
unfolding is_at_or_below is_within
second day = record {
  call = entering day (codes "Carla");
  told = told_entering day (codes "Carla") (ask day).carla;
  day = refl;
  change = entered (codes "Carla") (after_amina day);
  accepted = refl;
  names = refl;
  follows = refl;
}

pub plays : (day : ℕ) → PlaysTo (opened day) (morning day) (after_morning day)
plays day = (after_amina day, first day, (after_morning day, second day, refl))

-- what stops as the second line
as_second : (day : ℕ) (line : JournalLine) (why : Stop) → StopsFor (after_amina day) line why
    → StopsAt (opened day) (morning_with day line) 1 why
as_second day line why s = record {
  reached = after_amina day;
  before = (after_amina day, first day, refl);
  line = line;
  there = refl;
  stops = s;
}

other_day : (day : ℕ) → StopsFor (after_amina day) (client_line (suc day) (codes "Carla")) OtherDay
other_day day = (
  entering (suc day) (codes "Carla"),
  told_entering (suc day) (codes "Carla") (ask (suc day)).carla,
  λ same. omega (arith, same),
)

refused : (day : ℕ) → StopsFor (after_amina day) (record (client_line day (codes "Carla")) { staff = 7 }) Refused
refused day = (
  call_from (record { office = 1; staff = 7 }) (enter_client 1 (codes "Carla"))
      (text_told (client_line day (codes "Carla"))),
  (
    ap (option_map (λ r. call_from (record { office = 1; staff = 7 }) r (text_told (client_line day (codes "Carla")))))
        (ask day).carla,
    refl,
  ),
  F2,
  refl,
)

nothing : (day : ℕ) → StopsFor (after_amina day) (shown_line day) ChangesNothing
unfolding is_at_or_below is_within
nothing day = (
  call_from (record { office = 1; staff = 1 }) (client_shown_request 1 1) (text_told (shown_line day)),
  (
    ap (option_map (λ r. call_from (record { office = 1; staff = 1 }) r (text_told (shown_line day))))
        (ask day).shown,
    refl,
  ),
  ClientShown (account 1 1) (codes "Amina"),
  refl,
)

other_names : (day : ℕ)
    → StopsFor (after_amina day) (record (client_line day (codes "Carla")) { named_loan = 1 }) NamesOther
unfolding is_at_or_below is_within
other_names day = (
  entering day (codes "Carla"),
  (told_entering day (codes "Carla") (ask day).carla, refl),
  entered (codes "Carla") (after_amina day),
  refl,
  λ same. let loan : 1 ≡ 0 = ap (λ (n : Names). n.loan) same in absurd (cc),
)

pub stops : (day : ℕ) → AllByRecursion (λ (row : JournalLine × Stop). StopsAt (opened day) (morning_with day row.0) 1
    row.1) (stopping day)
stops day = (
  as_second day (record (client_line day (codes "Carla")) { path = codes "/client" }) NoRequest
      (ap (option_map (λ r. call_from (record { office = 1; staff = 1 }) r
      (text_told (record (client_line day (codes "Carla")) { path = codes "/client" })))) (ask day).unread),
  (
    as_second day (client_line (suc day) (codes "Carla")) OtherDay (other_day day),
    (
      as_second day (record (client_line day (codes "Carla")) { staff = 7 }) Refused (refused day),
      (
        as_second day (shown_line day) ChangesNothing (nothing day),
        (as_second day (record (client_line day (codes "Carla")) { named_loan = 1 }) NamesOther (other_names day), tt),
      ),
    ),
  ),
)

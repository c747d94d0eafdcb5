-- Which route a path has: `matchit`'s word, over the table of paths and their methods.
use Rattle.std.specs.Prelude.{ℕ, Bool, true, false, ◌&&◌, is_none, List, [], ◌∷◌, codes, cond, Result, Ok, Err, Option}
use Rattle.std.specs.Prelude.{None, fold}
use Rattle.std.specs.Borrow.{Bor}
use Rattle.std.specs.Char.{is_ascii}
use Rattle.std.specs.List.{list_all}
use Rattle.std.specs.Str.{is_utf8}
use Rattle.matchit.specs.Rows.{RowsOf}
use Rattle.matchit.specs.Route.{Scan, parse_route}
use Rattle.matchit.specs.Order.{placed}
use Rattle.matchit.specs.Params.{walk}
use Rattle.matchit.specs.Router.{RouteOf, route_from, nearest}
use Rattle.matchit.specs.Seek.{first}
use Rattle.matchit.specs.declared.error.InsertError.{InsertError}
use Rattle.matchit.specs.declared.router.Match.{Match}
use Rattle.mf_model.specs.declared.request.PlainStep.TheVariants.{Approve, Reject, Withdraw, UndoApproval}
use Rattle.mf_wire_requests.specs.declared.routes.Endpoint.TheVariants.{ShowDay, SetDay, AddCharge, ShowCharge}
use Rattle.mf_wire_requests.specs.declared.routes.Endpoint.TheVariants.{AddProduct, ShowProduct, RetireProduct}
use Rattle.mf_wire_requests.specs.declared.routes.Endpoint.TheVariants.{ListOffices, AddOffice, AddStaff, AddClient}
use Rattle.mf_wire_requests.specs.declared.routes.Endpoint.TheVariants.{ShowClient, SubmitLoan, ListLoans, ShowArrears}
use Rattle.mf_wire_requests.specs.declared.routes.Endpoint.TheVariants.{OnLoan}
use Rattle.mf_wire_requests.specs.declared.routes.LoanEndpoint.TheVariants.{Show, ShowInstalments, ShowEntries, Step}
use Rattle.mf_wire_requests.specs.declared.routes.LoanEndpoint.TheVariants.{Disburse, Repay, ChargeFee, ChargePenalty}
use Rattle.mf_wire_requests.specs.declared.routes.LoanEndpoint.TheVariants.{Waive, WriteOff, Refund, Reverse}
use Rattle.mf_wire_requests.specs.declared.routes.Methods.{Methods}
use Rattle.mf_wire_requests.specs.declared.routes.Methods.TheVariants.{Get, Post, GetAndPost, GetAndPut}
use Rattle.mf_wire_requests.specs.PathParts.{PathParts}

-- the routes with one more, where its text can be read
abbrev pub with_parsed : Result Scan InsertError → Methods → RowsOf (RouteOf Methods) → RowsOf (RouteOf Methods)
with_parsed (Ok s) value rows = placed (s.pattern, route_from s value) rows
with_parsed (Err e) value rows = rows

-- the routes with one more
unfoldable pub with_route : RowsOf (RouteOf Methods) → List ℕ × Methods → RowsOf (RouteOf Methods)
with_route rows route = with_parsed (parse_route route.0) route.1 rows

-- the routes of a table
abbrev pub routes_of : List (List ℕ × Methods) → RowsOf (RouteOf Methods)
routes_of table = fold with_route [] table

-- a router takes a route: its path reads, and no route that is there conflicts with it
abbrev pub takes_parsed : Result Scan InsertError → RowsOf (RouteOf Methods) → Bool
takes_parsed (Ok s) rows = is_none (nearest s.pattern rows)
takes_parsed (Err e) rows = false

-- a route can be added to these
unfoldable pub takes_route : RowsOf (RouteOf Methods) → List ℕ × Methods → Bool
takes_route rows route = takes_parsed (parse_route route.0) rows

-- the same of the routes of a table, one after another
abbrev pub takes_table : RowsOf (RouteOf Methods) → List (List ℕ × Methods) → Bool
takes_table rows [] = true
takes_table rows (route ∷ table) = takes_route rows route && takes_table (with_route rows route) table

-- the table of routes: the paths, as `matchit` writes them, with their methods
abbrev pub desk_table : List (List ℕ × Methods)
desk_table =
    (codes "/offices", GetAndPost ListOffices AddOffice)
    ∷ (codes "/staff", Post AddStaff)
    ∷ (codes "/business-day", GetAndPut ShowDay SetDay)
    ∷ (codes "/charges", Post AddCharge)
    ∷ (codes "/charges/{charge}", Get ShowCharge)
    ∷ (codes "/products", Post AddProduct)
    ∷ (codes "/products/{product}", Get ShowProduct)
    ∷ (codes "/products/{product}/retire", Post RetireProduct)
    ∷ (codes "/clients", Post AddClient)
    ∷ (codes "/clients/{client}", Get ShowClient)
    ∷ (codes "/loans", Post SubmitLoan)
    ∷ (codes "/loans/{loan}", Get (OnLoan Show))
    ∷ (codes "/loans/{loan}/schedule", Get (OnLoan ShowInstalments))
    ∷ (codes "/loans/{loan}/entries", Get (OnLoan ShowEntries))
    ∷ (codes "/loans/{loan}/approve", Post (OnLoan (Step Approve)))
    ∷ (codes "/loans/{loan}/reject", Post (OnLoan (Step Reject)))
    ∷ (codes "/loans/{loan}/withdraw", Post (OnLoan (Step Withdraw)))
    ∷ (codes "/loans/{loan}/undo-approval", Post (OnLoan (Step UndoApproval)))
    ∷ (codes "/loans/{loan}/disburse", Post (OnLoan Disburse))
    ∷ (codes "/loans/{loan}/repayments", Post (OnLoan Repay))
    ∷ (codes "/loans/{loan}/fees", Post (OnLoan ChargeFee))
    ∷ (codes "/loans/{loan}/penalties", Post (OnLoan ChargePenalty))
    ∷ (codes "/loans/{loan}/waivers", Post (OnLoan Waive))
    ∷ (codes "/loans/{loan}/write-off", Post (OnLoan WriteOff))
    ∷ (codes "/loans/{loan}/refund", Post (OnLoan Refund))
    ∷ (codes "/loans/{loan}/entries/{entry}/reverse", Post (OnLoan Reverse))
    ∷ (codes "/offices/{office}/loans/{after}", Get ListLoans)
    ∷ (codes "/reports/arrears", Get ShowArrears)
    ∷ []

-- the routes of the desk
unfoldable pub desk_routes : RowsOf (RouteOf Methods)
desk_routes = routes_of desk_table

-- the route of a path, if it has one
unfoldable pub route_at : List ℕ → Option (RouteOf Methods)
route_at path = cond (is_utf8 path) (first desk_routes path) None

-- the same as `matchit` gives it
abbrev pub matched_route : Match (Bor Methods) → RouteOf Methods
matched_route m = record {
  pattern = m.params.pattern.now;
  text = m.params.text.now;
  names = m.params.names.now;
  value = m.value.now;
}

-- what the parameters of a route took of a path; nothing where a byte of the path is not of ASCII
abbrev pub parts_on : RouteOf Methods → List ℕ → PathParts
parts_on route path = cond (list_all is_ascii path) (walk route.pattern route.text path route.names 0 0) []

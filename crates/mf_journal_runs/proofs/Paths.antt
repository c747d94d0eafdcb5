-- The path by which a repayment is noted has the route of repayments, whose parameter is the loan.
use Rattle.std.proofs.Common.{◌≡◌, ℕ, ◌+◌, ◌-◌, ◌<◌, true, cond, List, [], ◌∷◌, ◌++◌, length}
use Rattle.std.proofs.Common.{length-append, take, Some, None, refl, ap, ap₂, ◌∙◌, arith, le-leb}
use Rattle.std.specs.Prelude.{◌&&◌, codes}
use Rattle.std.specs.Char.{is_ascii}
use Rattle.std.specs.List.{list_all, list_any}
use Rattle.std.proofs.Math.Seq.{take-append_seam}
use Rattle.std.proofs.lemmas.Bool.{lt-ltb}
use Rattle.std.proofs.lemmas.List.Folds.{list_all-append}
use Rattle.std.proofs.lemmas.Str.{IsUtf8-from_ascii, is_utf8-from_IsUtf8}
use Rattle.matchit.specs.Params.{part_of, wild_from, wild_stop, walk}
use Rattle.matchit.specs.Rows.{RowsOf, param_token, catch_all_token}
use Rattle.matchit.specs.Router.{RouteOf}
use Rattle.matchit.specs.Seek.{step, with_suffix, seek, first}
use Rattle.matchit.proofs.OnLiterals.{matchit_on_literals}
use Rattle.mf_wire_requests.specs.declared.routes.Endpoint.TheVariants.{OnLoan}
use Rattle.mf_wire_requests.specs.declared.routes.LoanEndpoint.TheVariants.{Repay}
use Rattle.mf_wire_requests.specs.declared.routes.Methods.{Methods}
use Rattle.mf_wire_requests.specs.declared.routes.Methods.TheVariants.{Post}
use Rattle.mf_wire_requests.specs.PathParts.{PathParts}
use Rattle.mf_wire_requests.specs.Routes.{with_route, desk_routes, route_at, parts_on}
use Rattle.mf_wire_requests.proofs.Matched.{ascii_bytes}
use Rattle.mf_journal_runs.proofs.Figures.{AreFigures, figures_ascii}
use Rattle.mf_journal_runs.proofs.Walks.{segment_is, begins_param, ends_or_slash, has_more, down, is_nothing}
use Rattle.mf_journal_runs.proofs.Walks.{has_no_params, nothing_is, seek_words, seek_past}

-- the path of the repayments of a loan
abbrev pub path_of : List ℕ → List ℕ
path_of loan = codes "/loans/" ++ (loan ++ codes "/repayments")

-- its route
abbrev pub repayments_route : RouteOf Methods
repayments_route = record {
  pattern = codes "/loans/" ++ param_token ∷ codes "/repayments";
  text = codes "/loans/{loan}/repayments";
  names = (8, 12) ∷ [];
  value = Post (OnLoan Repay);
}

-- the rows of the routes of loans
abbrev of_loans : RowsOf (RouteOf Methods)
of_loans = down (codes "/loans/") desk_routes

-- what they are like
record AreOfLoans : Type 0 where
  pub word : has_no_params (codes "/loans/") desk_routes ≡ true
  pub params : list_all (λ row. begins_param row.0) of_loans ≡ true
  pub no_rest : is_nothing (step catch_all_token of_loans) ≡ true
  pub slashes : list_all (λ row. ends_or_slash row.0) (step param_token of_loans) ≡ true
  pub more : list_any (λ row. has_more row.0) (step param_token of_loans) ≡ true
  pub last : seek 0 (with_suffix (47 ∷ []) (step param_token of_loans)) (codes "/repayments") ≡ Some repayments_route

are_of_loans : AreOfLoans
unfolding desk_routes with_route matchit_on_literals
are_of_loans = record { word = refl; params = refl; no_rest = refl; slashes = refl; more = refl; last = refl }

route_found : (x : ℕ) (xs : List ℕ) → AreFigures (x ∷ xs)
    → first desk_routes (path_of (x ∷ xs)) ≡ Some repayments_route
route_found x xs figures =
    let are = are_of_loans in
    seek_words (codes "/loans/") desk_routes ((x ∷ xs) ++ codes "/repayments") are.word
    ∙ seek_past of_loans x xs (codes "repayments") figures are.params
    (nothing_is (step catch_all_token of_loans) are.no_rest) are.slashes are.more
    ∙ are.last

path_ascii : (loan : List ℕ) → AreFigures loan → list_all is_ascii (path_of loan) ≡ true
path_ascii loan figures = list_all-append is_ascii loan (codes "/repayments")
    ∙ ap₂ (λ a b. a && b) (figures_ascii loan figures) refl

pub route_is : (x : ℕ) (xs : List ℕ) → AreFigures (x ∷ xs)
    → route_at (path_of (x ∷ xs)) ≡ Some repayments_route
unfolding route_at
route_is x xs figures =
    let path = path_of (x ∷ xs) in
    ap (λ b. cond b (first desk_routes path) None) (is_utf8-from_IsUtf8 path (IsUtf8-from_ascii path
    (ascii_bytes path (path_ascii (x ∷ xs) figures)))) ∙ route_found x xs figures

-- ---- what the parameter takes

wild_is : (len : ℕ) → 7 < len → wild_from repayments_route.pattern len 0 0 ≡ (7, 7)
wild_is len h = rw (
  lt-ltb 0 len (omega arith),
  lt-ltb 1 len (omega arith),
  lt-ltb 2 len (omega arith),
  lt-ltb 3 len (omega arith),
  lt-ltb 4 len (omega arith),
  lt-ltb 5 len (omega arith),
  lt-ltb 6 len (omega arith),
)

part_is : (loan : List ℕ) → AreFigures loan
    → part_of (path_of loan) 7 (wild_stop repayments_route.pattern 7 (path_of loan) 7) ≡ loan
part_is loan figures =
    let rest = loan ++ codes "/repayments" in
    let whole : length rest ≡ length loan + 11 = length-append loan (codes "/repayments") in
    let first : length (loan ++ 47 ∷ []) ≡ length loan + 1 = length-append loan (47 ∷ []) in
    let stop : wild_stop repayments_route.pattern 7 (path_of loan) 7 ≡ 7 + length loan =
    ap (λ s. 7 + length s - 1) (segment_is loan (codes "repayments") figures) ∙ omega arith in
    let total : length (path_of loan) ≡ 7 + length rest = omega arith in
    let taken : 7 + length loan - 7 ≡ length loan = omega arith in
    ap (part_of (path_of loan) 7) stop
    ∙ ap (λ b. cond b (take (7 + length loan - 7) rest) []) (ap₂ (λ a b. a && b)
    (le-leb 7 (7 + length loan) (omega arith)) (le-leb (7 + length loan) (length (path_of loan)) (omega arith)))
    ∙ ap (λ n. take n rest) taken
    ∙ take-append_seam loan (codes "/repayments")

pub parts_are : (loan : List ℕ) → AreFigures loan
    → parts_on repayments_route (path_of loan) ≡ (codes "loan", loan) ∷ []
parts_are loan figures =
    let path = path_of loan in
    let long : 7 < length path = omega (arith, length-append loan (codes "/repayments")) in
    ap (λ b. let parts : PathParts = cond b (walk repayments_route.pattern repayments_route.text path
    repayments_route.names 0 0) [] in parts) (path_ascii loan figures)
    ∙ ap (λ (w : ℕ × ℕ). let parts : PathParts =
    (codes "loan", part_of path w.1 (wild_stop repayments_route.pattern w.0 path w.1)) ∷ [] in parts)
    (wild_is (length path) long)
    ∙ ap (λ part. let parts : PathParts = (codes "loan", part) ∷ [] in parts) (part_is loan figures)

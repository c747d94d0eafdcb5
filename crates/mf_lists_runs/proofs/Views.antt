-- What a line is told is read off what its sender's office sees.
use Rattle.std.proofs.Common.{◌≡◌, inl, inr, ℕ, Bool, true, false, cond, List, [], ◌∷◌, Option, Some, None, Result, Ok}
use Rattle.std.proofs.Common.{Err, refl, sym, ap, ap₂, subst, arith, ◌∙◌}
use Rattle.std.specs.Prelude.{◌==◌, ◌&&◌, not, take}
use Rattle.std.proofs.lemmas.Bool.Decides.{nat_tests}
use Rattle.mf_base.specs.declared.fault.Fault.{Fault}
use Rattle.mf_base.specs.declared.fault.Fault.TheVariants.{F20}
use Rattle.mf_lists.specs.declared.answer.ListAnswer.{ListAnswer}
use Rattle.mf_lists.specs.declared.request.ListRequest.{ListRequest}
use Rattle.mf_lists.specs.Changes.{lines_seen_in, view_with_lines}
use Rattle.mf_lists.specs.Readings.{list_reply}
use Rattle.mf_lists.proofs.ListLemmas.{reply-by_view}
use Rattle.mf_model.specs.Calls.{Call}
use Rattle.mf_model.specs.Desk.{reply_in}
use Rattle.mf_model.specs.declared.reply.Reply.{Reply}
use Rattle.mf_model.specs.Institution.{Institution}
use Rattle.mf_model.specs.Run.{Line, answer, next, last, from_office, from_caller, is_of, replies_to}
use Rattle.mf_journal.proofs.Noting.{notes, unread}
use Rattle.mf_model.specs.Tree.{IsTree, view}
use Rattle.mf_model.proofs.Views.{outcome_view}
use Rattle.mf_model.proofs.Runs.{AreFrom, IsTree_next, isolated_view, office_from, caller_from}
use Rattle.mf_office.specs.declared.caller.Caller.{Caller}
use Rattle.mf_lists_runs.specs.Choice.{Choice, Told, IsReadByViews, all_told, asks_list, list_asked}
use Rattle.mf_lists_runs.specs.Choice.{list_told_to, told_by_views, told_of}

same_office : (c : Caller) (o : ℕ) → (c.office == o) ≡ true → c.office ≡ o
same_office c o e = grind (arith, nat_tests)

-- a list that a member of staff of an office is told
list_view : (folded : List ℕ → List ℕ) (o : ℕ) (caller : Option Caller) (asked : Result ListRequest Fault)
    (i : Institution) → is_of o caller ≡ true → list_told_to folded caller asked (view_with_lines o i)
    ≡ list_told_to folded caller asked i
list_view folded o None asked i e = absurd (cc)
list_view folded o (Some c) (Err fault) i e = refl
list_view folded o (Some c) (Ok request) i e =
    subst (λ x. list_reply folded c request (view_with_lines x i) ≡ list_reply folded c request i) (same_office c o e)
    (reply-by_view folded c request i)

-- the first of some replies
abbrev first_reply : List (Result Reply Fault) → Result Reply Fault
first_reply [] = Err F20
first_reply (r ∷ rs) = r

-- a reply is read off the view, and not off the journal
answer_view : (o : ℕ) (l : Line) (i : Institution) → IsTree i.offices → from_office o l.call ≡ true
    → answer l (view_with_lines o i) ≡ answer l i
answer_view o l i t own =
    ap first_reply (unread (l ∷ []) (lines_seen_in o i i.journal) (view o i))
    ∙ ap (λ x. cond l.given_up (Err F20) (reply_in x)) (outcome_view o l.call i t own)

pub told_view : (choice : Choice) (o : ℕ) (l : Line) (i : Institution) → IsTree i.offices
    → from_office o l.call ≡ true → told_of choice l (view_with_lines o i) ≡ told_of choice l i
told_view None o l i t own = ap inl (answer_view o l i t own)
told_view (Some folded) o l i t own =
    ap₂ (λ (x : Result ListAnswer Fault) (r : Result Reply Fault). let told : Told = cond (not l.given_up
    && asks_list l.call) (inr x) (inl r) in told)
    (list_view folded o l.call.caller (list_asked l.call.received) i own) (answer_view o l i t own)

-- the calls that are meant are told what the views answer
by_views : (choice : Choice) (o : ℕ) (meant : Call → Bool) → AreFrom o meant → (run : List Line) (i : Institution)
    → IsTree i.offices → replies_to meant run (all_told choice run i) ≡ told_by_views choice meant o run i
by_views choice o meant from [] i t = refl
by_views choice o meant from (l ∷ run) i t =
    step (meant l.call) refl (by_views choice o meant from run (next l i) (IsTree_next l i t))
  where
    step : (own : Bool) → meant l.call ≡ own → replies_to meant run (all_told choice run (next l i))
        ≡ told_by_views choice meant o run (next l i) → cond own (told_of choice l i
        ∷ replies_to meant run (all_told choice run (next l i))) (replies_to meant run (all_told choice run (next l i)))
        ≡ cond own (told_of choice l (view_with_lines o i) ∷ told_by_views choice meant o run (next l i))
        (told_by_views choice meant o run (next l i))
    step false e rest = rest
    step true e rest =
        ap₂ (λ (x : Told) (xs : List Told). x ∷ xs) (sym (told_view choice o l i t (from.own l.call e))) rest

pub read_by_views : (choice : Choice) (run : List Line) (i : Institution) → IsTree i.offices
    → IsReadByViews choice i run
read_by_views choice run i t = record {
  views = λ o n. isolated_view o (take n run) i t;
  lines = λ o n. ap (lines_seen_in o (last (take n run) i)) (notes (take n run) i);
  office = λ o. by_views choice o (from_office o) (office_from o) run i t;
  own = λ c. by_views choice c.office (from_caller c) (caller_from c) run i t;
}

-- Postings that move nothing are in no text.
use Rattle.std.proofs.Common.{◌≡◌, Bool, true, false, cond, List, [], ◌∷◌, ◌++◌, refl, sym, ap, ◌∙◌}
use Rattle.std.specs.Prelude.{◌||◌, codes, map}
use Rattle.mf_ledger.specs.Books.{is_moved, some_moves}
use Rattle.mf_ledger.specs.Sheet.{fields_of, sheet_text}
use Rattle.mf_ledger.specs.Text.{booked_text, heading, moved_text, posting_text, postings_text}
use Rattle.mf_ledger.specs.declared.books.Posting.{Posting}
use Rattle.mf_ledger.specs.declared.names.GivenName.{GivenName}
use Rattle.mf_ledger.specs.declared.names.Program.{Program}
use Rattle.mf_ledger.specs.declared.names.Program.TheVariants as program
use Rattle.mf_ledger.specs.declared.occasion.Occasion.{Occasion}
use Rattle.mf_ledger_play.specs.Opening.{moving}
use Rattle.mf_ledger_play.specs.Told.{form_booked}
use Rattle.mf_ledger_play.specs.declared.form.BooksForm.{BooksForm}
use Rattle.mf_ledger_play.specs.declared.form.BooksForm.TheVariants.{Hledger, Beancount, Sheet}

-- some of them move something where some of those do
moves_same : (ps : List Posting) → some_moves (moving ps) ≡ some_moves ps
moves_same [] = refl
moves_same (p ∷ ps) = go (is_moved p.amount) refl (moves_same ps)
  where
    go : (b : Bool) → is_moved p.amount ≡ b → some_moves (moving ps) ≡ some_moves ps
        → some_moves (cond b (p ∷ moving ps) (moving ps)) ≡ (is_moved p.amount || some_moves ps)
    go true e rest = ap (λ b. is_moved p.amount || b) rest
    go false e rest = rest ∙ sym (ap (λ b. b || some_moves ps) e)

-- their lines are those
lines_same : (which : Program) (gs : List GivenName) (ps : List Posting)
    → postings_text which gs (moving ps) ≡ postings_text which gs ps
lines_same which gs [] = refl
lines_same which gs (p ∷ ps) = go (is_moved p.amount) refl (lines_same which gs ps)
  where
    go : (b : Bool) → is_moved p.amount ≡ b → postings_text which gs (moving ps) ≡ postings_text which gs ps
        → postings_text which gs (cond b (p ∷ moving ps) (moving ps))
        ≡ posting_text which gs p ++ postings_text which gs ps
    go true e rest = ap (λ text. posting_text which gs p ++ text) rest
    go false e rest =
        rest ∙ sym (ap (λ b. cond b (moved_text which gs p) [] ++ postings_text which gs ps) e)

text_same : (which : Program) (gs : List GivenName) (o : Occasion) (ps : List Posting)
    → booked_text which gs o (moving ps) ≡ booked_text which gs o ps
text_same which gs o ps =
    ap (λ b. cond b (heading which o ++ (postings_text which gs (moving ps) ++ codes "\n")) []) (moves_same ps)
    ∙ ap (λ text. cond (some_moves ps) (heading which o ++ (text ++ codes "\n")) []) (lines_same which gs ps)

-- they are kept
moving_again : (ps : List Posting) → moving (moving ps) ≡ moving ps
moving_again [] = refl
moving_again (p ∷ ps) = go (is_moved p.amount) refl (moving_again ps)
  where
    go : (b : Bool) → is_moved p.amount ≡ b → moving (moving ps) ≡ moving ps
        → moving (cond b (p ∷ moving ps) (moving ps)) ≡ cond b (p ∷ moving ps) (moving ps)
    go true e rest =
        ap (λ b. cond b (p ∷ moving (moving ps)) (moving (moving ps))) e ∙ ap (λ qs. p ∷ qs) rest
    go false e rest = rest

pub form_same : (form : BooksForm) (gs : List GivenName) (o : Occasion) (ps : List Posting)
    → form_booked form gs o (moving ps) ≡ form_booked form gs o ps
form_same Hledger gs o ps = text_same program.Hledger gs o ps
form_same Beancount gs o ps = text_same program.Beancount gs o ps
form_same Sheet gs o ps = ap (λ qs. sheet_text (map (fields_of gs o) qs)) (moving_again ps)
